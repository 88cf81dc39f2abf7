-- Each return is one clause of `line_of` at what is left of the text: a pair of bytes, or the last one, came off its front.
use Prim.Native.Nat.{ℕ, ◌+◌, ◌*◌, ◌-◌, ◌%◌, ◌<◌}
use mathlib.Core.Bool.{Bool, true, false, ◌&&◌}
use mathlib.Core.List.{List, [], ◌∷◌, ◌++◌, append-nil}
use mathlib.Core.Path.{◌≡◌, sym, ap, ap₂, ◌∙◌, subst₂}
use native.Mathlib.Omega.{arith}
use lib.ListN.{length, drop, get_or, length-append}
use lib.Seq.{drop-append-add}
use Rattle.std.specs.Slice.Iter.{chunks_exact_rest, chunks_exact_size}
use Rattle.std.specs.Prelude.{Some, None}
use Rattle.digits.specs.Digits.{broken, push, line_of, digit, is_digit}
use Rattle.digits.specs.Steps.Scan.{scanned}
use Rattle.digits.proofs.DigitLaws.{end_front, odd_front, bad_front, pair_front, scanned_end, scanned_push}
use Rattle.digits.proofs.scan_line.Invariants.{Scanning}
use Rattle.digits.proofs.scan_line.Goals as goal

module _ {t : List ℕ} {size count sum : ℕ} {last left : List ℕ} (w : Scanning t size last left count sum) (x l : List ℕ) (cut : left ≡ x ++ l) where
  whole : scanned count sum (line_of (x ++ l)) ≡ scanned 0 0 (line_of t)
  whole = ap (λ (u : List ℕ). scanned count sum (line_of u)) (sym cut) ∙ w.whole

  breaks : line_of (x ++ l) ≡ broken → None ≡ scanned 0 0 (line_of t)
  unfolding scanned
  breaks e = ap (scanned count sum) (sym e) ∙ whole

  ends : 0 < length x → get_or x 0 0 ≡ 10 → Some (record { count = count; sum = sum }) ≡ scanned 0 0 (line_of t)
  ends h e =
      let f = end_front x l h e in
      sym (scanned_end count sum f.0 w.small) ∙ ap (scanned count sum) (sym f.1) ∙ whole

  goes_on : {b size' : ℕ} → size' ≡ size → length x ≡ 2 → (get_or x 0 0 ≡ 10 → ⊥) → (is_digit (get_or x 0 0) && is_digit (get_or x 1 0)) ≡ true
      → b ≡ 16 * digit (get_or x 0 0) + digit (get_or x 1 0) → Scanning t size' last l (count + 1) ((sum + b) % 256)
  goes_on {b} s n e d h =
      record {
        twos = s ∙ w.twos;
        few = omega (arith, w.few, ap length cut, length-append x l);
        small = omega arith;
        tail =
            let m : length left - length left % 2 ≡ length x + (length l - length l % 2) = omega (arith, ap length cut, length-append x l) in
            sym (drop-append-add x l (length l - length l % 2)) ∙ ap₂ drop (sym m) (sym cut) ∙ w.tail;
        whole =
            sym (scanned_push count sum b (line_of l)) ∙ ap (λ (y : ℕ). scanned count sum (push y (line_of l))) h
            ∙ ap (scanned count sum) (sym (pair_front x l n e d)) ∙ whole;
      }

none_left : {t : List ℕ} {size count sum : ℕ} {last left : List ℕ} → Scanning t size last left count sum → length left ≡ 0
    → None ≡ scanned 0 0 (line_of t)
unfolding scanned line_of
none_left {left = []} w e = w.whole
none_left {left = a ∷ l} w e = absurd (omega arith)

starts : {t : List ℕ} {size : ℕ} {last left : List ℕ} → size ≡ 2 → left ≡ t → last ≡ drop (length t - length t % 2) t → Scanning t size last left 0 0
starts s e l = record { twos = s; tail = rw e (sym l); few = omega (arith, ap length e); small = omega arith; whole = rw e }

-- what is left after the last pair
last_left : {t : List ℕ} {size count sum : ℕ} {last left : List ℕ} → Scanning t size last left count sum → length left < size → left ≡ last ++ []
last_left {last = last} {left = left} w h =
    let z : length left - length left % 2 ≡ 0 = omega (arith, w.twos) in
    (rw z at w.tail) ∙ sym (append-nil last)

pub loop-pair-init : goal.loop-pair-init
loop-pair-init c =
    let p = c.chunks_exact-pairs.ensures in
    let i = c.into_iter-pair-iterator.ensures.into_iter_gives in
    starts (ap chunks_exact_size i ∙ p.size) (ap chunks_exact_rest i ∙ p.rest) (c.remainder-last.ensures ∙ p.remainder)

pub returns-then-pair-eq10 : goal.returns-then-pair-eq10
returns-then-pair-eq10 c =
    let n = c.in-Some.ensures.steps.1 in
    ends c.loop-pair.invariant c.in-Some.pair.now (chunks_exact_rest c.next.new.self) n.0 (omega (arith, n.1, c.loop-pair.invariant.twos))
    c.if-pair-eq10.true

pub returns-then-not-is_digit : goal.returns-then-not-is_digit
returns-then-not-is_digit c =
    let x = c.in-Some.pair.now in
    let l = chunks_exact_rest c.next.new.self in
    let n = c.in-Some.ensures.steps.1 in
    breaks c.loop-pair.invariant x l n.0
    (bad_front x l (omega (arith, n.1, c.loop-pair.invariant.twos)) c.if-pair-eq10.false
    (subst₂ (λ (a b : Bool). (a && b) ≡ false) c.is_digit.ensures c.is_digit-in-loop-pair.ensures c.if-not-is_digit.true))

pub loop-pair-preserved : goal.loop-pair-preserved
loop-pair-preserved c =
    let n = c.in-Some.ensures.steps.1 in
    goes_on c.loop-pair.invariant c.in-Some.pair.now (chunks_exact_rest c.next.new.self) n.0 c.in-Some.ensures.steps.0
    (omega (arith, n.1, c.loop-pair.invariant.twos)) c.if-pair-eq10.false
    (subst₂ (λ (a b : Bool). (a && b) ≡ true) c.is_digit.ensures c.is_digit-in-loop-pair.ensures c.if-not-is_digit.false)
    (c.byte_of.ensures ∙ ap₂ (λ (x y : ℕ). 16 * x + y) c.digit_of.ensures.0 c.digit_of-in-loop-pair.ensures.0)

pub returns-in_default : goal.returns-in_default
returns-in_default c =
    let e = last_left c.loop-pair.invariant c.in-None.ensures.steps.1.0 in
    let last = c.remainder-last.result.now in
    none_left c.loop-pair.invariant (omega (arith, ap length e, ap length (append-nil last), c.in_default.len_below))

pub returns-then-end-ne10 : goal.returns-then-end-ne10
returns-then-end-ne10 c =
    let last = c.remainder-last.result.now in
    breaks c.loop-pair.invariant last [] (last_left c.loop-pair.invariant c.in-None.ensures.steps.1.0)
    (odd_front last [] (omega arith) (omega (arith, ap length (append-nil last))) c.if-end-ne10.true)

pub returns : goal.returns
returns c =
    ends c.loop-pair.invariant c.remainder-last.result.now [] (last_left c.loop-pair.invariant c.in-None.ensures.steps.1.0) (omega arith) c.if-end-ne10.false

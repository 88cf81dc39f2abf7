-- The loop over the segments' lines. What is left to decide at line s + 2, with the legs taken and the bytes kept so far, is the whole, and the
-- nodes' bytes have just those legs: a faulty line, the end of the text and a good line are each one step of `segment_lines`.
-- Assumes nothing.
use Prim.Native.Nat.{ℕ, zero, suc, ◌+◌, ◌*◌, ◌-◌, ◌≤◌, ◌<◌}
use mathlib.Core.Bool.{Bool, true, false}
use mathlib.Core.Path.{◌≡◌, refl, sym, ap, ◌∙◌, subst, subst₂}
use mathlib.Core.List.{List, [], ◌++◌}
use native.Mathlib.Omega.{arith}
use native.Mathlib.Nat.{sub-zero, mul-zero}
use lib.Dec.{ltb}
use lib.ListN.{length, drop, take, length-append}
use borrow.Author.Tests.{ltb-true, ltb-false}
use Rattle.lists.specs.Lists.{is_empty}
use Rattle.std.proofs.lemmas.List.{take_rest}
use Rattle.lists.proofs.Lists.{times_next}
use Rattle.refusals.specs.declared.Refusal.{Refusal}
use Rattle.refusals.specs.declared.Refusal.TheVariants.{WrongCount}
use Rattle.refusals.specs.Numbers.{number_of}
use Rattle.refusals.proofs.Positive.{positive}
use Rattle.frames.specs.declared.Head.{Head}
use Rattle.frames.specs.Edition.{frame_bytes}
use Rattle.frames.specs.Steps.Sizes.{Limited}
use Rattle.frames.proofs.EditionLaws.{frame_least}
use Rattle.frames.proofs.FrameLaws.{framed_good, framed_bad, limited}
use Rattle.network.specs.Legs.{taking}
use Rattle.network.specs.Faults.{segment_fault}
use Rattle.network.specs.Steps.Taken.{Gathered, ends_of, claimed}
use Rattle.network.proofs.TakenLaws.{legs_fault_lem, claimed_gathered}
use Rattle.network.proofs.FaultLaws.{Faultless, faultless}
use Rattle.digits.specs.Digits.{line_of, bytes_of, rest_of}
use Rattle.digits.proofs.DigitLaws.{line_after}
use Rattle.text.specs.Read.{Reading, unless_fault, segment_lines, refused, kept}
use Rattle.text.specs.Told.{told, told_of, written}
use Rattle.text.specs.Steps.Lines.{line_bytes, fault_after, LineJudged}
use Rattle.std.specs.Prelude.{Result, Ok, Err, ⊤}
use Rattle.text.specs.Told.{refused_at}
use Rattle.text.proofs.LineLaws.{tells_frame, tells_fault, no_text, some_text}

-- ---- the cases of `segment_lines`
pub fault_decides : (x at : ℕ) (later : Reading) → (x ≡ 0 → ⊥) → unless_fault x at later ≡ refused x at
fault_decides zero at later p = absurd (p refl)
fault_decides (suc x) at later p = refl

module _ (e n at : ℕ) (taken sofar text : List ℕ) where
  pub all_kept : is_empty text ≡ true → segment_lines e n 0 at taken sofar text ≡ kept sofar
  unfolding segment_lines
  all_kept h = rw h

  too_few : (left : ℕ) → is_empty text ≡ true → segment_lines e n (suc left) at taken sofar text ≡ refused (number_of WrongCount) at
  unfolding segment_lines
  too_few left h = rw h

  pub next_line : (left : ℕ) → is_empty text ≡ false
      → segment_lines e n (suc left) at taken sofar text
      ≡ unless_fault (segment_fault e n true taken (bytes_of (line_of text))) at
      (segment_lines e n left (at + 1) (taking taken (bytes_of (line_of text))) (sofar ++ bytes_of (line_of text)) (rest_of (line_of text)))
  unfolding segment_lines
  next_line left h = rw h

  pub good_line : (left : ℕ) → is_empty text ≡ false → segment_fault e n true taken (bytes_of (line_of text)) ≡ 0
      → segment_lines e n (suc left) at taken sofar text
      ≡ segment_lines e n left (at + 1) (taking taken (bytes_of (line_of text))) (sofar ++ bytes_of (line_of text)) (rest_of (line_of text))
  good_line left h f = next_line left h ∙ rw f

  bad_line : (left x : ℕ) → is_empty text ≡ false → segment_fault e n true taken (bytes_of (line_of text)) ≡ x → (x ≡ 0 → ⊥)
      → segment_lines e n (suc left) at taken sofar text ≡ refused x at
  bad_line left x h f p = next_line left h ∙ rw f (fault_decides x at _ p)

  line_beyond : (x : ℕ) → is_empty text ≡ false → segment_fault e n false taken (bytes_of (line_of text)) ≡ x
      → segment_lines e n 0 at taken sofar text ≡ refused x at
  unfolding segment_lines
  line_beyond x h f = rw (h, f)

-- ---- the loop: these lines are left, of those after the head
pub record Going (h all : List ℕ) (head : Head) (s : ℕ) (rest legs : List ℕ) : Type 0 where
  pub taken : List ℕ
  pub sofar : List ℕ
  pub long : length sofar ≡ 7 + frame_bytes head.edition * s
  pub low : s ≤ head.segments
  pub limited : Limited head
  pub gathered : Gathered head.nodes taken legs
  pub whole : segment_lines head.edition head.nodes (head.segments - s) (s + 2) taken sofar rest ≡ segment_lines head.edition head.nodes head.segments 2 [] h all

pub starts : {h all : List ℕ} {head : Head} {legs : List ℕ} → length h ≡ 7 → Limited head → Gathered head.nodes [] legs → Going h all head 0 all legs
starts {h} {all} {head} {legs} l o x =
    record {
      taken = [];
      sofar = h;
      long = l ∙ ap (λ (z : ℕ). 7 + z) (sym (mul-zero (frame_bytes head.edition)));
      low = omega arith;
      limited = o;
      gathered = x;
      whole = rw sub-zero;
    }

module _ {h all : List ℕ} {head : Head} {s : ℕ} {rest legs : List ℕ} (w : Going h all head s rest legs) where
  -- a line's number by the nodes' bytes is its number by the legs taken
  numbered : {x : ℕ} → fault_after head s legs (line_bytes rest) ≡ x → segment_fault head.edition head.nodes (ltb s head.segments) w.taken (line_bytes rest) ≡ x
  numbered f = sym (legs_fault_lem w.gathered head.edition (ltb s head.segments) (line_bytes rest)) ∙ f

  pub refuses : {legs' : List ℕ} {r : Result ⊤ Refusal} {fault : Refusal} → is_empty rest ≡ false
      → LineJudged rest head s legs legs' r → r ≡ Err fault
      → told (Err (refused_at fault (s + 2))) ≡ told_of (segment_lines head.edition head.nodes head.segments 2 [] h all)
  refuses {legs'} {r} {fault} l g x =
      ap told_of (sym (go (ltb s head.segments) refl (numbered (tells_fault _ g.answer x))) ∙ w.whole)
    where
      go : (m : Bool) → ltb s head.segments ≡ m → segment_fault head.edition head.nodes m w.taken (line_bytes rest) ≡ number_of fault
          → segment_lines head.edition head.nodes (head.segments - s) (s + 2) w.taken w.sofar rest ≡ refused (number_of fault) (s + 2)
      go true p f =
          let z : head.segments - s ≡ suc (head.segments - (s + 1)) = omega (arith, ltb-true s head.segments p) in
          rw z (bad_line head.edition head.nodes (s + 2) w.taken w.sofar rest (head.segments - (s + 1)) _ l f (positive fault))
      go false p f =
          let z : head.segments - s ≡ 0 = omega (arith, ltb-false s head.segments p) in
          rw z (line_beyond head.edition head.nodes (s + 2) w.taken w.sofar rest _ l f)

  pub lacks : is_empty rest ≡ true → s < head.segments
      → told (Err (refused_at WrongCount (s + 2))) ≡ told_of (segment_lines head.edition head.nodes head.segments 2 [] h all)
  lacks l m =
      let z : head.segments - s ≡ suc (head.segments - (s + 1)) = omega arith in
      ap told_of (sym (too_few head.edition head.nodes (s + 2) w.taken w.sofar rest (head.segments - (s + 1)) l) ∙ rw z at w.whole)

  pub keeps : {count : ℕ} → count ≡ 7 + frame_bytes head.edition * head.segments → is_empty rest ≡ true → head.segments ≤ s
      → told (Ok count) ≡ told_of (segment_lines head.edition head.nodes head.segments 2 [] h all)
  keeps {count} q l m =
      let z : head.segments - s ≡ 0 = omega arith in
      let y : head.segments ≡ s = omega (arith, w.low) in
      ap written (q ∙ ap (λ (i : ℕ). 7 + frame_bytes head.edition * i) y ∙ sym w.long)
      ∙ ap told_of (sym (all_kept head.edition head.nodes (s + 2) w.taken w.sofar rest l) ∙ rw z at w.whole)

  -- a line that has no fault is a frame's
  module _ {legs' : List ℕ} {r : Result ⊤ Refusal} {done : ⊤} (g : LineJudged rest head s legs legs' r) (x : r ≡ Ok done) where
    no_fault : fault_after head s legs (line_bytes rest) ≡ 0
    no_fault = tells_frame _ g.answer x

    good : Faultless head.edition head.nodes (ltb s head.segments) w.taken (line_bytes rest)
    good = faultless head.edition head.nodes (ltb s head.segments) w.taken (line_bytes rest) (numbered no_fault)

    after : (2 * frame_bytes head.edition + 1 ≤ length rest) × (rest_of (line_of rest) ≡ drop (2 * frame_bytes head.edition + 1) rest)
    after = line_after rest (frame_bytes head.edition) (omega (arith, frame_least head.edition)) good.follows.size

    pub room : {size : ℕ} → size ≡ frame_bytes head.edition → 2 * size + 1 ≤ length rest
    room e = omega (arith, e, after.0)

    pub goes_on : {size : ℕ} → size ≡ frame_bytes head.edition → is_empty rest ≡ false
        → Going h all head (s + 1) (take (length rest - (2 * size + 1)) (drop (2 * size + 1) rest)) legs'
    goes_on {size} e l =
        let f : List ℕ = line_bytes rest in
        let k = good in
        let z : segment_fault head.edition head.nodes true w.taken f ≡ 0 =
        subst (λ (y : Bool). segment_fault head.edition head.nodes y w.taken f ≡ 0) k.counted (numbered no_fault) in
        let below : s < head.segments = ltb-true s head.segments k.counted in
        let i : legs' ≡ claimed legs (ends_of f) = g.legs no_fault in
        record {
          taken = taking w.taken f;
          sofar = w.sofar ++ f;
          long = omega (arith, w.long, length-append w.sofar f, k.follows.size, times_next (frame_bytes head.edition) s);
          low = omega arith;
          limited = w.limited;
          gathered = subst (λ (j : List ℕ). Gathered head.nodes (taking w.taken f) j) (sym i) (claimed_gathered w.gathered f k.follows.ends);
          whole =
              let e₁ : s + 1 + 2 ≡ s + 2 + 1 = omega arith in
              let e₂ : take (length rest - (2 * size + 1)) (drop (2 * size + 1) rest) ≡ rest_of (line_of rest) =
              take_rest rest (2 * size + 1) ∙ ap (λ (j : ℕ). drop (2 * j + 1) rest) e ∙ sym after.1 in
              let e₃ : suc (head.segments - (s + 1)) ≡ head.segments - s = omega arith in
              subst₂
              (λ (j : ℕ) (u : List ℕ). segment_lines head.edition head.nodes (head.segments - (s + 1)) j (taking w.taken f) (w.sofar ++ f) u
              ≡ segment_lines head.edition head.nodes head.segments 2 [] h all)
              (sym e₁) (sym e₂)
              (sym (good_line head.edition head.nodes (s + 2) w.taken w.sofar rest (head.segments - (s + 1)) l z)
              ∙ ap (λ (j : ℕ). segment_lines head.edition head.nodes j (s + 2) w.taken w.sofar rest) e₃ ∙ w.whole);
        }

-- ---- what decides at the head's line, and at each turn of the loop
pub ruleset head_judged = (no_text, some_text, positive, fault_decides, framed_good, framed_bad, limited)

pub ruleset lines_judged = (some_text, limited, starts, goes_on)

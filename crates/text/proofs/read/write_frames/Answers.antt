-- The loop's invariant: the frames written so far, and what the lines left spell, are the whole; from `out` on the output is as it was.
use Prim.Native.Nat.{ℕ, suc, ◌+◌, ◌*◌, ◌-◌, ◌≤◌, ◌<◌}
use mathlib.Core.List.{List, ◌++◌, append_assoc, append-nil}
use mathlib.Core.Path.{◌≡◌, refl, sym, ap, ◌∙◌, subst₂}
use native.Mathlib.Nat.{sub-zero, mul-zero, mul-le-mul_left}
use native.Mathlib.Omega.{arith}
use lib.ListN.{length, drop, take, length-append, length-take, length-drop, take-append-drop}
use lib.Seq.{take_at, drop_at, drop-drop, drop-append-add}
use Rattle.std.proofs.lemmas.List.{take_rest}
use Rattle.lists.proofs.Lists.{times_next}
use Rattle.digits.specs.Steps.Scan.{spelled}
use Rattle.digits.proofs.DigitLaws.{length_spelled}
use Rattle.text.specs.Steps.Spelled.{spelled_lines, spelled_text}
use Rattle.text.proofs.read.write_frames.Invariants.{Writing}
use Rattle.text.proofs.read.write_frames.Goals as goal

starts : {t : List ℕ} {b m : ℕ} (e ys : List ℕ) → 7 + b * m ≤ length e → 15 + (2 * b + 1) * m ≤ length t → ys ≡ spelled (length (take 7 e)) t
    → Writing t b m (ys ++ drop 7 e) (ys ++ drop 7 e) 0 15 7
starts {t} {b} {m} e ys r g h =
    let l : length ys ≡ 7 = ap length h ∙ length_spelled _ t ∙ length-take 7 e ∙ omega arith in
    let y : ys ≡ spelled 7 t = h ∙ ap (λ (n : ℕ). spelled n t) (length-take 7 e ∙ omega arith) in
    record {
      low = omega arith;
      at_is = ap (λ (z : ℕ). 15 + z) (sym (mul-zero (2 * b + 1)));
      out_is = ap (λ (z : ℕ). 7 + z) (sym (mul-zero b));
      long = refl;
      room = omega (arith, length-append ys (drop 7 e), length-drop 7 e, l);
      digits = g;
      later = refl;
      whole = rw (sub-zero, take_at ys (drop 7 e) 7 l, y);
    }

module _ {t : List ℕ} {b m : ℕ} {o₀ o : List ℕ} {s at out : ℕ} (w : Writing t b m o₀ o s at out) where
  rooms : s < m → (out + b ≤ length o₀) × (at + (2 * b + 1) ≤ length t)
  rooms h =
      let p : b * (s + 1) ≤ b * m = mul-le-mul_left b (omega arith) in
      let q : (2 * b + 1) * (s + 1) ≤ (2 * b + 1) * m = mul-le-mul_left (2 * b + 1) (omega arith) in
      (omega (arith, w.room, w.out_is, times_next b s), omega (arith, w.digits, w.at_is, times_next (2 * b + 1) s))

  goes_on : (n : ℕ) (ys : List ℕ) → s < m → n ≡ b → ys ≡ spelled (length (take n (drop out o))) (take (length t - at) (drop at t))
      → Writing t b m o₀ (take out o ++ (ys ++ drop n (drop out o))) (s + 1) (at + (2 * b + 1)) (out + b)
  unfolding spelled_lines
  goes_on n ys h n-is e₀ =
      let e = e₀ ∙ ap (spelled (length (take n (drop out o)))) (take_rest t at) in
      let a : length (take n (drop out o)) ≡ b = length-take n (drop out o) ∙ omega (arith, length-drop out o, w.long, (rooms h).0, n-is) in
      let y : ys ≡ spelled b (drop at t) = e ∙ ap (λ (i : ℕ). spelled i (drop at t)) a in
      let l : length ys ≡ b = ap length y ∙ length_spelled b (drop at t) in
      let f : length (take out o ++ ys) ≡ out + b =
      length-append (take out o) ys ∙ omega (arith, length-take out o, l, w.long, (rooms h).0) in
      let g : take out o ++ (ys ++ drop n (drop out o)) ≡ (take out o ++ ys) ++ drop n (drop out o) =
      sym (append_assoc (take out o) ys (drop n (drop out o))) in
      let d : drop n (drop out o) ≡ drop (out + b) o₀ = rw (n-is, w.later) (drop-drop b out o₀) in
      let z : m - s ≡ suc (m - (s + 1)) = omega arith in
      let left : List ℕ = spelled_lines b (m - (s + 1)) (drop (at + (2 * b + 1)) t) in
      record {
        low = omega arith;
        at_is = omega (arith, w.at_is, times_next (2 * b + 1) s);
        out_is = omega (arith, w.out_is, times_next b s);
        long =
            ap length g ∙ length-append (take out o ++ ys) (drop n (drop out o))
            ∙ omega (arith, f, ap length d, length-drop (out + b) o₀, (rooms h).0);
        room = w.room;
        digits = w.digits;
        later = ap (λ (x : List ℕ). drop (out + b) x) g ∙ drop_at (take out o ++ ys) (drop n (drop out o)) (out + b) f ∙ d;
        whole =
            ap (λ (x : List ℕ). take (out + b) x ++ left) g
            ∙ ap (λ (x : List ℕ). x ++ left) (take_at (take out o ++ ys) (drop n (drop out o)) (out + b) f)
            ∙ append_assoc (take out o) ys _
            ∙ ap (λ (x : List ℕ). take out o ++ x) (rw (y, z, spelled_lines, drop-drop (2 * b + 1) at t))
            ∙ w.whole;
      }

  ends : (e ys : List ℕ) → o₀ ≡ ys ++ drop 7 e → length ys ≡ 7 → m ≤ s
      → o ≡ spelled_text b m t ++ drop (7 + b * m) e
  unfolding spelled_lines
  ends e ys p l h =
      let z : m - s ≡ 0 = omega arith in
      let u : out ≡ 7 + b * m = w.out_is ∙ ap (λ (i : ℕ). 7 + b * i) (omega (arith, w.low)) in
      let k : 7 + b * m ≡ length ys + b * m = omega (arith, l) in
      let q : drop out o ≡ drop (7 + b * m) e =
      w.later ∙ rw (u, p, k, drop-append-add ys (drop 7 e) (b * m), drop-drop (b * m) 7 e, l) in
      let v : take out o ≡ spelled_text b m t =
      sym (append-nil (take out o)) ∙ rw (z, spelled_lines) at w.whole in
      sym (take-append-drop out o) ∙ rw (q, v)

from_front : {t : List ℕ} {b m : ℕ} {o : List ℕ} → Writing t b m o o 0 15 7 → Writing t b m o o 0 (15 + (2 * b + 1) * 0) (7 + b * 0)
from_front {b = b} w = rw (mul-zero (2 * b + 1), mul-zero b) w

next_frame : {t : List ℕ} {b m : ℕ} {o₀ o : List ℕ} (s : ℕ)
    → Writing t b m o₀ o (s + 1) (15 + (2 * b + 1) * s + (2 * b + 1)) (7 + b * s + b) → Writing t b m o₀ o (s + 1) (15 + (2 * b + 1) * (s + 1)) (7 + b * (s + 1))
next_frame {t} {b} {m} {o₀} {o} s w =
    subst₂ (λ (i j : ℕ). Writing t b m o₀ o (s + 1) i j) (omega (arith, times_next (2 * b + 1) s)) (omega (arith, times_next b s)) w

-- the head that was decoded has its length, in an output with room for it
head_long : (t e : List ℕ) {ys : List ℕ} → 7 ≤ length e → ys ≡ spelled (length (take 7 e)) t → length ys ≡ 7
head_long t e r h = ap length h ∙ length_spelled _ t ∙ length-take 7 e ∙ omega arith

pub loop-s-init : goal.loop-s-init
loop-s-init c =
    from_front (starts c.args.output.now c.decode_into.new.bytes c.requires.1 c.requires.0 c.decode_into.ensures.bytes)

pub loop-s-preserved : goal.loop-s-preserved
loop-s-preserved c =
    let out = 7 + c.args.size * c.loop-s.s in
    next_frame c.loop-s.s
    (goes_on c.loop-s.invariant (out + c.args.size - out) c.decode_into-in-loop-s.new.bytes c.loop-s-test.true (omega arith)
    c.decode_into-in-loop-s.ensures.bytes)

pub returns : goal.returns
returns c =
    ends c.loop-s.invariant c.args.output.now
    c.decode_into.new.bytes refl (head_long c.args.text.now c.args.output.now (omega (arith, c.requires.1)) c.decode_into.ensures.bytes)
    c.loop-s-test.false

-- The loop over the lengths of a network's segments: what is left to test is the whole test, and a length above the limit decides.
-- Assumes nothing.
use Prim.Native.Nat.{ℕ, suc, ◌+◌, ◌*◌, ◌-◌, ◌≤◌, ◌<◌}
use mathlib.Core.Bool.{true, false, ◌&&◌}
use mathlib.Core.Path.{◌≡◌, sym, ap, ◌∙◌}
use mathlib.Core.List.{List}
use native.Mathlib.Omega.{arith}
use native.Mathlib.Nat.{mul-le-mul_left}
use lib.Dec.{leb}
use lib.ListN.{length, take, drop}
use lib.Seq.{drop-drop}
use borrow.Author.Tests.{le-leb, lt-leb}
use Rattle.lists.proofs.Lists.{times_next}
use Rattle.frames.specs.Edition.{frame_bytes, most_feet}
use Rattle.frames.specs.Frame.{feet}
use Rattle.network.proofs.FramesChecked.{part}
use Rattle.moves.specs.Moving.{lengths_ok}

-- all lengths are tested from the s-th on
abbrev pub LengthsLeft : ℕ → ℕ → List ℕ → ℕ → ℕ → Type 0
LengthsLeft e d net m s = lengths_ok e d (m - s) (drop (7 + frame_bytes e * s) net) ≡ lengths_ok e d m (drop 7 net)

module _ (e d : ℕ) (net : List ℕ) (m : ℕ) where
  pub part_fits : length net ≡ 7 + frame_bytes e * m → (s : ℕ) → s < m → 7 + frame_bytes e * s + frame_bytes e ≤ length net
  part_fits long s h =
      let p : frame_bytes e * (s + 1) ≤ frame_bytes e * m = mul-le-mul_left (frame_bytes e) (omega arith) in
      omega (arith, p, long, times_next (frame_bytes e) s)

  module _ (s : ℕ) (h : s < m) where
    one_left : lengths_ok e d (m - s) (drop (7 + frame_bytes e * s) net)
        ≡ (leb (feet e (part net (frame_bytes e) s)) (most_feet d) && lengths_ok e d (m - (s + 1)) (drop (7 + frame_bytes e * (s + 1)) net))
    unfolding lengths_ok
    one_left =
        let z : m - s ≡ suc (m - (s + 1)) = omega arith in
        let l : frame_bytes e ≡ 7 + frame_bytes e * s + frame_bytes e - (7 + frame_bytes e * s) = omega arith in
        let b : drop (frame_bytes e) (drop (7 + frame_bytes e * s) net) ≡ drop (7 + frame_bytes e * (s + 1)) net =
        drop-drop (frame_bytes e) (7 + frame_bytes e * s) net ∙ ap (λ (j : ℕ). drop j net) (omega (arith, times_next (frame_bytes e) s)) in
        rw (z, lengths_ok, b)
        (ap (λ (n : ℕ). leb (feet e (take n (drop (7 + frame_bytes e * s) net))) (most_feet d) && lengths_ok e d (m - (s + 1)) (drop (7 + frame_bytes e * (s + 1)) net)) l)

    pub length_passes : feet e (part net (frame_bytes e) s) ≤ most_feet d → LengthsLeft e d net m s → LengthsLeft e d net m (s + 1)
    length_passes p w = sym (rw (le-leb _ _ p) at one_left) ∙ w

    pub length_fails : most_feet d < feet e (part net (frame_bytes e) s) → LengthsLeft e d net m s → false ≡ lengths_ok e d m (drop 7 net)
    length_fails p w = sym (rw (lt-leb _ _ p) at one_left) ∙ w

  pub no_length_left : (s : ℕ) → m ≤ s → LengthsLeft e d net m s → true ≡ lengths_ok e d m (drop 7 net)
  unfolding lengths_ok
  no_length_left s h w = let z : m - s ≡ 0 = omega arith in rw (z, lengths_ok) at w

-- One frame as another edition has it. Its bytes before the length are where they were, and the length's last two and all later ones follow the new width;
-- what stands between is 0, as it was. So every field is equal, the sum of all bytes is, and moving it back gives the frame.
-- Assumes nothing.
use Prim.Native.Nat.{ℕ, zero, suc, ◌+◌, ◌*◌, ◌-◌, ◌≤◌, ◌<◌}
use mathlib.Core.Path.{◌≡◌, refl, sym, ap, ap₂, ◌∙◌}
use mathlib.Core.Logic.{⊎_elim}
use mathlib.Core.List.{List, [], ◌∷◌, ◌++◌, append_assoc}
use native.Mathlib.Omega.{arith}
use lib.ListN.{length, get_or, take, drop, replicate, length-append, length-take, length-replicate, take-append-drop}
use lib.Seq.{take_at, drop_at, get_or-drop, get_or-take}
use Rattle.std.proofs.lemmas.List.{get_or_append_left, get_or-append-add, get_or-replicate}
use Rattle.lists.proofs.Facts.{eq_or_ne}
use Rattle.lists.proofs.Lists.{drop_two}
use Rattle.frames.specs.Edition.{extra, length_bytes, frame_bytes}
use Rattle.frames.specs.Frame.{byte, word, number, total, feet}
use Rattle.frames.proofs.EditionLaws.{frame_extra}
use Rattle.frames.proofs.FrameLaws.{two_or_none}
use Rattle.moves.specs.Moved.{frame_in}

-- The bytes of a length before its last two are 0.
pub record Narrow (e : ℕ) (f : List ℕ) : Type 0 where
  pub zeros : (i : ℕ) → i < extra e → byte f (7 + i) ≡ 0

total_append : (a b : List ℕ) → total (a ++ b) ≡ total a + total b
unfolding total
total_append [] b = omega arith
total_append (x ∷ a) b = omega (arith, total_append a b)

total_zeros : (n : ℕ) → total (replicate n 0) ≡ 0
unfolding total
total_zeros zero = refl
total_zeros (suc n) = omega (arith, total_zeros n)

-- ---- widths of lengths
module _ (e : ℕ) (f : List ℕ) where
  of_two : byte f 7 ≡ 0 → byte f 8 ≡ 0 → (i : ℕ) → i < 2 → byte f (7 + i) ≡ 0
  of_two a b zero l = a
  of_two a b (suc zero) l = b
  of_two a b (suc (suc i)) l = absurd (omega arith)

  pub narrow_none : extra e ≡ 0 → Narrow e f
  narrow_none none = record { zeros = λ i l. absurd (omega (arith, none, l)) }

  -- a length that two bytes can say
  pub narrow_small : feet e f < 65536 → Narrow e f
  unfolding feet length_bytes number
  narrow_small small = ⊎_elim narrow_none (λ (some : extra e ≡ 0 → ⊥). wide (two_or_none e some)) (eq_or_ne (extra e) 0)
    where
      wide : extra e ≡ 2 → Narrow e f
      wide two =
          let n = rw two at small in
          record { zeros = λ i l. of_two (omega (arith, n)) (omega (arith, n)) i (omega (arith, two, l)) }

  -- then the length is its last two bytes
  pub feet_last : Narrow e f → feet e f ≡ word f (extra e + 7)
  unfolding feet length_bytes number
  feet_last w = ⊎_elim (λ (none : extra e ≡ 0). rw none (omega arith)) (λ (some : extra e ≡ 0 → ⊥). wide (two_or_none e some)) (eq_or_ne (extra e) 0)
    where
      wide : extra e ≡ 2 → number (2 + extra e) f 7 ≡ word f (extra e + 7)
      wide two = rw two (omega (arith, w.zeros 0 (omega (arith, two)), w.zeros 1 (omega (arith, two))))

module _ (e d : ℕ) (f : List ℕ) (size : length f ≡ frame_bytes e) where
  abbrev zeros : List ℕ
  zeros = replicate (extra d) 0

  abbrev rest : List ℕ
  rest = drop (7 + extra e) f

  front_long : length (take 7 f) ≡ 7
  front_long = omega (arith, length-take 7 f, size, frame_extra e)

  zeros_long : length (take 7 f ++ zeros) ≡ 7 + extra d
  zeros_long = omega (arith, length-append (take 7 f) zeros, length-replicate {A = ℕ} (extra d) 0, front_long)

  -- ---- bytes
  -- those before the length
  pub front_byte : (i : ℕ) → i < 7 → byte (frame_in e d f) i ≡ byte f i
  unfolding frame_in
  front_byte i l = get_or_append_left (take 7 f) (zeros ++ rest) 0 i (omega (arith, front_long)) ∙ get_or-take 7 f i 0 l

  -- its last two, and all that follow
  pub later_byte : (k i j : ℕ) → 7 ≤ k → i ≡ extra d + k → j ≡ extra e + k → byte (frame_in e d f) i ≡ byte f j
  unfolding frame_in
  later_byte k i j l p q =
      ap (λ (n : ℕ). get_or (take 7 f ++ (zeros ++ rest)) n 0) (omega (arith, p, l, front_long, length-replicate {A = ℕ} (extra d) 0))
      ∙ get_or-append-add (take 7 f) (zeros ++ rest) (length zeros + (k - 7)) 0
      ∙ get_or-append-add zeros rest (k - 7) 0
      ∙ get_or-drop (7 + extra e) f (k - 7) 0
      ∙ ap (λ (n : ℕ). get_or f n 0) (omega (arith, q, l))

  -- and those between
  pub moved_narrow : Narrow d (frame_in e d f)
  unfolding frame_in
  moved_narrow =
      record {
        zeros = λ i l.
            ap (λ (n : ℕ). get_or (take 7 f ++ (zeros ++ rest)) (n + i) 0) (sym front_long)
            ∙ get_or-append-add (take 7 f) (zeros ++ rest) i 0
            ∙ get_or_append_left zeros rest 0 i (omega (arith, l, length-replicate {A = ℕ} (extra d) 0))
            ∙ get_or-replicate {A = ℕ} (extra d) i 0 0 l;
      }

  -- ---- the sum of all bytes; and back again
  total_moved : total (frame_in e d f) ≡ total (take 7 f) + total rest
  unfolding frame_in
  total_moved = omega (arith, total_append (take 7 f) (zeros ++ rest), total_append zeros rest, total_zeros (extra d))

  back_again : frame_in d e (frame_in e d f) ≡ frame_in e e f
  unfolding frame_in
  back_again =
      let first : take 7 (take 7 f ++ (zeros ++ rest)) ≡ take 7 f = take_at (take 7 f) (zeros ++ rest) 7 front_long in
      let later : drop (7 + extra d) (take 7 f ++ (zeros ++ rest)) ≡ rest =
      ap (drop (7 + extra d)) (sym (append_assoc (take 7 f) zeros rest)) ∙ drop_at (take 7 f ++ zeros) rest (7 + extra d) zeros_long in
      ap₂ (λ (a b : List ℕ). a ++ (replicate (extra e) 0 ++ b)) first later

-- ---- a frame whose length is narrow
module _ (e : ℕ) (f : List ℕ) (size : length f ≡ frame_bytes e) (w : Narrow e f) where
  -- moved to its own edition it stays
  stays : frame_in e e f ≡ f
  unfolding frame_in
  stays = ⊎_elim (λ (none : extra e ≡ 0). rw none (take-append-drop 7 f)) (λ (some : extra e ≡ 0 → ⊥). wide (two_or_none e some)) (eq_or_ne (extra e) 0)
    where
      wide : extra e ≡ 2 → take 7 f ++ (replicate (extra e) 0 ++ drop (7 + extra e) f) ≡ f
      wide two =
          let seven : byte f 7 ≡ 0 = w.zeros 0 (omega (arith, two)) in
          let eight : byte f 8 ≡ 0 = w.zeros 1 (omega (arith, two)) in
          let behind : 0 ∷ 0 ∷ drop 9 f ≡ drop 7 f = sym (rw (seven, eight) at (drop_two f 7 (omega (arith, size, frame_extra e)))) in
          rw (two, behind) (take-append-drop 7 f)

  module _ (d : ℕ) where
    pub there_and_back : frame_in d e (frame_in e d f) ≡ f
    there_and_back = back_again e d f size ∙ stays

    pub total_same : total (frame_in e d f) ≡ total f
    total_same = total_moved e d f size ∙ sym (total_moved e e f size) ∙ ap total stays

    pub feet_same : feet d (frame_in e d f) ≡ feet e f
    feet_same =
        feet_last d (frame_in e d f) (moved_narrow e d f size)
        ∙ ap₂ (λ (a b : ℕ). a * 256 + b) (later_byte e d f size 7 _ _ (omega arith) refl refl) (later_byte e d f size 8 _ _ (omega arith) (omega arith) (omega arith))
        ∙ sym (feet_last e f w)

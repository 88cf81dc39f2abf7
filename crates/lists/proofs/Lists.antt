-- General facts on lists, for every crate, and on what stands beside them: products of lengths, and tests that the code chains.
-- Assumes nothing.
use Prim.Native.Nat.{ℕ, suc, ◌+◌, ◌*◌, ◌≤◌, ◌<◌}
use mathlib.Core.Bool.{Bool, true, false, cond, true≢false}
use mathlib.Core.Path.{◌≡◌, refl, sym, ap, ◌∙◌}
use mathlib.Core.List.{List, [], ◌∷◌, ◌++◌}
use native.Mathlib.Omega.{arith}
use native.Mathlib.Nat.{mul-suc, add_comm}
use native.Mathlib.Numerals.{add-one}
use lib.ListN.{length, get_or, take, drop, set, drop_of_length-le}
use lib.Seq.{take-suc-set, append_snoc, drop-cons, get_or-drop, get_or-take}
use Rattle.lists.specs.Lists.{is_empty}

-- ---- booleans
pub true_is_false : {A : Type 0} {b : Bool} → b ≡ false → b ≡ true → A
true_is_false p q = absurd (true≢false (sym q ∙ p))

pub is_false : (b : Bool) → (b ≡ true → ⊥) → b ≡ false
is_false true h = absurd (h refl)
is_false false h = refl

-- the first of a chain of `cond`s is taken, or passed over
module _ {A : Type 0} {b : Bool} (x y : A) where
  pub takes : b ≡ true → x ≡ cond b x y
  takes e = rw e

  pub passes : {z : A} → b ≡ false → z ≡ y → z ≡ cond b x y
  passes e r = rw e r

-- ---- products, which `omega` does not multiply out
pub times_suc : (b m : ℕ) → b * suc m ≡ b + b * m
times_suc b m = mul-suc b m ∙ add_comm (b * m) b

pub times_next : (b m : ℕ) → b * (m + 1) ≡ b + b * m
times_next b m = ap (λ (i : ℕ). b * i) (add-one m) ∙ times_suc b m

-- ---- lists
pub no_elements : (l : List ℕ) → length l ≡ 0 → l ≡ []
no_elements [] e = refl
no_elements (x ∷ l) e = absurd (omega arith)

pub length_of_none : (t : List ℕ) → length t ≡ 0 → is_empty t ≡ true
length_of_none [] e = refl
length_of_none (x ∷ t) e = absurd (omega arith)

pub length_of_some : (t : List ℕ) → (length t ≡ 0 → ⊥) → is_empty t ≡ false
length_of_some [] e = absurd (e refl)
length_of_some (x ∷ t) e = refl

pub is_empty_lem : (t : List ℕ) → is_empty t ≡ true → t ≡ []
is_empty_lem [] e = refl
is_empty_lem (x ∷ t) e = true_is_false refl e

module _ (t : List ℕ) (i : ℕ) where
  pub drop_some : i < length t → is_empty (drop i t) ≡ false
  drop_some h = rw (drop-cons t i 0 h)

  pub drop_none : length t ≤ i → is_empty (drop i t) ≡ true
  drop_none h = rw (drop_of_length-le t {i = i} h)

  pub drop_one : i < length t → drop i t ≡ get_or t i 0 ∷ drop (i + 1) t
  drop_one h = rw add-one (drop-cons t i 0 h)

  pub drop_two : i + 1 < length t → drop i t ≡ get_or t i 0 ∷ get_or t (i + 1) 0 ∷ drop (i + 2) t
  drop_two h =
      let two : i + 2 ≡ suc (i + 1) = omega arith in
      drop_one (omega arith) ∙ ap (λ (u : List ℕ). get_or t i 0 ∷ u) (rw two (drop-cons t (i + 1) 0 h))

-- one more element stored at the end of a front
pub take_stored : (d : List ℕ) (k b : ℕ) (rest : List ℕ) → k < length d → take (k + 1) (set d k b) ++ rest ≡ take k d ++ b ∷ rest
take_stored d k b rest h = rw (add-one, take-suc-set d k b h) (append_snoc (take k d) b rest)

-- an element of a part of a list
pub part_element : (l : List ℕ) (start size i : ℕ) → i < size → get_or (take size (drop start l)) i 0 ≡ get_or l (start + i) 0
part_element l start size i h = get_or-take size (drop start l) i 0 h ∙ get_or-drop start l i 0

pub part_at : (l : List ℕ) (start size i j : ℕ) → i < size → j ≡ start + i → get_or l j 0 ≡ get_or (take size (drop start l)) i 0
part_at l start size i j h e = ap (λ (k : ℕ). get_or l k 0) e ∙ sym (part_element l start size i h)

-- One frame finds its legs free exactly where neither of its corners is taken and the two are not one.
-- Assumes nothing.
use Prim.Native.Nat.{ℕ}
use mathlib.Core.Bool.{true, false, not, ◌&&◌}
use mathlib.Core.Path.{◌≡◌, subst}
use mathlib.Core.List.{List}
use lib.Dec.{eqb}
use borrow.Author.Tests.{ne_eqb, not-true}
use Rattle.lists.proofs.Facts.{and_true}
use Rattle.lists.proofs.Lists.{true_is_false}
use Rattle.network.specs.Legs.{corner_a, corner_b, is_in, legs_free}

pub record Free (taken f : List ℕ) : Type 0 where
  pub new_a : is_in (corner_a f) taken ≡ false
  pub new_b : is_in (corner_b f) taken ≡ false
  pub apart : eqb (corner_a f) (corner_b f) ≡ false

pub free : (taken f : List ℕ) → legs_free taken f ≡ true → Free taken f
unfolding legs_free
free taken f h =
    let p = and_true (not (is_in (corner_a f) taken) && not (is_in (corner_b f) taken)) (not (eqb (corner_a f) (corner_b f))) h in
    let q = and_true (not (is_in (corner_a f) taken)) (not (is_in (corner_b f) taken)) p.0 in
    record { new_a = not-true _ q.0; new_b = not-true _ q.1; apart = not-true _ p.1 }

pub legs_free_lem : (taken f : List ℕ) → Free taken f → legs_free taken f ≡ true
unfolding legs_free
legs_free_lem taken f w = rw (w.new_a, w.new_b, w.apart)

-- a number of the list, and one that is not
pub in_apart : (c x : ℕ) (taken : List ℕ) → is_in c taken ≡ true → is_in x taken ≡ false → eqb c x ≡ false
in_apart c x taken p q = ne_eqb c x (λ (e : c ≡ x). true_is_false q (subst (λ (y : ℕ). is_in y taken ≡ true) e p))

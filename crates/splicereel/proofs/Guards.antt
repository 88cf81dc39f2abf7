-- A call's guard names what it refuses, the definition what it asks for: each guard is the definition's test, denied.
-- Assumes nothing.
use Prim.Native.Nat.{ℕ, ◌≤◌, ◌<◌}
use mathlib.Core.Path.{◌≡◌, refl, sym, ◌∙◌}
use mathlib.Core.Bool.{Bool, true, false, not, ◌&&◌, ◌||◌}
use mathlib.Core.Logic.{◌⊎◌, inl, inr}
use lib.Dec.{leb, ltb}
use borrow.Author.Tests.{lt-ltb, le-ltb, le-leb, lt-leb, not-true, not-false}
use Rattle.lists.proofs.Facts.{lt_or_ge}

either_not : (a b : Bool) → (not a || not b) ≡ not (a && b)
either_not true b = refl
either_not false b = refl

below_not : (a n : ℕ) → leb n a ≡ not (ltb a n)
below_not a n = go (lt_or_ge a n)
  where
    go : (a < n) ⊎ (n ≤ a) → leb n a ≡ not (ltb a n)
    go (inl l) = rw (lt-leb n a l, lt-ltb a n l)
    go (inr l) = rw (le-leb n a l, le-ltb a n l)

most_not : (a n : ℕ) → ltb n a ≡ not (leb a n)
most_not a n = go (lt_or_ge n a)
  where
    go : (n < a) ⊎ (a ≤ n) → ltb n a ≡ not (leb a n)
    go (inl l) = rw (lt-ltb n a l, lt-leb a n l)
    go (inr l) = rw (le-ltb n a l, le-leb a n l)

-- a number is above one of two
module _ (a m n : ℕ) where
  some_above : (ltb m a || ltb n a) ≡ not (leb a m && leb a n)
  some_above = rw (most_not a m, most_not a n) (either_not (leb a m) (leb a n))

  pub not_both_fit : ltb m a || ltb n a ≡ true → leb a m && leb a n ≡ false
  not_both_fit e = not-true (leb a m && leb a n) (sym some_above ∙ e)

  pub both_fit : ltb m a || ltb n a ≡ false → leb a m && leb a n ≡ true
  both_fit e = not-false (leb a m && leb a n) (sym some_above ∙ e)

-- one of two numbers is not below n
module _ (a b n : ℕ) where
  some_beyond : (leb n a || leb n b) ≡ not (ltb a n && ltb b n)
  some_beyond = rw (below_not a n, below_not b n) (either_not (ltb a n) (ltb b n))

  pub not_both_below : leb n a || leb n b ≡ true → ltb a n && ltb b n ≡ false
  not_both_below e = not-true (ltb a n && ltb b n) (sym some_beyond ∙ e)

  pub both_below : leb n a || leb n b ≡ false → ltb a n && ltb b n ≡ true
  both_below e = not-false (ltb a n && ltb b n) (sym some_beyond ∙ e)

-- a number is not from a to b
module _ (a b n : ℕ) where
  some_outside : (ltb n a || ltb b n) ≡ not (leb a n && leb n b)
  some_outside = rw (most_not a n, most_not n b) (either_not (leb a n) (leb n b))

  pub not_within : ltb n a || ltb b n ≡ true → leb a n && leb n b ≡ false
  not_within e = not-true (leb a n && leb n b) (sym some_outside ∙ e)

  pub are_within : ltb n a || ltb b n ≡ false → leb a n && leb n b ≡ true
  are_within e = not-false (leb a n && leb n b) (sym some_outside ∙ e)

-- one of two tests fails
module _ (a b : Bool) where
  pub not_both : not a || not b ≡ true → a && b ≡ false
  not_both e = not-true (a && b) (sym (either_not a b) ∙ e)

  pub both : not a || not b ≡ false → a && b ≡ true
  both e = not-false (a && b) (sym (either_not a b) ∙ e)

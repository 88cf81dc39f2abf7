-- The bytes of used legs and the legs taken. A bit is set exactly where the corner is among those taken, so claiming tests what `legs_free` tests; claiming
-- two free legs sets two bits, as it puts two corners in front.
-- Assumes nothing.
use Prim.Native.Nat.{ℕ, zero, suc, ◌*◌, ◌^◌, ◌≤◌, ◌<◌}
use mathlib.Core.Bool.{Bool, true, false, not, ◌||◌}
use mathlib.Core.Path.{◌≡◌, refl, sym}
use mathlib.Core.List.{List, [], ◌∷◌}
use native.Mathlib.Omega.{arith}
use lib.Dec.{eqb}
use lib.ListN.{replicate, length-set, length-replicate, get_or-replicate}
use lib.Seq.{get_or-set_same, get_or-set_other}
use borrow.Author.Tests.{eqb-true, eqb-false, ne_eqb}
use Rattle.std.specs.Prelude.{max, bit_and, bit_or}
use Rattle.std.specs.Int.{bit_at}
use Rattle.std.proofs.Math.Pow.{pow_pos}
use Rattle.std.proofs.lemmas.Bool.Decides.{nat_tests}
use Rattle.std.proofs.lemmas.Nat.Bits.{and_pow, bit_at_or, bit_at-lt, bit_at-pow_same, bit_at-pow_other, bit_at-zero}
use Rattle.lists.specs.Lists.{at}
use Rattle.frames.specs.Frame.{node_a, leg_a, node_b, leg_b}
use Rattle.frames.specs.Ranges.{ends_ok}
use Rattle.frames.proofs.FrameLaws.{EndLimits, end_limits}
use Rattle.network.specs.Legs.{corner, corner_a, is_in, legs_free, taking}
use Rattle.network.specs.LegBits.{is_set}
use Rattle.network.specs.Faults.{segment_fault}
use Rattle.network.specs.Steps.Taken.{ends_of, has_leg, with_leg, Gathered, free_in, claimed}
use Rattle.network.specs.Steps.Checks.{legs_fault}

-- ---- one byte
one_most : (x : ℕ) → x < 2 → max x 1 ≡ 1
one_most x l = omega arith

none_most : (x : ℕ) → max x 0 ≡ x
none_most x = omega arith

of_product : (x p : ℕ) → x < 2 → 0 < p → eqb x 1 ≡ not (eqb (x * p) 0)
of_product zero p l h = let none : 0 * p ≡ 0 = omega arith in rw none refl
of_product (suc zero) p l h = rw (ne_eqb (1 * p) 0 (λ e. omega (arith, e, h))) refl
of_product (suc (suc x)) p l h = absurd (omega arith)

-- the test of a bit by its bit alone
pub bit_test : (bits leg : ℕ) → is_set bits leg ≡ not (eqb (bit_and bits (2 ^ leg)) 0)
unfolding is_set
bit_test bits leg = rw (and_pow bits leg) (of_product (bit_at bits leg) (2 ^ leg) (bit_at-lt bits leg) (pow_pos leg))

set_bit : (bits leg k : ℕ) → leg < 8 → is_set (bit_or bits (2 ^ leg)) k ≡ (eqb k leg || is_set bits k)
unfolding is_set
set_bit bits leg k l = go (eqb k leg) refl
  where
    go : (b : Bool) → eqb k leg ≡ b → is_set (bit_or bits (2 ^ leg)) k ≡ (b || is_set bits k)
    go true e = rw (eqb-true k leg e, bit_at_or bits (2 ^ leg) leg, bit_at-pow_same leg, one_most (bit_at bits leg) (bit_at-lt bits leg)) refl
    go false e = rw (bit_at_or bits (2 ^ leg) k, bit_at-pow_other leg k (eqb-false k leg e), none_most (bit_at bits k)) refl

-- ---- the bytes of the nodes
pub none_gathered : (most n : ℕ) → n ≤ most → Gathered n [] (replicate most 0)
unfolding is_set is_in
none_gathered most n h =
    record {
      room = omega (arith, length-replicate {A = ℕ} most 0);
      byte = λ node l. record { set = λ k m. rw (get_or-replicate {A = ℕ} most node 0 0 (omega arith), bit_at-zero k) };
    }

module _ {n : ℕ} {taken legs : List ℕ} (w : Gathered n taken legs) where
  has_taken : (node leg : ℕ) → node < n → leg < 8 → has_leg legs node leg ≡ is_in (corner node leg) taken
  unfolding has_leg
  has_taken node leg l m = (w.byte node l).set leg m

  with_taken : (node leg : ℕ) → node < n → leg < 8 → Gathered n (corner node leg ∷ taken) (with_leg legs node leg)
  unfolding with_leg is_in
  with_taken node leg l m =
      record {
        room = omega (arith, w.room, length-set legs node (bit_or (at legs node) (2 ^ leg)));
        byte = λ v h. record { set = λ k o. go v h k o (eqb v node) refl };
      }
    where
      go : (v : ℕ) → v < n → (k : ℕ) → k < 8 → (b : Bool) → eqb v node ≡ b
          → is_set (at (with_leg legs node leg) v) k ≡ (eqb (corner v k) (corner node leg) || is_in (corner v k) taken)
      go v h k o true e =
          let same : v ≡ node = eqb-true v node e in
          let corner_leg : eqb (corner v k) (corner node leg) ≡ eqb k leg = grind (arith, nat_tests) in
          let byte : at (with_leg legs node leg) v ≡ bit_or (at legs node) (2 ^ leg) =
          rw same (get_or-set_same legs node (bit_or (at legs node) (2 ^ leg)) 0 (omega (arith, w.room))) in
          rw (byte, set_bit (at legs node) leg k m, corner_leg, sym ((w.byte v h).set k o), same) refl
      go v h k o false e =
          let apart : v ≡ node → ⊥ = eqb-false v node e in
          let other : eqb (corner v k) (corner node leg) ≡ false = ne_eqb _ _ (λ c. apart (omega arith)) in
          let byte : at (with_leg legs node leg) v ≡ at legs v = get_or-set_other legs node v (bit_or (at legs node) (2 ^ leg)) 0 apart in
          rw (byte, other) ((w.byte v h).set k o)

module _ {n : ℕ} {taken legs : List ℕ} (w : Gathered n taken legs) where
  -- ---- both legs of a frame
  module _ (f : List ℕ) (e : ends_ok n f ≡ true) where
    abbrev l : EndLimits n f
    l = end_limits n f e

    with_a : Gathered n (corner_a f ∷ taken) (with_leg legs (node_a f) (leg_a f))
    with_a = with_taken w (node_a f) (leg_a f) l.node_a_below (omega (arith, l.leg_a_below))

    legs_free_lem : free_in legs (ends_of f) ≡ legs_free taken f
    unfolding free_in legs_free is_in
    legs_free_lem =
        let a = has_taken w (node_a f) (leg_a f) l.node_a_below (omega (arith, l.leg_a_below)) in
        let b = has_taken with_a (node_b f) (leg_b f) l.node_b_below (omega (arith, l.leg_b_below)) in
        grind (arith, nat_tests)

    pub claimed_gathered : Gathered n (taking taken f) (claimed legs (ends_of f))
    claimed_gathered = with_taken with_a (node_b f) (leg_b f) l.node_b_below (omega (arith, l.leg_b_below))

  -- the fault of a line by the bytes is its fault by the legs taken
  pub legs_fault_lem : (e : ℕ) (more : Bool) (f : List ℕ) → legs_fault e n more legs f ≡ segment_fault e n more taken f
  unfolding segment_fault
  legs_fault_lem e more f = go (ends_ok n f) refl
    where
      go : (b : Bool) → ends_ok n f ≡ b → legs_fault e n more legs f ≡ segment_fault e n more taken f
      go true q = rw (legs_free_lem f q) refl
      go false q = rw q refl

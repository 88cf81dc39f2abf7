-- The entries of the nodes, written one after the other. What is left to write, over the list as it is, is the whole over the list as it was: an entry is
-- two stores, and a node that is farther writes nothing.
-- Assumes nothing.
use mathlib.Core.Path.{◌≡◌, refl, ◌∙◌}
use mathlib.Core.Bool.{true, false, cond}
use mathlib.Core.List.{List}
use Prim.Native.Nat.{ℕ, zero, suc, ◌+◌, ◌*◌, ◌/◌, ◌≤◌, ◌<◌}
use lib.Dec.{leb}
use lib.ListN.{length, set, length-set}
use native.Mathlib.Omega.{arith}
use Rattle.lists.specs.Placed.{placed}
use Rattle.lists.proofs.Facts.{bool_cases}
use Rattle.lists.proofs.PlacedLaws.{placed_nothing, placed_two}
use Rattle.routes.specs.Reach.{numbers}
use Rattle.routes.specs.Steps.Reach.{entries_of}
use Rattle.search_reach.specs.Steps.Map.{Listable, Nodes}

-- The nodes below `node` are passed, with `left` nodes left; the next entry goes to the place.
pub record Listing (near : ℕ → ℕ) (farthest nodes : ℕ) (before list : List ℕ) (place node : ℕ) : Type 0 where
  pub left : ℕ
  pub split : node + left ≡ nodes
  pub same : length list ≡ length before
  pub early : place ≤ 2 * node
  pub text : placed place (numbers (entries_of near farthest node left)) list ≡ placed 0 (numbers (entries_of near farthest 0 nodes)) before
  pub counted : place + 2 * length (entries_of near farthest node left) ≡ 2 * length (entries_of near farthest 0 nodes)

pub listing_none : (near : ℕ → ℕ) (farthest nodes : ℕ) (before : List ℕ) → Listing near farthest nodes before before 0 0
listing_none near farthest nodes before =
    record { left = nodes; split = omega arith; same = refl; early = omega arith; text = refl; counted = omega arith }

module _ {near : ℕ → ℕ} {farthest nodes : ℕ} {before list : List ℕ} {place node : ℕ} (i : Listing near farthest nodes before list place node) where
  fits : node < nodes → 2 * nodes ≤ length before → place + 2 ≤ length list
  fits l h = omega arith

  pub listing_more : {after : List ℕ} {next : ℕ} → node < nodes → 2 * nodes ≤ length before
      → after ≡ cond (leb (near node) farthest) (set (set list place node) (place + 1) (near node)) list
      → next ≡ cond (leb (near node) farthest) (place + 2) place
      → Listing near farthest nodes before after next (node + 1)
  unfolding entries_of
  listing_more {after} {next} l h a n = go i.left i.split i.text i.counted
    where
      go : (left : ℕ) → node + left ≡ nodes
          → placed place (numbers (entries_of near farthest node left)) list ≡ placed 0 (numbers (entries_of near farthest 0 nodes)) before
          → place + 2 * length (entries_of near farthest node left) ≡ 2 * length (entries_of near farthest 0 nodes)
          → Listing near farthest nodes before after next (node + 1)
      go zero s t c = absurd (omega arith)
      go (suc left) s t c =
          bool_cases (leb (near node) farthest)
          (λ (p : leb (near node) farthest ≡ true).
          let a' : after ≡ set (set list place node) (place + 1) (near node) = rw p at a in
          let n' : next ≡ place + 2 = rw p at n in
          record {
            left = left;
            split = omega arith;
            same = rw a' (simp length-set i.same);
            early = omega (arith, i.early);
            text =
                rw (a', n')
                (placed_two place node (near node) (numbers (entries_of near farthest (node + 1) left)) list (fits l h)
                ∙ rw p at t);
            counted = rw n' (omega (arith, rw p at c));
          })
          (λ (p : leb (near node) farthest ≡ false).
          let a' : after ≡ list = rw p at a in
          let n' : next ≡ place = rw p at n in
          record {
            left = left;
            split = omega arith;
            same = rw a' i.same;
            early = omega (arith, i.early);
            text = rw (a', n') (rw p at t);
            counted = rw n' (rw p at c);
          })

  pub listing_all : nodes ≤ node → (list ≡ placed 0 (numbers (entries_of near farthest 0 nodes)) before)
      × (place / 2 ≡ length (entries_of near farthest 0 nodes))
  unfolding entries_of
  listing_all h =
      let none : i.left ≡ 0 = omega arith in
      (placed_nothing place list ∙ rw none at i.text, omega (arith, rw none at i.counted))

pub listable : {near : ℕ → ℕ} {farthest nodes place node : ℕ} {index best before list : List ℕ} → Listing near farthest nodes before list place node
    → Nodes index best nodes before → node < nodes → Listable index best node list place
listable i N l = record { looked = N.looked _ l; small = omega (arith, N.small); fits = fits i l N.fits }

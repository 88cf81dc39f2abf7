-- Memory chosen by a network's counts has room for its nodes: a county's for every head in order, a town's where the counts are a town's. Then the bytes of
-- the largest network.
-- Assumes nothing.
use Prim.Native.Nat.{ℕ, ◌≤◌}
use mathlib.Core.Bool.{Bool, true, false, not, ◌&&◌}
use mathlib.Core.Path.{◌≡◌, refl, sym, ◌∙◌}
use mathlib.Core.List.{List}
use native.Mathlib.Omega.{arith}
use lib.Dec.{leb}
use lib.ListN.{length}
use borrow.Author.Tests.{le-leb}
use Rattle.lists.proofs.Lists.{true_is_false}
use Rattle.frames.specs.Steps.Sizes.{town_size, county_size, is_town}
use Rattle.frames.specs.Edition.{most_kept}
use Rattle.frames.specs.Ranges.{head_ok}
use Rattle.frames.proofs.EditionLaws.{kept_most}
use Rattle.frames.proofs.FrameLaws.{head_limits}
use Rattle.frames.proofs.TownLaws.{town_nodes}
use Rattle.network.specs.Network.{head_of, edition_of, nodes_of, segments_of, is_network}
use Rattle.network.specs.Steps.Corners.{NoCorners}
use Rattle.network.specs.Steps.Taken.{NoLegs}
use Rattle.network.specs.Steps.Checks.{FewNodes, Awaits, AwaitsRuns, is_county}
use Rattle.network.proofs.NetworkLaws.{passed}

pub few_await : {most : ℕ} {net legs : List ℕ} → FewNodes most net → NoLegs most legs → Awaits net legs
few_await {most} {net} few w = record { free = λ l h. w (nodes_of net) (few.few l h) }

pub few_await_runs : {most : ℕ} {net index : List ℕ} → FewNodes most net → NoCorners most index → AwaitsRuns true net index
few_await_runs {most} {net} few w = record { free = λ l h t. w (nodes_of net) (few.few l h) }

pub county_heads : (net : List ℕ) → FewNodes county_size net
county_heads net = record { few = λ l h. (head_limits (head_of net) h).few_nodes }

-- bytes that are no county's, but have a head in order, are a town's
module _ (net : List ℕ) {county : Bool} (e : county ≡ is_county net) (f : county ≡ false) where
  town_head : 7 ≤ length net → head_ok (head_of net) ≡ true → nodes_of net ≤ town_size
  unfolding is_county
  town_head l h =
      town_nodes (nodes_of net) (segments_of net) (is_town_lem (is_town (nodes_of net) (segments_of net)) (le-leb 7 (length net) l) h (sym e ∙ f))
    where
      is_town_lem : (town : Bool) → leb 7 (length net) ≡ true → head_ok (head_of net) ≡ true → (leb 7 (length net) && head_ok (head_of net) && not town) ≡ false
          → town ≡ true
      is_town_lem true p q r = refl
      is_town_lem false p q r = true_is_false (rw (p, q) at r) refl

  pub town_few : is_network net ≡ true → nodes_of net ≤ town_size
  town_few is = let P = passed net is in town_head (omega (arith, P.long)) P.head.fields

  pub town_heads : FewNodes town_size net
  town_heads = record { few = town_head }

pub county_few : (net : List ℕ) → is_network net ≡ true → nodes_of net ≤ county_size
county_few net is = (passed net is).limits.few_nodes

-- in so many bytes every network that Read can keep has room
pub network_fits : (net : List ℕ) → is_network net ≡ true → length net ≤ most_kept
network_fits net is =
    omega (arith, (passed net is).long, kept_most (edition_of net) (segments_of net) (passed net is).limits.segments_most)

-- Memory that the counts choose has room: a county's for every network, a town's where the bytes are no county's.
-- Assumes nothing.
use mathlib.Core.Path.{◌≡◌, sym, subst}
use mathlib.Core.Bool.{Bool, true, false}
use mathlib.Core.List.{List}
use native.Mathlib.Omega.{arith}
use Prim.Native.Nat.{ℕ, ◌*◌}
use Rattle.frames.specs.Steps.Sizes.{town_size, county_size}
use Rattle.network.specs.Network.{nodes_of, is_network}
use Rattle.network.specs.Steps.Checks.{is_county}
use Rattle.network.proofs.NetworkLaws.{passed}
use Rattle.network.proofs.SizeLaws.{county_heads, town_heads}
use Rattle.search_relaxing.specs.Steps.Unfound.{Unknown}
use Rattle.search_rounds.specs.Steps.Searches.{AllUnknown}
use Rattle.splicereel.specs.Steps.Calls.{CornerRoom, NodeRoom}

pub county_corners : (net : List ℕ) → CornerRoom net (8 * county_size)
county_corners net = record { few = county_heads net; most = omega arith }

pub county_nodes : (net : List ℕ) → NodeRoom net county_size
county_nodes net = record { few = county_heads net; most = omega arith }

module _ {net : List ℕ} {county : Bool} (e : county ≡ is_county net) (f : county ≡ false) where
  pub town_corners : CornerRoom net (8 * town_size)
  town_corners = record { few = town_heads net e f; most = omega arith }

  pub town_nodes : NodeRoom net town_size
  town_nodes = record { few = town_heads net e f; most = omega arith }

-- bytes of zeros are no goals
pub unmarked : {here net goals : List ℕ} {nodes : ℕ} → is_network here ≡ true → here ≡ net → NodeRoom net nodes → AllUnknown nodes goals
    → Unknown (nodes_of here) goals
unmarked {here} {nodes = nodes} is e R zeros =
    let P = passed here is in
    let room = subst (λ (net : List ℕ). NodeRoom net nodes) (sym e) R in
    zeros (nodes_of here) (room.few.few (omega (arith, P.long)) P.head.fields)

-- The search may be asked; and what it answers is what is promised.
use Rattle.std.specs.Option.{option_map}
use Rattle.std.proofs.Common.{◌≡◌, rules}
use mathlib.Core.Path.{refl}
use mathlib.Core.Bool.{true}
use native.Mathlib.Omega.{arith}
use Rattle.routes.specs.declared.LeastRoute.{LeastRoute}
use Rattle.frames.specs.Ranges.{within}
use Rattle.splicereel.specs.Finding.{nodes_refusal, route_refusal}
use Rattle.splicereel.proofs.Asking.{rooms, in_order, low_enough, route_answers}
use Rattle.splicereel.proofs.MemoryLaws.{unmarked}
use Rattle.splicereel.proofs.route.route_in.Goals as goal

pub find-least-requires : goal.find-least-requires
find-least-requires g c =
    let T = c.in_ok-tolerance.ensures in (
      in_order c.nodes-nodes.ensures c.in_ok-check_node-2.ensures.0 (low_enough _ T.0 T.1) (omega arith) refl,
      rooms c.in_ok-check_room.ensures.0,
      unmarked c.in_ok-streets.streets.net.kept c.in_ok-streets.ensures.1.0 c.requires.1 c.unknown-goals.ensures,
    )

pub returns : goal.returns
unfolding route_refusal nodes_refusal
returns g c =
    let net = c.in_ok-streets.ensures.1.0 in
    let T = c.in_ok-tolerance.ensures in
    let asked : within 1 4 c.args.tolerance ≡ true = T.0 in
    let same : c.map.result ≡ option_map (λ (told : LeastRoute). told.route) c.find-least.result = search rules in
    rw (same, ← net)
    (route_answers c.find-least.result
    (rw (c.in_ok-streets.streets.net.kept, ← c.nodes-nodes.ensures, c.in_ok-check_node.ensures.0, c.in_ok-check_node-2.ensures.0, asked, ← c.runs-runs.ensures, c.in_ok-check_room.ensures.0))
    T.1 c.find-least.ensures)

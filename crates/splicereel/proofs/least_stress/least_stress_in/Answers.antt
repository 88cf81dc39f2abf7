-- The search may be asked; and what it answers is what is promised.
use Rattle.splicereel.proofs.Asking.{rooms, in_order}
use Rattle.splicereel.proofs.MemoryLaws.{unmarked}
use mathlib.Core.Path.{refl}
use native.Mathlib.Omega.{arith}
use borrow.Author.Rules.{rules}
use Rattle.splicereel.specs.Finding.{nodes_refusal, least_stress_refusal}
use Rattle.splicereel.proofs.least_stress.least_stress_in.Goals as goal

pub find-requires : goal.find-requires
find-requires g c = (
  in_order c.nodes-nodes.ensures c.in_ok-check_node-2.ensures.0 (omega arith) (omega arith) refl,
  rooms c.in_ok-check_room.ensures.0,
  unmarked c.in_ok-streets.streets.net.kept c.in_ok-streets.ensures.1.0 c.requires.1 c.unknown-goals.ensures,
)

pub returns : goal.returns
unfolding least_stress_refusal nodes_refusal
returns g c =
    rw (← c.in_ok-streets.ensures.1.0) (search rules)

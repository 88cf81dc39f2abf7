-- What an entry tells is one of the runs.
use Rattle.search_labels.specs.Steps.Relax.{leads}
use Rattle.search_relaxing.proofs.CountedLaws.{told}
use native.Mathlib.Omega.{arith}
use Rattle.search_relaxing.proofs.relax.relax_leg.Goals as goal

pub visit-requires : goal.visit-requires
visit-requires c = grind (arith, c.requires.behind c.in-Some.run' (told c.in-Some.ensures))

pub returns-in-Some : goal.returns-in-Some
returns-in-Some c = record { offered = leads c.visit.ensures.visit (told c.in-Some.ensures); settling = c.visit.ensures.settling }

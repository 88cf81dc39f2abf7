-- Each branch of the code is one of the choices of proofs/ChoiceLaws.antt.
use Rattle.search_relaxing.proofs.ChoiceLaws.{chosen_none, chosen_barred, chosen_right, chosen_every}
use Rattle.search_relaxing.proofs.CountedLaws.{arriving}
use native.Mathlib.Omega.{arith}
use Rattle.search_relaxing.proofs.relax.choose.Goals as goal

pub returns-in-Nothing : goal.returns-in-Nothing
returns-in-Nothing c = chosen_none (arriving c.requires.0) c.args.unfound.now c.in-Nothing.ensures

pub returns-then-approach-ask : goal.returns-then-approach-ask
returns-then-approach-ask c =
    chosen_every (arriving c.requires.0) c.args.unfound.now (record { across = omega arith })
    c.to_find-rest.ensures c.in_default.not-Nothing c.every_leg.ensures

pub returns-then-approach-ask-2 : goal.returns-then-approach-ask-2
returns-then-approach-ask-2 c =
    chosen_right (arriving c.requires.0) c.args.unfound.now c.args.ask.now.streets.gathered (record { turn = omega arith; across = omega arith })
    c.right_hand_exit.ensures c.to_find-rest.ensures c.in_default.not-Nothing c.right_leg.ensures

pub returns : goal.returns
returns c = chosen_barred (arriving c.requires.0) c.args.unfound.now (omega arith)

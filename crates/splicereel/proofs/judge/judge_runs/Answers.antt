-- `splicereel::judge::judge_runs` meets its contract: each answer follows from the guards before it.
use Rattle.splicereel.proofs.Judging.{movement_none, movement_judged}
use mathlib.Core.Path.{◌∙◌}
use Rattle.streets.proofs.MovementLaws.{level_of_movement}
use Rattle.splicereel.proofs.judge.judge_runs.Goals as goal

pub returns-then-arrival-start_of : goal.returns-then-arrival-start_of
returns-then-arrival-start_of c =
    movement_none c.args.streets.now.net.kept c.requires.0 c.requires.1 c.arrival_of-arrival.ensures c.start_of.ensures c.leaving_leg-leg.ensures
    c.if-arrival-start_of.true

pub returns : goal.returns
returns c =
    movement_judged c.args.streets.now.net.kept c.requires.0 c.requires.1 c.arrival_of-arrival.ensures c.start_of.ensures c.leaving_leg-leg.ensures
    c.if-arrival-start_of.false c.level_onto.result
    (c.level_onto.ensures ∙ level_of_movement c.arrival_of-arrival.ensures c.args.second c.leaving_leg-leg.result c.leaving_leg-leg.ensures.is)

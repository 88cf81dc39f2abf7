-- A tolerance that met nothing is passed, and its labels are written over: what they were is kept. So it is said of the one that met a goal.
use Prim.Native.Nat.{ℕ, ◌+◌, ◌-◌}
use mathlib.Core.Path.{◌≡◌, subst}
use native.Mathlib.Omega.{arith}
use Rattle.std.specs.Prelude.{Err}
use Rattle.search_rounds.specs.Steps.Searches.{Stopped, NothingMet}
use Rattle.search_rounds.proofs.Meeting.{nothing_met}
use Rattle.search_rounds.proofs.search.Search.explore.Goals as goal

pub loop-tolerance-preserved : goal.loop-tolerance-preserved
loop-tolerance-preserved c =
    let ask = c.args.self.now.ask in
    let goals = c.args.self.now.goals.now in
    let t = c.loop-tolerance.tolerance in
    let here : t ≡ t + 1 - 1 = omega arith in
    let below : t - 1 ≡ t + 1 - 2 = omega arith in (
      λ h. subst (λ (u : ℕ). Stopped ask u goals c.search_at.new.best c.search_at.new.previous (Err c.in-Err.key)) here c.in-Err.ensures,
      λ h. subst (λ (u : ℕ). NothingMet ask u goals) below (nothing_met (t - 1) (c.loop-tolerance.invariant.0 (omega (arith, h)))),
    )

pub returns-in-Ok : goal.returns-in-Ok
returns-in-Ok c =
    record {
      low = omega arith;
      high = omega arith;
      below_limit = c.in-Ok.ensures.0;
      stop = c.in-Ok.ensures.1;
      none_below = λ h. nothing_met (c.loop-tolerance.tolerance - 1) (c.loop-tolerance.invariant.0 h);
    }

pub returns-in-Err : goal.returns-in-Err
returns-in-Err c =
    let ask = c.args.self.now.ask in
    let goals = c.args.self.now.goals.now in
    let last : c.loop-tolerance.tolerance ≡ ask.tolerance = omega arith in (
      subst (λ (u : ℕ). Stopped ask u goals c.search_at.new.best c.search_at.new.previous (Err c.in-Err.key)) last c.in-Err.ensures,
      λ h. subst (λ (u : ℕ). NothingMet ask (u - 1) goals) last (nothing_met (c.loop-tolerance.tolerance - 1) (c.loop-tolerance.invariant.0 (omega (arith, h)))),
    )

-- The tolerances of a search, one after the other: what a lower one met is the answer; where the lower ones met nothing, the next one decides.
-- Assumes nothing.
use mathlib.Core.List.{List}
use Prim.Native.Nat.{ℕ, ◌-◌, ◌≤◌, ◌<◌}
use native.Mathlib.Omega.{arith}
use Rattle.std.specs.Prelude.{Ok, Err}
use Rattle.search_relaxing.specs.declared.Ask.{Ask}
use Rattle.search_rounds.specs.declared.explore.Met.{Met}
use Rattle.search_rounds.specs.Steps.Searches.{Stopped, NothingMet, Meets}

-- the same question with a greatest tolerance one lower
abbrev pub lower : Ask → Ask
lower ask = record ask { tolerance = ask.tolerance - 1 }

-- what is known before the greatest tolerance is tried: those below it met nothing
abbrev pub NoneBelow : Ask → List ℕ → Type 0
NoneBelow ask goals = ask.least < ask.tolerance → NothingMet ask (ask.tolerance - 1) goals

module _ {ask : Ask} {goals : List ℕ} {best previous : List ℕ} where
  -- a search at a tolerance met nothing: so it was, whatever is written over its labels
  pub nothing_met : (t : ℕ) → {key : ℕ} → Stopped ask t goals best previous (Err key) → NothingMet ask t goals
  nothing_met t {key} m = record { best = best; previous = previous; key = key; beyond = m.0; stop = m.1 }

  pub lower_met : {met : Met} → ask.least < ask.tolerance → Meets (lower ask) goals best previous (Ok met) → Meets ask goals best previous (Ok met)
  lower_met l m =
      record {
        low = m.low;
        high = omega (arith, m.high);
        below_limit = m.below_limit;
        stop = m.stop;
        none_below = λ h. let n = m.none_below h in record { best = n.best; previous = n.previous; key = n.key; beyond = n.beyond; stop = n.stop };
      }

  pub lower_nothing : {key : ℕ} → Meets (lower ask) goals best previous (Err key) → NoneBelow ask goals
  lower_nothing m h = nothing_met (ask.tolerance - 1) m.0

  pub met_here : {key : ℕ} → ask.least ≤ ask.tolerance → NoneBelow ask goals → Stopped ask ask.tolerance goals best previous (Ok key)
      → Meets ask goals best previous (Ok (record { key = key; tolerance = ask.tolerance }))
  met_here l n s = record { low = l; high = omega arith; below_limit = s.0; stop = s.1; none_below = n }

  pub none_here : {key : ℕ} → NoneBelow ask goals → Stopped ask ask.tolerance goals best previous (Err key) → Meets ask goals best previous (Err key)
  none_here n s = (s, n)

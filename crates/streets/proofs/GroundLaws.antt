-- Two street graphs of the same bytes differ in their levels alone, so that one with no higher levels is nowhere worse than the other.
-- Assumes nothing.
use Prim.Native.Nat.{ℕ, ◌≤◌}
use mathlib.Core.Path.{refl}
use mathlib.Core.List.{List}
use Rattle.routes.specs.Streets.{Streets}
use Rattle.routes.specs.NowhereWorse.{NowhereWorse}
use Rattle.streets.specs.Runs.{runs_of, is_open, start, finish, feet_of, joins}

-- the street graph of a network with these levels of runs and of movements
abbrev pub with_levels : List ℕ → (ℕ → ℕ) → (ℕ → ℕ → ℕ) → Streets
with_levels net stress turn =
    record {
      runs = runs_of net;
      is_open = is_open net;
      start = start net;
      finish = finish net;
      feet = feet_of net;
      stress = stress;
      joins = joins net;
      turn = turn;
    }

pub no_higher : (net : List ℕ) (stress stress' : ℕ → ℕ) (turn turn' : ℕ → ℕ → ℕ) → ((r : ℕ) → stress r ≤ stress' r)
    → ((p q : ℕ) → turn p q ≤ turn' p q) → NowhereWorse (with_levels net stress turn) (with_levels net stress' turn')
no_higher net stress stress' turn turn' runs turns =
    record {
      ground = record { runs = refl; starts = λ r l. refl; finishes = λ r l. refl; lengths = λ r l. refl; joined = λ p q l m. refl };
      opens = λ r o. o.1;
      runs_no_higher = λ r l. runs r;
      turns_no_higher = λ p q m. turns p q;
    }

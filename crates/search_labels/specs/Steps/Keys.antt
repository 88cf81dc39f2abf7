-- The order in which runs are settled, as one number: first by label, then by the run's own number. "Labelled", "settled" and "next" are then
-- comparisons of numbers, and no flag is stored.
-- Assumes nothing.
use Rattle.std.specs.Prelude.{◌≡◌, List, ℕ, ◌+◌, ◌*◌, ◌/◌, ◌%◌, ◌<◌}
use Rattle.lists.specs.Lists.{at}

-- Every run's number is below it, so that different runs have different keys.
abbrev pub span : ℕ
span = 65536

-- A label and a run in one number, and each of them again. The queue's `top` is `unlabelled` with run 0: it is above the key of every labelled run,
-- and at most the key of every other.
abbrev pub label_key : ℕ → ℕ → ℕ
label_key label r = label * span + r

abbrev pub label_in : ℕ → ℕ
label_in m = m / span

abbrev pub run_in : ℕ → ℕ
run_in m = m % span

-- The key of a run.
abbrev pub key : List ℕ → ℕ → ℕ
key best r = label_key (at best r) r

-- m is the key of a run below n.
pub record IsKey (best : List ℕ) (n m : ℕ) : Type 0 where
  pub inside : run_in m < n
  pub exact : at best (run_in m) ≡ label_in m

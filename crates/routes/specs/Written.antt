-- Document 01, "The calls": the route that a call returns, for any street graph. Which of several shortest routes it is, is free.
-- Assumes nothing.
use Rattle.std.specs.Prelude.{◌≡◌, List, ℕ, ◌≤◌}
use Rattle.routes.specs.Streets.{Streets}
use Rattle.routes.specs.Routes.{length_of, level_of, count_of, Shortest}
use Rattle.lists.specs.Placed.{placed}
use Rattle.routes.specs.declared.Found.{Found}

-- A shortest route from a to b within t stands in the buffer from the place on, and what is told of it is its own.
pub record Written (g : Streets) (t a b place : ℕ) (before after : List ℕ) (told : Found) : Type 0 where
  pub runs : List ℕ
  pub shortest : Shortest g t a b runs
  pub counted : count_of runs ≡ told.count
  pub measured : length_of g runs ≡ told.length
  pub judged : level_of g runs ≡ told.level
  pub text : after ≡ placed place runs before
  -- it has at most as many runs as there are
  pub few : told.count ≤ g.runs

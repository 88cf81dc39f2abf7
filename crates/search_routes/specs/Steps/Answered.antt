-- What `find` asks, and what it answers.
-- Assumes nothing.
use Rattle.std.specs.Prelude.{◌≡◌, Bool, List, Option, Some, None, ℕ, ◌+◌, ◌-◌, ◌≤◌, ◌<◌, eqb, length}
use Rattle.routes.specs.Streets.{Streets}
use Rattle.routes.specs.Routes.{NoRoute}
use Rattle.routes.specs.declared.Found.{Found as Route}
use Rattle.routes.specs.declared.LeastRoute.{LeastRoute}
use Rattle.routes.specs.Written.{Written}
use Rattle.queue.specs.Steps.Queue.{top}
use Rattle.network.specs.Network.{nodes_of}
use Rattle.search_labels.specs.Steps.Labels.{Room}
use Rattle.search_relaxing.specs.declared.Ask.{Ask}
use Rattle.search_relaxing.specs.Steps.Counted.{network_in}
use Rattle.search_relaxing.specs.Steps.Unfound.{Unknown}

-- A question in order: tolerances from 1 up, a node of the network to find, and no limit.
pub record Question (ask : Ask) (to : ℕ) : Type 0 where
  pub to_node : to < nodes_of (network_in ask)
  pub low : 1 ≤ ask.least
  pub order : ask.least ≤ ask.tolerance
  pub whole : ask.limit ≡ top

-- What is lent has a number for each of n runs, the buffer from the place on.
pub record Rooms (n : ℕ) (best previous buffer : List ℕ) (place : ℕ) : Type 0 where
  pub scratch : Room n best previous
  pub buffer_fits : place + n ≤ length buffer

-- No node is a goal yet.
abbrev pub Unmarked : Ask → List ℕ → Type 0
Unmarked ask goals = Unknown (nodes_of (network_in ask)) goals

-- The run arrives at b.
unfoldable pub arrives_at : Streets → ℕ → ℕ → Bool
arrives_at g b r = eqb (g.finish r) b

-- From a node to itself: the empty route.
abbrev pub staying : ℕ → LeastRoute
staying tolerance = record { route = record { count = 0; length = 0; level = 1 }; tolerance = tolerance }

-- The least tolerance u, of those from `least` to t, that has a route: a shortest one within it stands in the buffer from the place on, and count, length
-- and level are that route's own. Which of several shortest routes it is, is free.
pub record FirstFound (g : Streets) (least t a b place : ℕ) (before after : List ℕ) (told : Route) (u : ℕ) : Type 0 where
  pub low : least ≤ u
  pub high : u ≤ t
  pub none_below : least < u → NoRoute g (u - 1) a b
  pub written : Written g u a b place before after told

-- None: no route from a to b is within t, and the buffer is as it came.
abbrev pub Answered : Streets → ℕ → ℕ → ℕ → ℕ → ℕ → List ℕ → List ℕ → Option LeastRoute → Type 0
Answered g least t a b place before after None = (after ≡ before) × NoRoute g t a b
Answered g least t a b place before after (Some told) = FirstFound g least t a b place before after told.route told.tolerance

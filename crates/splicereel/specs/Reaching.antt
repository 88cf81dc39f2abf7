-- What Reach map and Nearest promise (document 02, Note 3), for every network, every node, every tolerance, every greatest length or marks, and any lent
-- slices whatever they hold.
-- Assumes nothing.
use Rattle.std.specs.Prelude.{ℕ, ◌<◌, ◌≡◌, List, Option, Result, Ok, Err, length}
use Rattle.routes.specs.Streets.{Streets}
use Rattle.routes.specs.Reach.{MapWritten, Nearest, NoneMarked}
use Rattle.routes.specs.declared.Entry.{Entry}
use Rattle.network.specs.Network.{nodes_of}
use Rattle.streets.specs.Bicycle.{bicycle}
use Rattle.refusals.specs.declared.Refusal.{Refusal}
use Rattle.refusals.specs.Numbers.{number_of}
use Rattle.splicereel.specs.Finding.{reach_refusal}
use Rattle.splicereel.specs.Promises.{Told, refused, none, found, told_of, refusal_in}

-- ---- Reach map
-- What a caller lends: the two scratch slices and the list.
pub record MapLent : Type 0 where
  pub best : List ℕ
  pub previous : List ℕ
  pub list : List ℕ

abbrev pub map_lent : List ℕ → List ℕ → List ℕ → MapLent
map_lent b p l = record { best = b; previous = p; list = l }

-- Of a map is told the count of its entries.
abbrev pub told_map : Result ℕ Refusal → Told ℕ
told_map (Err why) = refused (number_of why)
told_map (Ok count) = found count

-- What holds of each answer. A refusal: everything lent is as it came. Else the map stands at the front of the list, and what stood behind it stays; it is
-- never none, since the start is listed. Free: what the scratch holds then.
abbrev pub MapHolds : Streets → ℕ → ℕ → ℕ → ℕ → MapLent → MapLent → Told ℕ → Type 0
MapHolds g nodes t a greatest before after (refused number) = after ≡ before
MapHolds g nodes t a greatest before after none = ⊥
MapHolds g nodes t a greatest before after (found count) = MapWritten g nodes t a greatest before.list after.list count

pub record MapPromise (net : List ℕ) (from t greatest : ℕ) (before after : MapLent) (answer : Result ℕ Refusal) : Type 0 where
  -- which refusal, by the tests in their order; 0 where none
  pub refusal :
      refusal_in (told_map answer)
      ≡ reach_refusal net from t (length before.best) (length before.previous) 2 (length before.list)
  -- what holds of the answer
  pub holds : MapHolds (bicycle net) (nodes_of net) t from greatest before after (told_map answer)

-- ---- Nearest
-- What a caller lends to be written: the two scratch slices.
pub record Scratch : Type 0 where
  pub best : List ℕ
  pub previous : List ℕ

abbrev pub scratch : List ℕ → List ℕ → Scratch
scratch b p = record { best = b; previous = p }

-- Of the nearest are told its node and its least length.
abbrev pub told_nearest : Result (Option Entry) Refusal → Told Entry
told_nearest answer = told_of answer

-- The nearest marked node and its least length, which fits 32 bits.
pub record NearestFound (g : Streets) (nodes t a : ℕ) (marks : List ℕ) (entry : Entry) : Type 0 where
  pub nearest : Nearest g nodes t a marks entry
  pub fits : entry.length < 4294967296

-- None: no marked node has a route within the tolerance. The marks are only read. Free: what the scratch holds after an answer.
abbrev pub NearestHolds : Streets → ℕ → ℕ → ℕ → List ℕ → Scratch → Scratch → Told Entry → Type 0
NearestHolds g nodes t a marks before after (refused number) = after ≡ before
NearestHolds g nodes t a marks before after none = NoneMarked g nodes t a marks
NearestHolds g nodes t a marks before after (found entry) = NearestFound g nodes t a marks entry

pub record NearestPromise (net : List ℕ) (from t : ℕ) (marks : List ℕ) (before after : Scratch) (answer : Result (Option Entry) Refusal) : Type 0 where
  pub refusal :
      refusal_in (told_nearest answer) ≡ reach_refusal net from t (length before.best) (length before.previous) 1 (length marks)
  pub holds : NearestHolds (bicycle net) (nodes_of net) t from marks before after (told_nearest answer)

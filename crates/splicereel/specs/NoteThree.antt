-- Document 02, Note 3, as one statement over what the calls Reach map, Nearest and Route return. A map, its entries, the nearest and none are those of
-- crates/routes/specs/Reach.antt; `bicycle net` is the street graph of a network; calls of Route are those of specs/DemandThree.antt. Its proof is
-- proofs/NoteThreeHolds.antt.
-- Assumes nothing.
use Rattle.std.specs.Prelude.{ℕ, zero, suc, ◌*◌, ◌≤◌, ◌<◌, ◌≡◌, true, List, [], ◌∷◌, Option, Result, ◌↔◌, length, drop}
use Rattle.routes.specs.Reach.{Listed, ReachMap, is_marked, Nearest, NoneMarked}
use Rattle.routes.specs.declared.Entry.{Entry}
use Rattle.routes.specs.declared.Found.{Found}
use Rattle.network.specs.Network.{nodes_of, is_network}
use Rattle.streets.specs.Runs.{runs_of}
use Rattle.streets.specs.Bicycle.{bicycle}
use Rattle.refusals.specs.declared.Refusal.{Refusal}
use Rattle.splicereel.specs.Promises.{Told, refused, none, found, told_route}
use Rattle.splicereel.specs.Reaching.{MapLent, Scratch, told_map, told_nearest, MapPromise, NearestPromise}
use Rattle.splicereel.specs.DemandThree.{RouteCall}

-- ---- The calls
-- A question in order: an accepted network, a node of it, a tolerance from 1 to 4, and scratch with room.
pub record ReachInOrder (net : List ℕ) (from t : ℕ) (best previous : List ℕ) : Type 0 where
  pub accepted : is_network net ≡ true
  pub from_node : from < nodes_of net
  pub low : 1 ≤ t
  pub high : t ≤ 4
  pub best_fits : runs_of net ≤ length best
  pub previous_fits : runs_of net ≤ length previous

-- A call of Reach map: what was lent, what came back, and the answer. `returned` is the contract of the call.
pub record MapCall (net : List ℕ) (from t greatest : ℕ) : Type 0 where
  pub before : MapLent
  pub after : MapLent
  pub in_order : ReachInOrder net from t before.best before.previous
  pub list_fits : 2 * nodes_of net ≤ length before.list
  pub answer : Result ℕ Refusal
  pub returned : MapPromise net from t greatest before after answer

-- A call of Nearest.
pub record NearestCall (net : List ℕ) (from t : ℕ) (marks : List ℕ) : Type 0 where
  pub before : Scratch
  pub after : Scratch
  pub in_order : ReachInOrder net from t before.best before.previous
  pub marks_fit : nodes_of net ≤ length marks
  pub answer : Result (Option Entry) Refusal
  pub returned : NearestPromise net from t marks before after answer

-- ---- What a caller reads
-- So many entries at the front of a list, each two numbers, the node and its length.
abbrev pub entries_in : ℕ → List ℕ → List Entry
entries_in zero list = []
entries_in (suc k) [] = []
entries_in (suc k) (node ∷ []) = []
entries_in (suc k) (node ∷ feet ∷ rest) = record { node = node; length = feet } ∷ entries_in k rest

-- How many entries are told.
abbrev pub told_count : Told ℕ → ℕ
told_count (refused number) = 0
told_count none = 0
told_count (found count) = count

abbrev pub count_told : {net : List ℕ} {from t greatest : ℕ} → MapCall net from t greatest → ℕ
count_told call = told_count (told_map call.answer)

-- The entries of the list that a call of Reach map has returned.
abbrev pub entries_told : {net : List ℕ} {from t greatest : ℕ} → MapCall net from t greatest → List Entry
entries_told call = entries_in (count_told call) call.after.list

-- ---- Of one call of Reach map
pub record OfMap (net : List ℕ) (from t greatest : ℕ) (call : MapCall net from t greatest) : Type 0 where
  -- it answers, and the entries are as many as it tells
  pub answers : told_map call.answer ≡ found (length (entries_told call))
  -- every node that has a route within both, and no other, in rising node number, each with its least length
  pub map : ReachMap (bicycle net) (nodes_of net) t from greatest (entries_told call)
  -- what stood past the last entry stays
  pub stays : drop (2 * count_told call) call.after.list ≡ drop (2 * count_told call) call.before.list
  -- the start is listed, whatever the greatest length
  pub start : Listed from 0 (entries_told call)

-- ---- Of a call of Reach map and a call of Route, from the same node at the same tolerance: the node is in the map exactly when Route returns a route of
-- at most the greatest length, and the lengths are equal.
pub record MapAgrees (net : List ℕ) (from b t greatest : ℕ) (map : MapCall net from t greatest) (route : RouteCall net from b t) : Type 0 where
  pub listed_exactly : (feet : ℕ)
      → Listed b feet (entries_told map) ↔ ((way : Found) × (told_route route.answer ≡ found way) × (way.length ≡ feet) × (feet ≤ greatest))

-- ---- Of one call of Nearest
pub record OfNearest (net : List ℕ) (from t : ℕ) (marks : List ℕ) (told : Told Entry) : Type 0 where
  -- the nearest marked node is told exactly when some marked node has a route within the tolerance; none exactly when no one has
  pub found_exactly : (entry : Entry) → (told ≡ found entry) ↔ Nearest (bicycle net) (nodes_of net) t from marks entry
  pub none_exactly : (told ≡ none) ↔ NoneMarked (bicycle net) (nodes_of net) t from marks

-- ---- Of a call of Nearest and a call of Reach map, from the same node at the same tolerance
pub record NearestAgrees (net : List ℕ) (from t greatest : ℕ) (marks : List ℕ) (near : Told Entry) (map : MapCall net from t greatest) : Type 0 where
  -- no marked entry of the map is nearer than the nearest, nor as near with a lower number
  pub first : (e : Entry) → near ≡ found e → (b feet : ℕ) → Listed b feet (entries_told map) → is_marked marks b ≡ true
      → (e.length ≤ feet) × (feet ≡ e.length → e.node ≤ b)
  -- where it is no farther than the greatest length, it is an entry itself
  pub listed : (e : Entry) → near ≡ found e → e.length ≤ greatest → Listed e.node e.length (entries_told map)
  -- none: no entry is marked
  pub none_listed : near ≡ none → (b feet : ℕ) → Listed b feet (entries_told map) → is_marked marks b ≡ true → ⊥
  -- and where the greatest length is the greatest number of 32 bits or more, a map without a marked entry means none
  pub none_where : 4294967295 ≤ greatest → ((b feet : ℕ) → Listed b feet (entries_told map) → is_marked marks b ≡ true → ⊥) → near ≡ none

-- ---- The note
pub record NoteThree : Type 0 where
  pub map : {net : List ℕ} {from t greatest : ℕ} (call : MapCall net from t greatest) → OfMap net from t greatest call
  -- the list is unique: two calls with the same question return the same entries, whatever was lent
  pub one_map : {net : List ℕ} {from t greatest : ℕ} (call other : MapCall net from t greatest) → entries_told call ≡ entries_told other
  pub map_route : {net : List ℕ} {from b t greatest : ℕ} (map : MapCall net from t greatest) (route : RouteCall net from b t)
      → MapAgrees net from b t greatest map route
  -- the map rises with the tolerance and with the greatest length: it never loses a node or lengthens its way
  pub map_rises : {net : List ℕ} {from t u greatest greater : ℕ} (call : MapCall net from t greatest) (higher : MapCall net from u greater)
      → t ≤ u → greatest ≤ greater → (b feet : ℕ) → Listed b feet (entries_told call) → (other : ℕ) × Listed b other (entries_told higher) × (other ≤ feet)
  -- with the greatest length alone the lengths stay
  pub same_lengths : {net : List ℕ} {from t greatest greater : ℕ} (call : MapCall net from t greatest) (farther : MapCall net from t greater)
      → greatest ≤ greater → (b feet : ℕ) → Listed b feet (entries_told call) → Listed b feet (entries_told farther)
  pub nearest : {net : List ℕ} {from t : ℕ} {marks : List ℕ} (call : NearestCall net from t marks) → OfNearest net from t marks (told_nearest call.answer)
  -- Route finds a way just as long to the nearest
  pub nearest_route : {net : List ℕ} {from t : ℕ} {marks : List ℕ} (call : NearestCall net from t marks) (e : Entry)
      → told_nearest call.answer ≡ found e → (route : RouteCall net from e.node t)
      → (way : Found) × (told_route route.answer ≡ found way) × (way.length ≡ e.length)
  pub nearest_map : {net : List ℕ} {from t greatest : ℕ} {marks : List ℕ} (call : NearestCall net from t marks) (map : MapCall net from t greatest)
      → NearestAgrees net from t greatest marks (told_nearest call.answer) map

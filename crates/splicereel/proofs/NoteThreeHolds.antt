-- Note 3 holds, from the promises of the calls alone. A question that is in order passes every test, so Reach map writes its map, and the entries that a
-- caller reads are the map's own; Nearest tells the nearest marked node, or that none has a route. A map lists the least lengths, and Route's
-- routes have them too, by demand 3: so the map and Route agree. One question has one map, and a map has every node of a narrower one, no farther. Of
-- the marked nodes there is one nearest at most, and a map that lists it lists none before it; its length fits 32 bits, so a map that goes as far
-- as the greatest number of 32 bits lists it.
-- Assumes nothing.
use Prim.Native.Nat.{ℕ, ◌*◌, ◌≤◌}
use native.Mathlib.Omega.{arith}
use mathlib.Core.Path.{◌≡◌, refl, sym, ◌∙◌, ap, ap₂, subst}
use mathlib.Core.Bool.{true}
use mathlib.Core.List.{List, [], ◌∷◌, ◌++◌}
use Rattle.std.specs.Prelude.{Option, Some, None, Result, Ok, Err}
use lib.ListN.{length, drop}
use lib.Seq.{drop_at}
use borrow.Author.Tests.{le-leb, lt-ltb}
use Rattle.refusals.specs.declared.Refusal.{Refusal}
use Rattle.refusals.proofs.Positive.{positive}
use Rattle.routes.specs.Streets.{Streets}
use Rattle.routes.specs.Reach.{LeastLength, Listed, ReachMap, numbers, MapWritten, is_marked, Nearest, NoneMarked}
use Rattle.routes.specs.declared.Entry.{Entry}
use Rattle.routes.specs.declared.Found.{Found}
use Rattle.routes.proofs.ReachMaps.{numbers_length, least_same, least_listed, start_listed, map_rises, map_same_length, map_unique}
use Rattle.routes.proofs.NearestMarked.{nearest_some, nearest_unique, nearest_listed, nearest_first, none_listed}
use Rattle.network.specs.Network.{nodes_of}
use Rattle.streets.specs.Runs.{runs_of}
use Rattle.streets.specs.Bicycle.{bicycle}
use Rattle.splicereel.specs.Finding.{reach_refusal}
use Rattle.splicereel.specs.Promises.{Told, none, found, refusal_in, told_route}
use Rattle.splicereel.specs.Reaching.{told_map, MapHolds, NearestFound, told_nearest, NearestHolds}
use Rattle.splicereel.specs.DemandThree.{RouteCall}
use Rattle.splicereel.specs.NoteThree.{ReachInOrder, MapCall, NearestCall, entries_in, told_count, entries_told}
use Rattle.splicereel.specs.NoteThree.{OfMap, OfNearest, NearestAgrees, NoteThree}
use Rattle.splicereel.proofs.DemandThreeHolds.{Outcome, nothing, something, at_none, at_found, demand_three}

-- ---- a question that is in order is refused by no test
unrefused : {net : List ℕ} {from t : ℕ} {best previous : List ℕ} → ReachInOrder net from t best previous → (size entries : ℕ)
    → size * nodes_of net ≤ entries → reach_refusal net from t (length best) (length previous) size entries ≡ 0
unfolding reach_refusal
unrefused {net} {from} {t} {best} {previous} I size entries fit =
    rw (
      I.accepted,
      lt-ltb from (nodes_of net) I.from_node,
      le-leb 1 t I.low,
      le-leb t 4 I.high,
      le-leb (runs_of net) (length best) I.best_fits,
      le-leb (runs_of net) (length previous) I.previous_fits,
      le-leb (size * nodes_of net) entries fit,
    )

-- ---- what a caller reads is what was written
entries_read : (es : List Entry) (rest : List ℕ) → entries_in (length es) (numbers es ++ rest) ≡ es
entries_read [] rest = refl
entries_read (e ∷ es) rest = ap (λ (xs : List Entry). e ∷ xs) (entries_read es rest)

module _ {g : Streets} {nodes t a greatest told : ℕ} {before after : List ℕ} (W : MapWritten g nodes t a greatest before after told) where
  written_read : entries_in told after ≡ W.entries
  written_read =
      ap₂ (λ (k : ℕ) (l : List ℕ). entries_in k l) (sym W.counted) W.text ∙ entries_read W.entries (drop (2 * told) before)

  written_map : ReachMap g nodes t a greatest (entries_in told after)
  written_map = subst (λ (es : List Entry). ReachMap g nodes t a greatest es) (sym written_read) W.map

  written_stays : drop (2 * told) after ≡ drop (2 * told) before
  written_stays =
      ap (λ (l : List ℕ). drop (2 * told) l) W.text
      ∙ drop_at (numbers W.entries) (drop (2 * told) before) (2 * told) (omega (arith, numbers_length W.entries, W.counted))

-- ---- Reach map
record Mapped (net : List ℕ) (from t greatest : ℕ) (before after : List ℕ) (told : Told ℕ) : Type 0 where
  says : told ≡ found (told_count told)
  written : MapWritten (bicycle net) (nodes_of net) t from greatest before after (told_count told)

module _ {net : List ℕ} {from t greatest : ℕ} (call : MapCall net from t greatest) where
  mapped : Mapped net from t greatest call.before.list call.after.list (told_map call.answer)
  mapped = go call.answer (call.returned.refusal ∙ unrefused call.in_order 2 _ call.list_fits) call.returned.holds
    where
      go : (answer : Result ℕ Refusal) → refusal_in (told_map answer) ≡ 0
          → MapHolds (bicycle net) (nodes_of net) t from greatest call.before call.after (told_map answer)
          → Mapped net from t greatest call.before.list call.after.list (told_map answer)
      go (Err why) e H = absurd (positive why e)
      go (Ok count) e H = record { says = refl; written = H }

  the_map : ReachMap (bicycle net) (nodes_of net) t from greatest (entries_told call)
  the_map = written_map mapped.written

  map_keeps : OfMap net from t greatest call
  map_keeps =
      let W = mapped.written in
      record {
        answers = mapped.says ∙ ap found (sym W.counted ∙ ap (λ (es : List Entry). length es) (sym (written_read W)));
        map = the_map;
        stays = written_stays W;
        start = start_listed call.in_order.low call.in_order.from_node the_map;
      }

same_lengths : {net : List ℕ} {from t greatest greater : ℕ} (call : MapCall net from t greatest) (farther : MapCall net from t greater)
    → greatest ≤ greater → (b feet : ℕ) → Listed b feet (entries_told call) → Listed b feet (entries_told farther)
same_lengths call farther l b feet k =
    let M = the_map call in
    let N = the_map farther in
    let n = map_rises (omega arith) l M N b feet k in
    rw (← map_same_length M N b feet n.0 k n.1) at n.1

-- ---- Route's lengths are the least
module _ {net : List ℕ} {from b t : ℕ} (route : RouteCall net from b t) where
  way_least : (way : Found) → told_route route.answer ≡ found way → LeastLength (bicycle net) t from b way.length
  way_least way e =
      let S = (demand_three.route route).stands way e in
      record { runs = S.runs; shortest = S.shortest; measured = sym S.own_length }

  least_way : {feet : ℕ} → LeastLength (bicycle net) t from b feet
      → (way : Found) × (told_route route.answer ≡ found way) × (way.length ≡ feet)
  least_way D =
      let finds = (demand_three.route route).found_exactly.1 (D.runs, D.shortest.within) in
      (finds.0, finds.1, least_same (way_least finds.0 finds.1) D)

module _ {net : List ℕ} {from b t greatest : ℕ} (map : MapCall net from t greatest) (route : RouteCall net from b t) where
  abbrev Way : ℕ → Type 0
  Way feet = (way : Found) × (told_route route.answer ≡ found way) × (way.length ≡ feet) × (feet ≤ greatest)

  listed_way : (feet : ℕ) → Listed b feet (entries_told map) → Way feet
  listed_way feet k =
      let s = (the_map map).only b feet k in
      let w = least_way route s.0 in
      (w.0, w.1, w.2, s.1)

  way_listed : (feet : ℕ) → Way feet → Listed b feet (entries_told map)
  way_listed feet w =
      let D = subst (λ (n : ℕ). LeastLength (bicycle net) t from b n) w.2 (way_least route w.0 w.1) in
      least_listed (the_map map) route.in_order.to_node D w.3

-- ---- Nearest
module _ {net : List ℕ} {from t : ℕ} {marks : List ℕ} (call : NearestCall net from t marks) where
  abbrev Unmarked : Type 0
  Unmarked = NoneMarked (bicycle net) (nodes_of net) t from marks

  abbrev Met : Entry → Type 0
  Met entry = NearestFound (bicycle net) (nodes_of net) t from marks entry

  abbrev told : Told Entry
  told = told_nearest call.answer

  outcome : Outcome Entry told Unmarked Met
  outcome =
      go call.answer (call.returned.refusal ∙ unrefused call.in_order 1 (length marks) (omega (arith, call.marks_fit))) call.returned.holds
    where
      go : (answer : Result (Option Entry) Refusal) → refusal_in (told_nearest answer) ≡ 0
          → NearestHolds (bicycle net) (nodes_of net) t from marks call.before call.after (told_nearest answer)
          → Outcome Entry (told_nearest answer) Unmarked Met
      go (Err why) e H = absurd (positive why e)
      go (Ok None) e H = nothing refl H
      go (Ok (Some entry)) e H = something entry refl H

  tells : (entry : Entry) → Nearest (bicycle net) (nodes_of net) t from marks entry → told ≡ found entry
  tells entry N = go outcome
    where
      go : Outcome Entry told Unmarked Met → told ≡ found entry
      go (nothing e n) = absurd (nearest_some N n)
      go (something other e F) = e ∙ ap found (nearest_unique F.nearest N)

  tells_none : Unmarked → told ≡ none
  tells_none unmarked = go outcome
    where
      go : Outcome Entry told Unmarked Met → told ≡ none
      go (nothing e n) = e
      go (something entry e F) = absurd (nearest_some F.nearest unmarked)

  nearest_keeps : OfNearest net from t marks told
  nearest_keeps =
      record {
        found_exactly = λ entry. (λ e. (at_found outcome entry e).nearest, tells entry);
        none_exactly = (at_none outcome, tells_none);
      }

  nearest_map : {greatest : ℕ} (map : MapCall net from t greatest) → NearestAgrees net from t greatest marks told map
  nearest_map {greatest} map =
      record {
        first = λ e p. nearest_first (at_found outcome e p).nearest (the_map map);
        listed = λ e p l. nearest_listed (at_found outcome e p).nearest (the_map map) l;
        none_listed = λ p. none_listed marks (at_none outcome p) (the_map map);
        none_where = λ l unmarked. go l unmarked outcome;
      }
    where
      go : 4294967295 ≤ greatest → ((b feet : ℕ) → Listed b feet (entries_told map) → is_marked marks b ≡ true → ⊥)
          → Outcome Entry told Unmarked Met → told ≡ none
      go l unmarked (nothing e n) = e
      go l unmarked (something entry e F) =
          let N = F.nearest in
          absurd (unmarked entry.node entry.length (nearest_listed N (the_map map) (omega (arith, F.fits))) N.marked)

pub note_three : NoteThree
note_three =
    record {
      map = map_keeps;
      one_map = λ call other. map_unique (the_map call) (the_map other);
      map_route = λ map route. record { listed_exactly = λ feet. (listed_way map route feet, way_listed map route feet) };
      map_rises = λ call higher up l. map_rises up l (the_map call) (the_map higher);
      same_lengths = same_lengths;
      nearest = nearest_keeps;
      nearest_route = λ call e p route. least_way route (at_found (outcome call) e p).nearest.measured;
      nearest_map = λ call map. nearest_map call map;
    }

-- Document 02, Note 7, as one statement: what a move changes and what it does not, that up and then back gives the first bytes, that levels and routes are
-- equal on both sides, and what is refused. `moved d net` is the network as edition d has it (crates/moves/specs/Moved.antt); a move up is from edition 2
-- to 3, a move back from 3 to 2. Its proof is proofs/NoteSevenHolds.antt.
-- Assumes nothing.
use Rattle.std.specs.Prelude.{ℕ, ◌+◌, ◌*◌, ◌%◌, ◌≤◌, ◌<◌, ◌≡◌, true, List, ◌++◌, Result, Ok, ◌↔◌, length, take, drop}
use Rattle.lists.specs.Lists.{Bytes}
use Rattle.refusals.specs.declared.Refusal.{Refusal}
use Rattle.refusals.specs.declared.Refusal.TheVariants.{NoSuchMove}
use Rattle.refusals.specs.Numbers.{number_of}
use Rattle.routes.specs.declared.Found.{Found}
use Rattle.routes.specs.declared.LeastRoute.{LeastRoute}
use Rattle.routes.specs.SameStreets.{SameStreets, SameRoutes}
use Rattle.frames.specs.Edition.{extra, frame_bytes}
use Rattle.frames.specs.Frame.{byte, feet}
use Rattle.network.specs.Network.{edition_of, nodes_of, segments_of, frame_of, is_network}
use Rattle.moves.specs.Moved.{moved}
use Rattle.moves.specs.Moving.{within_limits, move_refusal, refused, told_move, MoveDid}
use Rattle.streets.specs.Bicycle.{bicycle}
use Rattle.splicereel.specs.Judge.{judge_segment, judge_movement}
use Rattle.splicereel.specs.Promises.{Told, none, found, told_route, told_least}
use Rattle.splicereel.specs.DemandThree.{Finds, RouteCall, LeastCall}

-- ---- "only the edition, the lengths' width and the head's check change"
-- Of the network as edition d has it: the edition, and the counts that the head says.
pub record HeadMoved (d : ℕ) (net : List ℕ) : Type 0 where
  pub edition : edition_of (moved d net) ≡ d
  pub nodes : nodes_of (moved d net) ≡ nodes_of net
  pub segments : segments_of (moved d net) ≡ segments_of net

-- Of segment s: the frame's length; the bytes before the length are the same; the length is the same number; and so is each byte behind it, the frame's
-- check with them.
pub record SegmentMoved (d : ℕ) (net : List ℕ) (s : ℕ) : Type 0 where
  pub size : length (frame_of (moved d net) s) ≡ frame_bytes d
  pub before : (i : ℕ) → i < 7 → byte (frame_of (moved d net) s) i ≡ byte (frame_of net s) i
  pub feet : feet d (frame_of (moved d net) s) ≡ feet (edition_of net) (frame_of net s)
  pub behind : (i : ℕ) → 9 ≤ i → byte (frame_of (moved d net) s) (extra d + i) ≡ byte (frame_of net s) (extra (edition_of net) + i)

pub record Changes (d : ℕ) (net : List ℕ) : Type 0 where
  pub head : HeadMoved d net
  pub segment : (s : ℕ) → s < segments_of net → SegmentMoved d net s
  pub long : length (moved d net) ≡ 7 + frame_bytes d * segments_of net

-- ---- "Every level, and every route's being a route, is equal on both sides."
-- What two calls of Route tell, one about each side; and two of Least stress.
pub record SameWay (one other : Told Found) : Type 0 where
  pub finds : Finds one ↔ Finds other
  pub none : (one ≡ none) ↔ (other ≡ none)
  pub as_long : (x y : Found) → one ≡ found x → other ≡ found y → x.length ≡ y.length

pub record SameLeast (one other : Told LeastRoute) : Type 0 where
  pub finds : Finds one ↔ Finds other
  pub none : (one ≡ none) ↔ (other ≡ none)
  pub same : (x y : LeastRoute) → one ≡ found x → other ≡ found y → (x.tolerance ≡ y.tolerance) × (x.route.length ≡ y.route.length)

pub record SameTown (net copy : List ℕ) : Type 0 where
  pub accepted : is_network copy ≡ true
  -- level and measure of every segment, level of every movement, and every refusal to judge
  pub segment : (s : ℕ) → judge_segment copy s ≡ judge_segment net s
  pub movement : (p q : ℕ) → judge_movement copy p q ≡ judge_movement net p q
  -- each run's ends, feet and openness; and so every route, its length and level, and what is within a tolerance, shortest, none, and the least tolerance
  pub streets : SameStreets (bicycle copy) (bicycle net)
  pub routes : SameRoutes (bicycle copy) (bicycle net)
  pub route_calls : {from to t : ℕ} (call : RouteCall net from to t) (other : RouteCall copy from to t)
      → SameWay (told_route call.answer) (told_route other.answer)
  pub least_calls : {from to : ℕ} (call : LeastCall net from to) (other : LeastCall copy from to)
      → SameLeast (told_least call.answer) (told_least other.answer)

-- ---- What the calls do
-- A call of a move: what was lent, what came back, and the answer. `returned` is the contract of the call.
pub record MoveCall (from to : ℕ) (net : List ℕ) : Type 0 where
  pub before : List ℕ
  pub after : List ℕ
  pub answer : Result ℕ Refusal
  pub returned : MoveDid from to net before after answer

-- "the number of bytes written is returned"; past them nothing changes.
pub record Writes {from to : ℕ} {net : List ℕ} (call : MoveCall from to net) (count : ℕ) : Type 0 where
  pub counted : count ≡ length (moved to net)
  pub output : call.after ≡ moved to net ++ drop count call.before

-- "Up and then back gives the first bytes": what a move up wrote, moved back into an output with room.
pub record GivesBack {from to : ℕ} {net : List ℕ} (call : MoveCall from to net) (count : ℕ) : Type 0 where
  pub returned : (back : MoveCall to from (take count call.after)) → length net ≤ length back.before
      → (back.answer ≡ Ok (length net)) × (back.after ≡ net ++ drop (length net) back.before)

-- "a count or length above the older limits"
pub record Older (net : List ℕ) : Type 0 where
  pub nodes : nodes_of net ≤ 1000
  pub segments : segments_of net ≤ 1000
  pub lengths : (s : ℕ) → s < segments_of net → feet 3 (frame_of net s) ≤ 52800

-- ---- The note
pub record NoteSeven : Type 0 where
  -- a network of edition 02 as one of 03
  pub up_changes : (net : List ℕ) → is_network net ≡ true → edition_of net ≡ 2 → Changes 3 net
  pub up_check : (net : List ℕ) → is_network net ≡ true → edition_of net ≡ 2 → byte (moved 3 net) 6 ≡ (byte net 6 + 255) % 256
  pub up_same : (net : List ℕ) → is_network net ≡ true → edition_of net ≡ 2 → SameTown net (moved 3 net)
  -- one of edition 03 within the older limits as one of 02
  pub back_changes : (net : List ℕ) → is_network net ≡ true → edition_of net ≡ 3 → Older net → Changes 2 net
  pub back_check : (net : List ℕ) → is_network net ≡ true → edition_of net ≡ 3 → byte (moved 2 net) 6 ≡ (byte net 6 + 1) % 256
  pub back_same : (net : List ℕ) → is_network net ≡ true → edition_of net ≡ 3 → Older net → SameTown net (moved 2 net)
  -- and both, one after the other
  pub up_and_back : (net : List ℕ) → Bytes net → is_network net ≡ true → edition_of net ≡ 2 → moved 2 (moved 3 net) ≡ net
  pub back_and_up : (net : List ℕ) → Bytes net → is_network net ≡ true → edition_of net ≡ 3 → Older net → moved 3 (moved 2 net) ≡ net
  -- the calls: what is written; that a refusal leaves the output as it came; and both, one after the other
  pub writes : {from to : ℕ} {net : List ℕ} (call : MoveCall from to net) (count : ℕ) → call.answer ≡ Ok count → Writes call count
  pub untouched : {from to : ℕ} {net : List ℕ} (call : MoveCall from to net) (number : ℕ) → told_move call.answer ≡ refused number → call.after ≡ call.before
  pub gives_back_up : {net : List ℕ} → Bytes net → (call : MoveCall 2 3 net) (count : ℕ) → call.answer ≡ Ok count → GivesBack call count
  pub gives_back_down : {net : List ℕ} → Bytes net → (call : MoveCall 3 2 net) (count : ℕ) → call.answer ≡ Ok count → GivesBack call count
  -- "Edition 01 has no move"; the older limits are those of 17, and going up 17 is never met
  pub first_stays : (net : List ℕ) → is_network net ≡ true → edition_of net ≡ 1 → (room : ℕ)
      → (move_refusal 2 3 net room ≡ number_of NoSuchMove) × (move_refusal 3 2 net room ≡ number_of NoSuchMove)
  pub older_limits : (net : List ℕ) → is_network net ≡ true → edition_of net ≡ 3 → (within_limits 2 net ≡ true) ↔ Older net
  pub up_within : (net : List ℕ) → is_network net ≡ true → edition_of net ≡ 2 → within_limits 3 net ≡ true

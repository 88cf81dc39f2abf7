-- Document 02, Note 6, as one statement: what edition 03 has and what editions 01 and 02 keep, that no length which a call returns is above 16,000 × 264,000,
-- and that routes are promised by the same definitions as before. Its proof is proofs/NoteSixHolds.antt.
-- Assumes nothing.
use Rattle.std.specs.Prelude.{ℕ, ◌+◌, ◌*◌, ◌≤◌, ◌<◌, ◌≡◌, ◌≢◌, true, Bool, List, length}
use Rattle.routes.specs.Reach.{LeastLength, Listed}
use Rattle.routes.specs.declared.Entry.{Entry}
use Rattle.routes.specs.declared.Found.{Found}
use Rattle.routes.specs.declared.LeastRoute.{LeastRoute}
use Rattle.refusals.specs.declared.Refusal.TheVariants.{WrongFrame, OutputTooShort}
use Rattle.refusals.specs.Numbers.{number_of}
use Rattle.frames.specs.Edition.{edition_ok, most_nodes, most_segments, most_feet, length_bytes, frame_bytes}
use Rattle.frames.specs.Frame.{check_ok, edition, segments, ways}
use Rattle.frames.specs.Decoded.{form_of, crossing_of}
use Rattle.frames.specs.Faults.{head_fault}
use Rattle.network.specs.Faults.{segment_fault}
use Rattle.network.specs.Network.{edition_of, segments_of, frame_of, is_network}
use Rattle.digits.specs.Digits.{line_of, bytes_of}
use Rattle.text.specs.Read.{refused, read_of}
use Rattle.stress.specs.Crossing.{newer_crossing}
use Rattle.stress.specs.NewerSegment.{newer_grade}
use Rattle.streets.specs.Runs.{runs_of, frame_of_run, arrival_approach}
use Rattle.streets.specs.Bicycle.{segment_grade, arrival_crossing_level, bicycle}
use Rattle.splicereel.specs.Promises.{found, told_route, told_least}
use Rattle.splicereel.specs.Reaching.{told_nearest}
use Rattle.splicereel.specs.DemandThree.{RouteCall, LeastCall, DemandThree}
use Rattle.splicereel.specs.NoteThree.{MapCall, NearestCall, entries_told, NoteThree}

-- An edition has networks of at most so many nodes and segments, lengths of at most so many feet, in so many bytes, and segment frames of so many bytes.
pub record Sized (e nodes segments feet wide frame : ℕ) : Type 0 where
  pub exists : edition_ok e ≡ true
  pub most_nodes : most_nodes e ≡ nodes
  pub most_segments : most_segments e ≡ segments
  pub most_feet : most_feet e ≡ feet
  pub length_bytes : length_bytes e ≡ wide
  pub frame_bytes : frame_bytes e ≡ frame

-- A network of edition 03 has its levels by the newer rules.
pub record Newer (net : List ℕ) : Type 0 where
  pub street : (s : ℕ) → segment_grade net s ≡ newer_grade (ways 3 (frame_of net s)) (form_of 3 (frame_of net s))
  pub crossing : (r : ℕ) → arrival_crossing_level net r ≡ newer_crossing (crossing_of 3 (frame_of_run net r) (arrival_approach net r))

-- 16,000 runs of 264,000 feet.
abbrev pub greatest_length : ℕ
greatest_length = 16000 * 264000

-- No length that a call returns about an accepted network, of whatever edition, is above it.
pub record Lengths : Type 0 where
  pub fits : greatest_length < 4294967296
  -- every least length: as many of the longest segments as there are runs are as long
  pub least : (net : List ℕ) → is_network net ≡ true → {t a b feet : ℕ} → LeastLength (bicycle net) t a b feet
      → (feet ≤ most_feet (edition_of net) * runs_of net) × (feet ≤ greatest_length)
  pub route : {net : List ℕ} {from to t : ℕ} (call : RouteCall net from to t) (route : Found) → told_route call.answer ≡ found route
      → route.length ≤ greatest_length
  pub least_stress : {net : List ℕ} {from to : ℕ} (call : LeastCall net from to) (least : LeastRoute) → told_least call.answer ≡ found least
      → least.route.length ≤ greatest_length
  pub map : {net : List ℕ} {from t greatest : ℕ} (call : MapCall net from t greatest) (b feet : ℕ) → Listed b feet (entries_told call)
      → feet ≤ greatest_length
  pub nearest : {net : List ℕ} {from t : ℕ} {marks : List ℕ} (call : NearestCall net from t marks) (entry : Entry) → told_nearest call.answer ≡ found entry
      → entry.length ≤ greatest_length

pub record NoteSix : Type 0 where
  -- "Edition 03 has these limits and a 4-byte length, so its segment frame is 32 bytes"; "editions 01 and 02 keep their frames and limits"
  pub third : Sized 3 8000 8000 264000 4 32
  pub first : Sized 1 1000 1000 52800 2 30
  pub second : Sized 2 1000 1000 52800 2 30
  -- a segment's line of another number of bytes is 3, where its digits and its check are in order
  pub other_frame : (e n : ℕ) (more : Bool) (taken f : List ℕ) → length f ≢ 0 → check_ok f ≡ true → length f ≢ frame_bytes e
      → segment_fault e n more taken f ≡ number_of WrongFrame
  -- "its kept form 7 + 32 × S bytes, and Read's output limit follows"
  pub kept : (net : List ℕ) → is_network net ≡ true → edition_of net ≡ 3 → length net ≡ 7 + 32 * segments_of net
  pub limit : (text h : List ℕ) (room : ℕ) → h ≡ bytes_of (line_of text) → length text ≢ 0 → head_fault h ≡ 0 → edition h ≡ 3
      → room < 7 + 32 * segments h → read_of text room ≡ refused (number_of OutputTooShort) 1
  -- "It uses the newer rules."
  pub rules : (net : List ℕ) → edition_of net ≡ 3 → Newer net
  -- "No returned length is above 16,000 × 264,000, which still fits 32 bits"
  pub lengths : Lengths
  -- "A county user's shortest route is judged by the same definition of routes": what is said of the calls asks no edition and no size of an accepted network
  pub assurance : DemandThree
  pub reach : NoteThree

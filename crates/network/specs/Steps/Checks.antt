-- What the functions that judge segments' frames promise one another, in test 8 and in Read: they go by the bytes of used legs, where the definitions
-- go by the legs taken.
-- Assumes nothing.
use Rattle.std.specs.Prelude.{ℕ, ◌≤◌, Bool, true, ◌&&◌, not, ◌≡◌, List, [], eqb, leb, length}
use Rattle.frames.specs.declared.Head.{Head}
use Rattle.frames.specs.Steps.Sizes.{is_town, Limited}
use Rattle.frames.specs.Frame.{head_bytes}
use Rattle.frames.specs.Ranges.{head_ok}
use Rattle.network.specs.Faults.{line_fault}
use Rattle.network.specs.Network.{head_of, nodes_of, segments_of, frames_ok, is_network}
use Rattle.network.specs.Steps.Taken.{Gathered, ends_of, free_in, claimed}
use Rattle.network.specs.Steps.Corners.{Indexed, with_runs, corners_from, corners_of}

-- The fault of a segment's line by the bytes of used legs, in place of the legs taken.
abbrev pub legs_fault : ℕ → ℕ → Bool → List ℕ → List ℕ → ℕ
legs_fault e n more legs f = line_fault e n more (free_in legs (ends_of f)) f

-- A head with no more nodes and segments than a county, and a byte for each of its nodes.
pub record HeadFits (head : Head) (legs : List ℕ) : Type 0 where
  pub limited : Limited head
  pub room : head.nodes ≤ length legs

-- The frame of segment s judged where it stands in kept bytes, after a head: its answer, and where it passes, the bytes with its legs, and the index with
-- its runs if it is to be filled.
pub record SegmentChecked (indexed : Bool) (f : List ℕ) (head : Head) (s : ℕ) (old new index index' : List ℕ) (r : Bool) : Type 0 where
  pub answer : r ≡ eqb (legs_fault head.edition head.nodes true old f) 0
  pub legs : r ≡ true → new ≡ claimed old (ends_of f)
  pub runs : r ≡ true → indexed ≡ true → index' ≡ with_runs index s (ends_of f)

-- An index that is to be filled has these corners.
abbrev pub FramesIndexed : Bool → ℕ → List ℕ → List ℕ → Type 0
FramesIndexed indexed n taken index = indexed ≡ true → Indexed n taken index

-- The test of the segment frames that a head counts, at the front of the bytes after it: its answer, and where it passes, their used legs, and the index of
-- their runs if it is to be filled.
pub record FramesChecked (indexed : Bool) (head : Head) (bytes legs' index' : List ℕ) (r : Bool) : Type 0 where
  pub answer : r ≡ frames_ok head.edition head.nodes head.segments [] bytes
  pub legs : r ≡ true → Gathered head.nodes (corners_from head.edition head.segments [] bytes) legs'
  pub index : r ≡ true → FramesIndexed indexed head.nodes (corners_from head.edition head.segments [] bytes) index'

-- A head in order says no more than so many nodes.
pub record FewNodes (most : ℕ) (net : List ℕ) : Type 0 where
  pub few : head_bytes ≤ length net → head_ok (head_of net) ≡ true → nodes_of net ≤ most

-- Bytes with no leg used, one for each of the nodes that a head in order says; and an index with every leg free, if it is to be filled.
pub record Awaits (net legs : List ℕ) : Type 0 where
  pub free : head_bytes ≤ length net → head_ok (head_of net) ≡ true → Gathered (nodes_of net) [] legs

pub record AwaitsRuns (indexed : Bool) (net index : List ℕ) : Type 0 where
  pub free : head_bytes ≤ length net → head_ok (head_of net) ≡ true → FramesIndexed indexed (nodes_of net) [] index

-- The test of kept bytes: its answer, and where it passes, the network's used legs.
pub record Checked (net legs' : List ℕ) (r : Bool) : Type 0 where
  pub answer : r ≡ is_network net
  pub legs : r ≡ true → Gathered (nodes_of net) (corners_of net) legs'

-- The bytes are more than a town: their head is in order, and says more nodes or segments than a town has.
unfoldable pub is_county : List ℕ → Bool
is_county net = leb head_bytes (length net) && head_ok (head_of net) && not (is_town (nodes_of net) (segments_of net))

-- Test 8: the bytes are a network that Read could keep, the frames' bytes joined, each frame with no fault.
-- Assumes nothing.
use Rattle.std.specs.Prelude.{ℕ, zero, suc, ◌+◌, ◌*◌, Bool, true, ◌&&◌, List, [], eqb, length, take, drop}
use Rattle.frames.specs.Edition.{frame_bytes}
use Rattle.frames.specs.Frame.{head_bytes, edition, nodes, segments}
use Rattle.frames.specs.Faults.{head_fault}
use Rattle.network.specs.Legs.{taking}
use Rattle.network.specs.Faults.{segment_fault}

-- The head of a network; its edition, nodes N and segments S; and the frame of segment s.
abbrev pub head_of : List ℕ → List ℕ
head_of net = take head_bytes net

abbrev pub edition_of : List ℕ → ℕ
edition_of net = edition (head_of net)

abbrev pub nodes_of : List ℕ → ℕ
nodes_of net = nodes (head_of net)

abbrev pub segments_of : List ℕ → ℕ
segments_of net = segments (head_of net)

abbrev pub frame_of : List ℕ → ℕ → List ℕ
frame_of net s = take (frame_bytes (edition_of net)) (drop (head_bytes + frame_bytes (edition_of net) * s) net)

-- The kept network is the frames' bytes joined: 7 + 30 × S bytes.
abbrev pub kept_bytes : List ℕ → ℕ
kept_bytes h = head_bytes + frame_bytes (edition h) * segments h

-- So many segment frames stand at the front of the bytes, with these legs taken before them, and none has a fault.
unfoldable pub frames_ok : ℕ → ℕ → ℕ → List ℕ → List ℕ → Bool
frames_ok e n zero taken bytes = true
frames_ok e n (suc left) taken bytes =
    eqb (segment_fault e n true taken (take (frame_bytes e) bytes)) 0
    && frames_ok e n left (taking taken (take (frame_bytes e) bytes)) (drop (frame_bytes e) bytes)

unfoldable pub is_network : List ℕ → Bool
is_network net =
    eqb (head_fault (head_of net)) 0 && eqb (length net) (kept_bytes (head_of net))
    && frames_ok (edition_of net) (nodes_of net) (segments_of net) [] (drop head_bytes net)

-- Document 02, Note 7: a kept network as another edition has it. "Only the edition, the lengths' width and the head's check change."
-- Assumes nothing.
use Rattle.std.specs.Prelude.{ℕ, zero, suc, ◌+◌, ◌-◌, ◌%◌, List, [], ◌∷◌, ◌++◌, replicate, take, drop}
use Rattle.frames.specs.Edition.{extra, frame_bytes}
use Rattle.frames.specs.Frame.{byte, edition, head_bytes}
use Rattle.network.specs.Network.{head_of, edition_of, segments_of}

-- A head as edition d has it: the check takes up what the edition's byte has changed by, so that all bytes sum to what they did, modulo 256.
unfoldable pub head_in : ℕ → List ℕ → List ℕ
head_in d h = byte h 0 ∷ d ∷ byte h 2 ∷ byte h 3 ∷ byte h 4 ∷ byte h 5 ∷ (byte h 6 + edition h + (256 - d)) % 256 ∷ []

-- Where a segment's length begins in its frame.
abbrev pub length_place : ℕ
length_place = 7

-- A segment's frame of edition e as edition d has it: the length's last two bytes stay, and the bytes of its width before them are 0.
unfoldable pub frame_in : ℕ → ℕ → List ℕ → List ℕ
frame_in e d f = take length_place f ++ (replicate (extra d) 0 ++ drop (length_place + extra e) f)

-- So many frames at the front of the bytes.
unfoldable pub frames_in : ℕ → ℕ → ℕ → List ℕ → List ℕ
frames_in e d zero bytes = []
frames_in e d (suc left) bytes = frame_in e d (take (frame_bytes e) bytes) ++ frames_in e d left (drop (frame_bytes e) bytes)

-- The network as edition d has it.
unfoldable pub moved : ℕ → List ℕ → List ℕ
moved d net = head_in d (head_of net) ++ frames_in (edition_of net) d (segments_of net) (drop head_bytes net)

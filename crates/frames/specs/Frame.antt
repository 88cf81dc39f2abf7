-- Document 01, "Frames": where the fields of a frame stand. A frame is the list of its bytes; larger fields have the high byte first. What stands
-- after the length takes the edition e.
-- Assumes nothing.
use Rattle.std.specs.Prelude.{ℕ, zero, suc, ◌+◌, ◌*◌, ◌%◌, Bool, ◌&&◌, List, [], ◌∷◌, eqb, length, get_or}
use Rattle.frames.specs.Edition.{extra, length_bytes}

-- The byte at i; and the two bytes from i.
abbrev pub byte : List ℕ → ℕ → ℕ
byte f i = get_or f i 0

abbrev pub word : List ℕ → ℕ → ℕ
word f i = get_or f i 0 * 256 + get_or f (i + 1) 0

-- The number that so many bytes from i make.
unfoldable pub number : ℕ → List ℕ → ℕ → ℕ
number zero f i = 0
number (suc width) f i = number width f i * 256 + byte f (i + width)

-- The last byte of a frame is its check: all bytes of the frame sum to 0 modulo 256.
unfoldable pub total : List ℕ → ℕ
total [] = 0
total (b ∷ bytes) = b + total bytes

unfoldable pub check_ok : List ℕ → Bool
check_ok f = eqb (total f % 256) 0

-- The kind and the frame length of a position.
abbrev pub is_frame : ℕ → ℕ → List ℕ → Bool
is_frame kind size f = eqb (byte f 0) kind && eqb (length f) size

-- ---- Head, 7 bytes: kind 01; edition; nodes N, 2 bytes; segments S, 2 bytes; check.
abbrev pub head_bytes : ℕ
head_bytes = 7

abbrev pub edition : List ℕ → ℕ
edition h = byte h 1

abbrev pub nodes : List ℕ → ℕ
nodes h = word h 2

abbrev pub segments : List ℕ → ℕ
segments h = word h 4

-- ---- Segment, 30 bytes: kind 02; A node (2 bytes); A leg; B node and B leg; length in feet (2 bytes); form; ways; lanes; speed in mph; reach in
-- half feet; marks; the approach at B (7 bytes); the approach at A (7); check.
abbrev pub node_a : List ℕ → ℕ
node_a f = word f 1

abbrev pub leg_a : List ℕ → ℕ
leg_a f = byte f 3

abbrev pub node_b : List ℕ → ℕ
node_b f = word f 4

abbrev pub leg_b : List ℕ → ℕ
leg_b f = byte f 6

unfoldable pub feet : ℕ → List ℕ → ℕ
feet e f = number (length_bytes e) f 7

abbrev pub form : ℕ → List ℕ → ℕ
form e f = byte f (extra e + 9)

abbrev pub ways : ℕ → List ℕ → ℕ
ways e f = byte f (extra e + 10)

abbrev pub lanes : ℕ → List ℕ → ℕ
lanes e f = byte f (extra e + 11)

abbrev pub speed : ℕ → List ℕ → ℕ
speed e f = byte f (extra e + 12)

abbrev pub reach : ℕ → List ℕ → ℕ
reach e f = byte f (extra e + 13)

abbrev pub marks : ℕ → List ℕ → ℕ
marks e f = byte f (extra e + 14)

-- Where the two approaches begin.
abbrev pub approach_b : ℕ → ℕ
approach_b e = extra e + 15

abbrev pub approach_a : ℕ → ℕ
approach_a e = extra e + 22

-- ---- Approach at place i: control; lanes crossed; their speed; turn-lane kind; turn-lane length in feet (2 bytes); turning speed.
abbrev pub control : List ℕ → ℕ → ℕ
control f i = byte f i

abbrev pub lanes_crossed : List ℕ → ℕ → ℕ
lanes_crossed f i = byte f (i + 1)

abbrev pub speed_crossed : List ℕ → ℕ → ℕ
speed_crossed f i = byte f (i + 2)

abbrev pub turn_kind : List ℕ → ℕ → ℕ
turn_kind f i = byte f (i + 3)

abbrev pub turn_feet : List ℕ → ℕ → ℕ
turn_feet f i = word f (i + 4)

abbrev pub turning_speed : List ℕ → ℕ → ℕ
turning_speed f i = byte f (i + 6)

-- Document 01, "Starred and plain examples": the input that the paper prints, and what Read says of it and of its neighbours, one for each number 1 to
-- 7. And the values that edition 02 has and edition 01 has not, and what edition 03 alone has. Its proof is proofs/SamplesHold.antt.
-- Assumes nothing.
use Rattle.std.specs.Prelude.{ℕ, ◌≡◌, true, false, List, [], ◌∷◌, ◌++◌}
use Prim.Native.Char.{code}
use Prim.Native.String.{String, [] as end, ◌∷◌ as ◌then◌}
use Rattle.network.specs.Network.{is_network}
use Rattle.text.specs.Read.{refused, kept, read_of}

-- The bytes of characters; and a line of a text, ended by 0A.
abbrev pub characters : String → List ℕ
characters end = []
characters (c then cs) = code c ∷ characters cs

abbrev pub line : String → List ℕ
line end = 0x0A ∷ []
line (c then cs) = code c ∷ line cs

-- Heads of two nodes and one segment, two segments, none; of edition 02; of edition 03; of edition 04, which does not exist.
abbrev pub one : List ℕ
one = line "010100020001FB"

abbrev pub two : List ℕ
two = line "010100020002FA"

abbrev pub no : List ℕ
no = line "010100020000FC"

abbrev newer : List ℕ
newer = line "010200020001FA"

abbrev county : List ℕ
county = line "010300020001F9"

abbrev later : List ℕ
later = line "010400020001F8"

-- Heads without segments: of edition 03 with 8,000 nodes and with 8,001, of edition 02 with 1,001.
abbrev nodes_8000 : List ℕ
nodes_8000 = line "01031F4000009D"

abbrev nodes_8001 : List ℕ
nodes_8001 = line "01031F4100009C"

abbrev nodes_1001 : List ℕ
nodes_1001 = line "010203E9000011"

-- The segment of the example; the paper's line with a lowercase digit and a space; and the segment with a lowercase digit alone, another check, ways 0, node
-- 2, and both ends at one leg.
abbrev pub street : List ℕ
street = line "0200000200010601F40003021900010000000000000000000000000000E1"

abbrev pub lowercase : List ℕ
lowercase = line "0200000200010601f400030219000100000000000000000000000000000000E1 "

abbrev lowered : List ℕ
lowered = line "0200000200010601f40003021900010000000000000000000000000000E1"

abbrev pub unchecked : List ℕ
unchecked = line "0200000200010601F40003021900010000000000000000000000000000E2"

abbrev pub no_ways : List ℕ
no_ways = line "0200000200010601F40000021900010000000000000000000000000000E4"

abbrev no_node : List ℕ
no_node = line "0200000200020601F40003021900010000000000000000000000000000E0"

abbrev pub one_leg : List ℕ
one_leg = line "0200000200000201F40003021900010000000000000000000000000000E6"

-- The segment with mark 10 (hexadecimal), with control 5 at its B end, with both; with mark 20, and with control 6.
abbrev central_lane : List ℕ
central_lane = line "0200000200010601F40003021900100000000000000000000000000000D2"

abbrev improved : List ℕ
improved = line "0200000200010601F40003021900010500000000000000000000000000DC"

abbrev both_new : List ℕ
both_new = line "0200000200010601F40003021900100500000000000000000000000000CD"

abbrev mark_20 : List ℕ
mark_20 = line "0200000200010601F40003021900200000000000000000000000000000C2"

abbrev control_6 : List ℕ
control_6 = line "0200000200010601F40003021900010600000000000000000000000000DB"

-- A segment of edition 03, of 264,000 feet and of 264,001.
abbrev rural : List ℕ
rural = line "020000020001060004074000030219000100000000000000000000000000008B"

abbrev too_long_a_street : List ℕ
too_long_a_street = line "020000020001060004074100030219000100000000000000000000000000008A"

-- The kept bytes of the example; those of the segment with both new values, under edition 02; and those of the segment of 264,000 feet, under edition 03.
abbrev pub network : List ℕ
network =
    0x01 ∷ 0x01 ∷ 0x00 ∷ 0x02 ∷ 0x00 ∷ 0x01 ∷ 0xFB ∷ 0x02 ∷ 0x00 ∷ 0x00 ∷ 0x02 ∷ 0x00 ∷ 0x01 ∷ 0x06 ∷ 0x01 ∷ 0xF4 ∷ 0x00 ∷ 0x03 ∷ 0x02 ∷
    0x19 ∷ 0x00 ∷ 0x01 ∷ 0x00 ∷ 0x00 ∷ 0x00 ∷ 0x00 ∷ 0x00 ∷ 0x00 ∷ 0x00 ∷ 0x00 ∷ 0x00 ∷ 0x00 ∷ 0x00 ∷ 0x00 ∷ 0x00 ∷ 0x00 ∷ 0xE1 ∷ []

abbrev newer_network : List ℕ
newer_network =
    0x01 ∷ 0x02 ∷ 0x00 ∷ 0x02 ∷ 0x00 ∷ 0x01 ∷ 0xFA ∷ 0x02 ∷ 0x00 ∷ 0x00 ∷ 0x02 ∷ 0x00 ∷ 0x01 ∷ 0x06 ∷ 0x01 ∷ 0xF4 ∷ 0x00 ∷ 0x03 ∷ 0x02 ∷
    0x19 ∷ 0x00 ∷ 0x10 ∷ 0x05 ∷ 0x00 ∷ 0x00 ∷ 0x00 ∷ 0x00 ∷ 0x00 ∷ 0x00 ∷ 0x00 ∷ 0x00 ∷ 0x00 ∷ 0x00 ∷ 0x00 ∷ 0x00 ∷ 0x00 ∷ 0xCD ∷ []

abbrev county_network : List ℕ
county_network =
    0x01 ∷ 0x03 ∷ 0x00 ∷ 0x02 ∷ 0x00 ∷ 0x01 ∷ 0xF9 ∷ 0x02 ∷ 0x00 ∷ 0x00 ∷ 0x02 ∷ 0x00 ∷ 0x01 ∷ 0x06 ∷ 0x00 ∷ 0x04 ∷ 0x07 ∷ 0x40 ∷ 0x00 ∷ 0x03 ∷ 0x02 ∷
    0x19 ∷ 0x00 ∷ 0x01 ∷ 0x00 ∷ 0x00 ∷ 0x00 ∷ 0x00 ∷ 0x00 ∷ 0x00 ∷ 0x00 ∷ 0x00 ∷ 0x00 ∷ 0x00 ∷ 0x00 ∷ 0x00 ∷ 0x00 ∷ 0x00 ∷ 0x8B ∷ []

pub record Samples : Type 0 where
  pub accepted : read_of (one ++ street) 37 ≡ kept network
  pub no_segments : read_of no 7 ≡ kept (0x01 ∷ 0x01 ∷ 0x00 ∷ 0x02 ∷ 0x00 ∷ 0x00 ∷ 0xFC ∷ [])
  pub passes : is_network network ≡ true
  pub too_long : is_network (network ++ (0x00 ∷ [])) ≡ false
  -- The values of edition 02: accepted there, 4 under edition 01; beyond them 4 there too.
  pub newer_accepted : read_of (newer ++ both_new) 37 ≡ kept newer_network
  pub newer_passes : is_network newer_network ≡ true
  pub mark_under_01 : read_of (one ++ central_lane) 37 ≡ refused 4 2
  pub control_under_01 : read_of (one ++ improved) 37 ≡ refused 4 2
  pub mark_beyond : read_of (newer ++ mark_20) 37 ≡ refused 4 2
  pub control_beyond : read_of (newer ++ control_6) 37 ≡ refused 4 2
  -- Edition 03: a length of four bytes, to 264,000 feet, in a frame of 32, which no other edition has; a county's limits.
  pub county_accepted : read_of (county ++ rural) 39 ≡ kept county_network
  pub county_passes : is_network county_network ≡ true
  pub county_too_short : read_of (county ++ rural) 38 ≡ refused 7 1
  pub feet_beyond : read_of (county ++ too_long_a_street) 39 ≡ refused 4 2
  pub narrow_in_03 : read_of (county ++ street) 39 ≡ refused 3 2
  pub wide_in_02 : read_of (newer ++ rural) 39 ≡ refused 3 2
  pub wide_in_01 : read_of (one ++ rural) 39 ≡ refused 3 2
  pub most_nodes_03 : read_of nodes_8000 7 ≡ kept (0x01 ∷ 0x03 ∷ 0x1F ∷ 0x40 ∷ 0x00 ∷ 0x00 ∷ 0x9D ∷ [])
  pub nodes_beyond_03 : read_of nodes_8001 7 ≡ refused 4 1
  pub nodes_beyond_02 : read_of nodes_1001 7 ≡ refused 4 1
  -- 1: a lowercase digit, at any length of its line; no 0A; an empty line.
  pub not_digits : read_of (one ++ lowercase) 37 ≡ refused 1 2
  pub not_uppercase : read_of (one ++ lowered) 37 ≡ refused 1 2
  pub not_ended : read_of (characters "010100020001FB") 37 ≡ refused 1 1
  pub not_filled : read_of (one ++ (street ++ line "")) 37 ≡ refused 1 3
  -- 2; 3: a segment for a head, a head for a segment, an empty text.
  pub wrong_check : read_of (one ++ unchecked) 37 ≡ refused 2 2
  pub wrong_head : read_of street 37 ≡ refused 3 1
  pub wrong_kind : read_of (one ++ one) 37 ≡ refused 3 2
  pub nothing : read_of [] 37 ≡ refused 3 1
  -- 4: an edition, ways, a node.
  pub wrong_edition : read_of (later ++ street) 37 ≡ refused 4 1
  pub wrong_ways : read_of (one ++ no_ways) 37 ≡ refused 4 2
  pub wrong_node : read_of (one ++ no_node) 37 ≡ refused 4 2
  -- 5: a segment beyond S, also where its fields break a rule; too few segments, at the line after the last.
  pub beyond : read_of (one ++ (street ++ no_ways)) 37 ≡ refused 5 3
  pub too_few : read_of (two ++ street) 67 ≡ refused 5 3
  -- 6: a leg taken by an earlier frame, and by the frame's other end.
  pub taken_before : read_of (two ++ (street ++ street)) 67 ≡ refused 6 3
  pub taken_twice : read_of (one ++ one_leg) 37 ≡ refused 6 2
  -- 7, before anything of line 2.
  pub no_room : read_of (one ++ lowercase) 36 ≡ refused 7 1

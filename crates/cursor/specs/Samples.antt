-- Document 02, note 1, on the texts of crates/text/specs/Samples.antt: number, start and length of the part for each of its cases. A head line has 14 digits,
-- a segment's 60. Its proof is proofs/SamplesHold.antt.
-- Assumes nothing.
use Rattle.std.specs.Prelude.{◌≡◌, [], ◌++◌}
use Rattle.text.specs.Samples.{characters, line, one, two, no, street, lowercase, unchecked, no_ways, one_leg}
use Rattle.cursor.specs.Cursor.{cursor_with, cursor_of}

pub record Samples : Type 0 where
  -- The first, a middle and the last line; a last line without its 0A; an empty line, at its place; a carriage return belongs to its line.
  pub in_first_line : cursor_of (street ++ one) 37 ≡ cursor_with 3 0 60
  pub middle_line : cursor_of (two ++ (unchecked ++ street)) 67 ≡ cursor_with 2 15 60
  pub last_line : cursor_of (two ++ (street ++ one_leg)) 67 ≡ cursor_with 6 76 60
  pub lowercase_digit : cursor_of (one ++ lowercase) 37 ≡ cursor_with 1 15 65
  pub wrong_ways : cursor_of (one ++ no_ways) 37 ≡ cursor_with 4 15 60
  pub not_ended : cursor_of (one ++ characters "0200") 37 ≡ cursor_with 1 15 4
  pub empty_line : cursor_of (two ++ (line "" ++ street)) 67 ≡ cursor_with 1 15 0
  pub carriage_return : cursor_of (characters "010100020001FB\r\n") 37 ≡ cursor_with 1 0 15
  -- A line beyond S; too few segments; an empty text; 0A alone.
  pub beyond : cursor_of (one ++ (street ++ street)) 37 ≡ cursor_with 5 76 60
  pub too_few : cursor_of (two ++ street) 67 ≡ cursor_with 5 76 0
  pub nothing : cursor_of [] 37 ≡ cursor_with 3 0 0
  pub end_alone : cursor_of (line "") 37 ≡ cursor_with 1 0 0
  -- A short output: the head line, before anything of line 2.
  pub short_output : cursor_of (one ++ lowercase) 36 ≡ cursor_with 7 0 14
  -- A text that Read would accept, also with S 0.
  pub accepted : cursor_of (one ++ street) 37 ≡ cursor_with 14 76 0
  pub no_segments : cursor_of no 7 ≡ cursor_with 14 15 0

-- Document 01, "The calls", and document 02: the number of each refusal. Every definition and promise takes its numbers from here.
-- Assumes nothing.
use Rattle.std.specs.Prelude.{ℕ, Bool, true, false}
use Rattle.refusals.specs.declared.Refusal.{Refusal}
use Rattle.refusals.specs.declared.Refusal.TheVariants.{NotDigits, WrongCheck, WrongFrame, WrongField, WrongCount, LegTaken, OutputTooShort}
use Rattle.refusals.specs.declared.Refusal.TheVariants.{NotANetwork, NoSuchNode, NoSuchTolerance, NoRoom, NoSuchRun, NoMovement, NoRefusedLine}
use Rattle.refusals.specs.declared.Refusal.TheVariants.{TooFewEntries, NoSuchMove, AboveLimits, TooShortForMove}

abbrev pub number_of : Refusal → ℕ
-- Read: not whole pairs of uppercase digits ended by 0A, or empty; check; wrong kind or frame length for its position; a field against the ranges or
-- rules; a segment beyond S, or too few; a leg taken already; output shorter than the network.
number_of NotDigits = 1
number_of WrongCheck = 2
number_of WrongFrame = 3
number_of WrongField = 4
number_of WrongCount = 5
number_of LegTaken = 6
number_of OutputTooShort = 7
-- The calls on a network: bytes that are no network that Read could keep; a node not below N; tolerance not 1 to 4; scratch or buffer too short; a
-- segment not below S, or a run not below 2S or not open; no movement.
number_of NotANetwork = 8
number_of NoSuchNode = 9
number_of NoSuchTolerance = 10
number_of NoRoom = 11
number_of NoSuchRun = 12
number_of NoMovement = 13
-- The refused line: a text that Read would accept.
number_of NoRefusedLine = 14
-- Reach map and Nearest: a lent list or mark list with fewer than N entries.
number_of TooFewEntries = 15
-- The moves: a network of an edition with no move that way; a count or length above the limits of the edition moved to; an output shorter than the moved
-- network.
number_of NoSuchMove = 16
number_of AboveLimits = 17
number_of TooShortForMove = 18

-- Tests in their order: the number of the refusal where the test fails, else what the later tests give. 0 is no refusal.
abbrev pub unless : Bool → Refusal → ℕ → ℕ
unless true refusal later = later
unless false refusal later = number_of refusal

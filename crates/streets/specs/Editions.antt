-- Document 02, Note 5, of the levels of a network: under edition 01 each is what it was, and under a later edition what has none of the note's conditions has
-- the level that it has by the older rules. Proved in proofs/EditionsHold.antt.
-- Assumes nothing.
use Rattle.std.specs.Prelude.{ℕ, ◌≤◌, ◌≡◌, false, List}
use Rattle.frames.specs.Frame.{ways}
use Rattle.frames.specs.Decoded.{form_of, crossing_of}
use Rattle.network.specs.Network.{edition_of, frame_of}
use Rattle.stress.specs.NewerRules.{has_condition, is_signal}
use Rattle.streets.specs.Exits.{right_hand_exit}
use Rattle.streets.specs.Runs.{frame_of_run, finish, leaving_leg, arrival_leg, arrival_approach}
use Rattle.streets.specs.Bicycle.{segment_grade, run_level, movement_level}
use Rattle.streets.specs.OlderBicycle.{older_segment_grade, older_run_level, older_movement_level}

-- Every level and measure, of every street and every movement.
pub record AsBefore (net : List ℕ) : Type 0 where
  pub street : (s : ℕ) → segment_grade net s ≡ older_segment_grade net s
  pub run : (r : ℕ) → run_level net r ≡ older_run_level net r
  pub movement : (p q : ℕ) → movement_level net p q ≡ older_movement_level net p q

-- A street that has none of the note's conditions; a movement whose crossing is no signal, and one onto the right-hand exit, whatever is crossed. And no street
-- is above what it was, no movement below it.
pub record NothingElse (net : List ℕ) : Type 0 where
  pub street : (s : ℕ) → has_condition (ways (edition_of net) (frame_of net s)) (form_of (edition_of net) (frame_of net s)) ≡ false
      → segment_grade net s ≡ older_segment_grade net s
  pub movement : (p q : ℕ) → is_signal (crossing_of (edition_of net) (frame_of_run net p) (arrival_approach net p)) ≡ false
      → movement_level net p q ≡ older_movement_level net p q
  pub onto_exit : (p q : ℕ) → leaving_leg net q ≡ right_hand_exit net (finish net p) (arrival_leg net p)
      → movement_level net p q ≡ older_movement_level net p q
  pub run_no_higher : (r : ℕ) → run_level net r ≤ older_run_level net r
  pub movement_no_lower : (p q : ℕ) → older_movement_level net p q ≤ movement_level net p q

pub record Editions : Type 0 where
  pub first : (net : List ℕ) → edition_of net ≡ 1 → AsBefore net
  pub later : (net : List ℕ) → 2 ≤ edition_of net → NothingElse net

-- The levels of a network are those of the rules of its edition: of edition 01 the older ones, of every later edition the newer ones, which are the older where
-- the note names nothing (crate stress).
-- Assumes nothing.
use Prim.Native.Nat.{ℕ, ◌≤◌}
use mathlib.Core.Path.{◌≡◌, refl, sym, ap, ◌∙◌}
use mathlib.Core.Bool.{Bool, true, false}
use mathlib.Core.List.{List}
use native.Mathlib.Omega.{arith}
use borrow.Author.Tests.{le-leb, eq-eqb}
use Rattle.std.proofs.lemmas.Bool.Decides.{nat_tests}
use Rattle.frames.specs.Edition.{is_newer}
use Rattle.frames.specs.Frame.{ways}
use Rattle.frames.specs.Decoded.{form_of, crossing_of}
use Rattle.frames.specs.declared.Crossing.{Crossing}
use Rattle.frames.specs.declared.Form.{Form}
use Rattle.stress.specs.declared.segment.Grade.{Grade}
use Rattle.network.specs.Network.{edition_of, frame_of}
use Rattle.stress.specs.Crossing.{older_crossing, crossing_level}
use Rattle.stress.specs.Segment.{older_grade}
use Rattle.stress.specs.NewerSegment.{grade_of}
use Rattle.stress.proofs.NewerRulesHold.{newer_rules}
use Rattle.streets.specs.Exits.{right_hand_exit}
use Rattle.streets.specs.Runs.{segment_of, frame_of_run, finish, leaving_leg, arrival_leg, arrival_approach}
use Rattle.streets.specs.Bicycle.{segment_grade, run_level, arrival_crossing_level, movement_level}
use Rattle.streets.specs.OlderBicycle.{older_segment_grade, older_run_level, older_crossing_level, older_movement_level}
use Rattle.streets.specs.Editions.{AsBefore, NothingElse, Editions}

module _ (net : List ℕ) where
  abbrev form_in : ℕ → Form
  form_in s = form_of (edition_of net) (frame_of net s)

  abbrev ways_in : ℕ → ℕ
  ways_in s = ways (edition_of net) (frame_of net s)

  abbrev crossed : ℕ → Crossing
  crossed p = crossing_of (edition_of net) (frame_of_run net p) (arrival_approach net p)

  -- levels by the rules that the edition has
  module _ {newer : Bool} (rules : is_newer (edition_of net) ≡ newer) where
    street_by : (s : ℕ) → segment_grade net s ≡ grade_of newer (ways_in s) (form_in s)
    unfolding segment_grade
    street_by s = ap (λ (n : Bool). grade_of n (ways_in s) (form_in s)) rules

    crossing_by : (p : ℕ) → arrival_crossing_level net p ≡ crossing_level newer (crossed p)
    unfolding arrival_crossing_level
    crossing_by p = ap (λ (n : Bool). crossing_level n (crossed p)) rules

  older_street : (s : ℕ) → older_segment_grade net s ≡ older_grade (form_in s)
  unfolding older_segment_grade
  older_street s = refl

  older_crossed : (p : ℕ) → older_crossing_level net p ≡ older_crossing (crossed p)
  unfolding older_crossing_level
  older_crossed p = refl

  -- what follows of runs and of movements
  run_same : (r : ℕ) → segment_grade net (segment_of r) ≡ older_segment_grade net (segment_of r) → run_level net r ≡ older_run_level net r
  unfolding run_level older_run_level
  run_same r e = ap (λ (g : Grade). g.level) e

  movement_same : (p q : ℕ) → arrival_crossing_level net p ≡ older_crossing_level net p → movement_level net p q ≡ older_movement_level net p q
  unfolding movement_level older_movement_level
  movement_same p q e = rw e

  onto_exit : (p q : ℕ) → leaving_leg net q ≡ right_hand_exit net (finish net p) (arrival_leg net p)
      → movement_level net p q ≡ older_movement_level net p q
  unfolding movement_level older_movement_level
  onto_exit p q e = rw (eq-eqb _ _ e)

  movement_no_lower : (p q : ℕ) → older_crossing_level net p ≤ arrival_crossing_level net p → older_movement_level net p q ≤ movement_level net p q
  unfolding movement_level older_movement_level
  movement_no_lower p q l = grind (arith, nat_tests)

  rules_of_first : edition_of net ≡ 1 → is_newer (edition_of net) ≡ false
  unfolding is_newer
  rules_of_first first = rw first

  rules_of_later : 2 ≤ edition_of net → is_newer (edition_of net) ≡ true
  unfolding is_newer
  rules_of_later later = le-leb 2 (edition_of net) later

  run_no_higher : is_newer (edition_of net) ≡ true → (r : ℕ) → run_level net r ≤ older_run_level net r
  unfolding run_level older_run_level
  run_no_higher newer r =
      let s = segment_of r in
      let n = newer_rules.street_no_higher (ways_in s) (form_in s) in
      omega (arith, ap (λ (g : Grade). g.level) (street_by newer s), ap (λ (g : Grade). g.level) (older_street s))

  as_before : edition_of net ≡ 1 → AsBefore net
  as_before first =
      let older = rules_of_first first in
      let street = λ (s : ℕ). street_by older s ∙ newer_rules.street_before (ways_in s) (form_in s) ∙ sym (older_street s) in
      record {
        street = street;
        run = λ r. run_same r (street (segment_of r));
        movement = λ p q. movement_same p q (crossing_by older p ∙ newer_rules.crossing_before (crossed p) ∙ sym (older_crossed p));
      }

  nothing_else : 2 ≤ edition_of net → NothingElse net
  nothing_else later =
      let newer = rules_of_later later in
      record {
        street = λ s none. street_by newer s ∙ newer_rules.street_same (ways_in s) (form_in s) none ∙ sym (older_street s);
        movement = λ p q none. movement_same p q (crossing_by newer p ∙ newer_rules.crossing_same (crossed p) none ∙ sym (older_crossed p));
        onto_exit = onto_exit;
        run_no_higher = run_no_higher newer;
        movement_no_lower =
            λ p q. movement_no_lower p q (omega (arith, newer_rules.crossing_no_lower (crossed p), crossing_by newer p, older_crossed p));
      }

pub editions : Editions
editions = record { first = as_before; later = nothing_else }

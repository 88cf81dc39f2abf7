-- Note 6 holds. What an edition has is computed from its definitions. A shortest route has at most as many runs as the network, and each is at most as long as
-- the edition allows; whatever a call tells is the length of a shortest route.
-- Assumes nothing.
use Prim.Native.Nat.{ℕ, ◌+◌, ◌*◌, ◌≤◌, ◌<◌}
use mathlib.Core.Path.{◌≡◌, refl, sym, ◌∙◌}
use mathlib.Core.Bool.{Bool, true, false}
use mathlib.Core.List.{List, [], ◌∷◌}
use native.Mathlib.Nat.{mul-le-mul}
use native.Mathlib.Omega.{arith}
use lib.Dec.{leb}
use lib.ListN.{length}
use Rattle.std.proofs.lemmas.Bool.Decides.{nat_tests}
use Rattle.routes.specs.Reach.{LeastLength}
use Rattle.routes.proofs.FewRuns.{shortest_length}
use Rattle.routes.specs.declared.Found.{Found}
use Rattle.refusals.specs.declared.Refusal.TheVariants.{WrongFrame, OutputTooShort}
use Rattle.refusals.specs.Numbers.{number_of}
use Rattle.frames.specs.Edition.{edition_ok, is_newer, is_wide, extra, length_bytes, frame_bytes, most_nodes, most_segments, most_feet}
use Rattle.frames.specs.Frame.{check_ok, edition, segments}
use Rattle.frames.specs.Faults.{head_fault}
use Rattle.frames.proofs.EditionLaws.{feet_few}
use Rattle.frames.proofs.FrameLaws.{size_fault}
use Rattle.network.specs.Faults.{segment_fault}
use Rattle.network.specs.Network.{edition_of, segments_of, is_network}
use Rattle.network.proofs.NetworkLaws.{passed}
use Rattle.digits.specs.Digits.{line_of, bytes_of}
use Rattle.text.specs.Read.{refused, read_of}
use Rattle.stress.specs.Crossing.{crossing_level}
use Rattle.stress.specs.NewerSegment.{grade_of}
use Rattle.streets.specs.Runs.{runs_of}
use Rattle.streets.specs.Bicycle.{segment_grade, arrival_crossing_level, bicycle}
use Rattle.streets.proofs.LeavingLaws.{run_feet}
use Rattle.splicereel.specs.DemandThree.{Stands}
use Rattle.splicereel.specs.NoteSix.{Sized, Newer, greatest_length, Lengths, NoteSix}
use Rattle.splicereel.proofs.DemandThreeHolds.{demand_three}
use Rattle.splicereel.proofs.NoteThreeHolds.{note_three}

-- ---- what the editions have
first : Sized 1 1000 1000 52800 2 30
unfolding edition_ok is_wide most_nodes most_segments most_feet extra length_bytes frame_bytes
first = record { exists = refl; most_nodes = refl; most_segments = refl; most_feet = refl; length_bytes = refl; frame_bytes = refl }

second : Sized 2 1000 1000 52800 2 30
unfolding edition_ok is_wide most_nodes most_segments most_feet extra length_bytes frame_bytes
second = record { exists = refl; most_nodes = refl; most_segments = refl; most_feet = refl; length_bytes = refl; frame_bytes = refl }

third : Sized 3 8000 8000 264000 4 32
unfolding edition_ok is_wide most_nodes most_segments most_feet extra length_bytes frame_bytes
third = record { exists = refl; most_nodes = refl; most_segments = refl; most_feet = refl; length_bytes = refl; frame_bytes = refl }

other_frame : (e n : ℕ) (more : Bool) (taken f : List ℕ) → (length f ≡ 0 → ⊥) → check_ok f ≡ true → (length f ≡ frame_bytes e → ⊥)
    → segment_fault e n more taken f ≡ number_of WrongFrame
unfolding segment_fault check_ok
other_frame e n more taken f some check size = size_fault 2 (frame_bytes e) _ f some (grind (arith, nat_tests)) size

kept : (net : List ℕ) → is_network net ≡ true → edition_of net ≡ 3 → length net ≡ 7 + 32 * segments_of net
kept net is e = (passed net is).long ∙ rw (e, third.frame_bytes) refl

limit : (text h : List ℕ) (room : ℕ) → h ≡ bytes_of (line_of text) → (length text ≡ 0 → ⊥) → head_fault h ≡ 0 → edition h ≡ 3
    → room < 7 + 32 * segments h → read_of text room ≡ refused (number_of OutputTooShort) 1
unfolding read_of
limit [] h room line some good e less = absurd (some refl)
limit (x ∷ text) h room line some good e less =
    let size : 7 + frame_bytes (edition h) * segments h ≡ 7 + 32 * segments h = rw (e, third.frame_bytes) refl in
    let none : leb (7 + frame_bytes (edition h) * segments h) room ≡ false = grind (arith, nat_tests, size) in
    rw (sym line, good, none) refl

-- ---- by the newer rules
rules : (net : List ℕ) → edition_of net ≡ 3 → Newer net
unfolding is_newer segment_grade grade_of arrival_crossing_level crossing_level
rules net e = record { street = λ s. rw e refl; crossing = λ r. rw e refl }

-- ---- lengths
module _ (net : List ℕ) (is : is_network net ≡ true) where
  long : (r : ℕ) → r < runs_of net → 1 ≤ (bicycle net).feet r
  long r l = (run_feet (record { network = is; inside = l })).0

  short : (r : ℕ) → r < runs_of net → (bicycle net).feet r ≤ most_feet (edition_of net)
  short r l = (run_feet (record { network = is; inside = l })).1

  least : {t a b feet : ℕ} → LeastLength (bicycle net) t a b feet → (feet ≤ most_feet (edition_of net) * runs_of net) × (feet ≤ greatest_length)
  least L =
      let few : runs_of net ≤ 16000 = omega (arith, (passed net is).limits.few_segments) in
      let n = shortest_length long (most_feet (edition_of net)) short L.runs L.shortest in
      let m : most_feet (edition_of net) * runs_of net ≤ 264000 * 16000 = mul-le-mul (feet_few (edition_of net)) few in
      (omega (arith, n, L.measured), omega (arith, n, m, L.measured))

  standing : {t a b place : ℕ} {before after : List ℕ} {route : Found} → Stands (bicycle net) t a b place before after route
      → route.length ≤ greatest_length
  standing S = (least (record { runs = S.runs; shortest = S.shortest; measured = sym S.own_length })).1

lengths : Lengths
lengths =
    record {
      fits = omega arith;
      least = λ net is L. least net is L;
      route = λ {net} call route e. standing net call.in_order.accepted ((demand_three.route call).stands route e);
      least_stress = λ {net} call x e. standing net call.in_order.accepted ((demand_three.least call).stands x e);
      map = λ {net} call b feet k. (least net call.in_order.accepted ((note_three.map call).map.only b feet k).0).1;
      nearest = λ {net} call entry e. (least net call.in_order.accepted (((note_three.nearest call).found_exactly entry).0 e).measured).1;
    }

pub note_six : NoteSix
note_six =
    record {
      third = third;
      first = first;
      second = second;
      other_frame = other_frame;
      kept = kept;
      limit = limit;
      rules = rules;
      lengths = lengths;
      assurance = demand_three;
      reach = note_three;
    }

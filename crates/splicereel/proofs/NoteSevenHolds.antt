-- Note 7 holds. A moved network says the same of each segment (crate moves), so the two street graphs are the same, and so are their routes; by demand 3
-- the calls tell the same of both. What a move wrote is within the limits of the edition it came from, so moving it back is never refused, and gives the
-- first bytes.
-- Assumes nothing.
use Prim.Native.Nat.{ℕ, zero, suc, ◌+◌, ◌-◌, ◌%◌, ◌≤◌, ◌<◌}
use mathlib.Core.Path.{◌≡◌, refl, sym, ap, ◌∙◌, subst}
use mathlib.Core.Bool.{Bool, true, false, not, ◌&&◌, cond, and-false}
use mathlib.Core.List.{List, [], ◌∷◌, ◌++◌}
use mathlib.Core.Logic.{◌↔◌}
use native.Mathlib.Omega.{arith}
use lib.Dec.{ltb}
use lib.ListN.{length, take, drop}
use lib.Seq.{take_at, get_or-take}
use borrow.Author.Tests.{eq-eqb, le-leb, ltb-true}
use Rattle.std.specs.Prelude.{Result, Ok, Err}
use Rattle.lists.specs.Lists.{Bytes}
use Rattle.refusals.specs.declared.Refusal.{Refusal}
use Rattle.refusals.specs.declared.Refusal.TheVariants.{NoSuchMove}
use Rattle.refusals.specs.Numbers.{number_of}
use Rattle.routes.specs.Routes.{length_of, Shortest}
use Rattle.routes.specs.SameStreets.{SameStreets, SameRoutes}
use Rattle.routes.proofs.SameRoutes.{same_routes}
use Rattle.routes.proofs.Tolerance.{shortest_same_length, least_unique}
use Rattle.frames.specs.Edition.{edition_ok, is_newer, is_wide, extra, most_nodes, most_segments, most_feet}
use Rattle.frames.specs.Frame.{byte, feet}
use Rattle.network.specs.Network.{edition_of, segments_of, frame_of, is_network}
use Rattle.network.proofs.NetworkLaws.{frame_follows, nodes_most, segments_most}
use Rattle.streets.specs.Runs.{runs_of, is_open, joins}
use Rattle.streets.specs.Bicycle.{segment_grade, movement_level, bicycle}
use Rattle.streets.proofs.LeavingLaws.{street_feet}
use Rattle.stress.specs.declared.segment.Grade.{Grade}
use Rattle.moves.specs.Moved.{head_in, moved}
use Rattle.moves.specs.Moving.{within_limits, move_refusal, refused as move_refused, written, told_move, told_by, output_by, MoveDid}
use Rattle.moves.proofs.MovedBytes.{frame_long}
use Rattle.moves.proofs.MovedFrame.{front_byte, later_byte, feet_same}
use Rattle.moves.proofs.MovedNetwork.{Between, Limits, limits, within, narrow_frame, edition_moved, nodes_moved, segments_moved, frame_of_moved, moved_network, moved_back}
use Rattle.moves.proofs.MovedStreets.{same_segments, same_streets, grade_same, open_same, joins_same, movement_same}
use Rattle.moves.proofs.MovingLaws.{moved_long, Did, did, written_only, same_count}
use Rattle.splicereel.specs.Judge.{judge_segment, judge_movement, graded, levelled, refused as not_judged}
use Rattle.splicereel.specs.Promises.{told_route, told_least}
use Rattle.splicereel.specs.DemandThree.{SomeRoute, RouteCall, LeastCall}
use Rattle.splicereel.specs.NoteSeven.{Changes, SameWay, SameLeast, SameTown, MoveCall, Writes, GivesBack, Older, NoteSeven}
use Rattle.splicereel.proofs.DemandThreeHolds.{demand_three}

-- ---- the two moves
up : Between 2 3
unfolding is_newer is_wide edition_ok
up = record { rules = refl; exists = refl; narrow = refl }

back : Between 3 2
unfolding is_newer is_wide edition_ok
back = record { rules = refl; exists = refl; narrow = refl }

module _ (net : List ℕ) (is : is_network net ≡ true) where
  -- a network is within its own edition's limits
  own_limits : Limits (edition_of net) net
  own_limits =
      record {
        nodes = nodes_most net is;
        segments = segments_most net is;
        lengths = λ s l. (street_feet (edition_of net) (frame_of net s) (frame_follows net is s l).street).1;
      }

  up_within : edition_of net ≡ 2 → within_limits 3 net ≡ true
  unfolding most_nodes most_segments most_feet is_wide
  up_within e =
      let L : Limits 2 net = subst (λ (d : ℕ). Limits d net) e own_limits in
      within 3 net
      (record { nodes = omega (arith, L.nodes); segments = omega (arith, L.segments); lengths = λ s l. omega (arith, L.lengths s l) })

  older_limits : edition_of net ≡ 3 → (within_limits 2 net ≡ true) ↔ Older net
  unfolding most_nodes most_segments most_feet is_wide
  older_limits e = (
    λ h.
        let L = limits 2 net h in
        record {
          nodes = omega (arith, L.nodes);
          segments = omega (arith, L.segments);
          lengths = λ s l. subst (λ (d : ℕ). feet d (frame_of net s) ≤ 52800) e (L.lengths s l);
        },
    λ O.
        within 2 net
        (record {
          nodes = omega (arith, O.nodes);
          segments = omega (arith, O.segments);
          lengths = λ s l. subst (λ (d : ℕ). feet d (frame_of net s) ≤ 52800) (sym e) (O.lengths s l);
        }),
  )

  first_stays : edition_of net ≡ 1 → (room : ℕ)
      → (move_refusal 2 3 net room ≡ number_of NoSuchMove) × (move_refusal 3 2 net room ≡ number_of NoSuchMove)
  unfolding move_refusal
  first_stays e room = (rw (is, e) refl, rw (is, e) refl)

  -- the check of the head, by what the edition has changed by
  new_check : (d : ℕ) → byte (moved d net) 6 ≡ (byte net 6 + edition_of net + (256 - d)) % 256
  unfolding moved head_in
  new_check d = ap (λ (c : ℕ). (c + edition_of net + (256 - d)) % 256) (get_or-take 7 net 6 0 (omega arith))

  up_check : edition_of net ≡ 2 → byte (moved 3 net) 6 ≡ (byte net 6 + 255) % 256
  up_check e = omega (arith, new_check 3, e)

  back_check : edition_of net ≡ 3 → byte (moved 2 net) 6 ≡ (byte net 6 + 1) % 256
  back_check e = omega (arith, new_check 2, e)

through : {P Q R S : Type 0} → (P ↔ Q) → (Q → S) → (S → Q) → (R ↔ S) → P ↔ R
through p there here r = (λ x. r.1 (there (p.0 x)), λ y. p.1 (here (r.0 y)))

-- ---- a network, and the same in another edition
module _ (net : List ℕ) (is : is_network net ≡ true) {d : ℕ} (B : Between (edition_of net) d) (fits : within_limits d net ≡ true) where
  changes : Changes d net
  changes =
      record {
        head = record { edition = edition_moved net is d; nodes = nodes_moved net is d; segments = segments_moved net is d };
        segment = λ s l.
            let e = edition_of net in
            let f = frame_of net s in
            let size = (frame_follows net is s l).size in
            let there = frame_of_moved net is d s l in
            record {
              size = ap length there ∙ frame_long e d f size;
              before = λ i k. ap (λ (g : List ℕ). byte g i) there ∙ front_byte e d f size i k;
              feet = ap (feet d) there ∙ feet_same e f size (narrow_frame B f ((limits d net fits).lengths s l)) d;
              behind = λ i k.
                  ap (λ (g : List ℕ). byte g (extra d + i)) there ∙ later_byte e d f size i (extra d + i) (extra e + i) (omega arith) refl refl;
            };
        long = moved_long net is d;
      }

  streets : SameStreets (bicycle (moved d net)) (bicycle net)
  streets = same_streets (same_segments net is B fits)

  routes : SameRoutes (bicycle (moved d net)) (bicycle net)
  routes = same_routes streets

  segment : (s : ℕ) → judge_segment (moved d net) s ≡ judge_segment net s
  unfolding judge_segment
  segment s = rw (moved_network net is d B fits, is, segments_moved net is d) (go (ltb s (segments_of net)) refl)
    where
      go : (b : Bool) → ltb s (segments_of net) ≡ b
          → cond (not b) (not_judged 12) (graded (segment_grade (moved d net) s).level (segment_grade (moved d net) s).measure)
          ≡ cond (not b) (not_judged 12) (graded (segment_grade net s).level (segment_grade net s).measure)
      go false p = refl
      go true p = ap (λ (g : Grade). graded g.level g.measure) (grade_same (same_segments net is B fits) s (ltb-true _ _ p))

  movement : (p q : ℕ) → judge_movement (moved d net) p q ≡ judge_movement net p q
  unfolding judge_movement
  movement p q =
      rw (moved_network net is d B fits, is, segments_moved net is d) (go (ltb p (runs_of net)) refl (ltb q (runs_of net)) refl)
    where
      go : (a : Bool) → ltb p (runs_of net) ≡ a → (b : Bool) → ltb q (runs_of net) ≡ b
          → cond (not (a && is_open (moved d net) p && (b && is_open (moved d net) q))) (not_judged 12)
          (cond (not (joins (moved d net) p q)) (not_judged 13) (levelled (movement_level (moved d net) p q)))
          ≡ cond (not (a && is_open net p && (b && is_open net q))) (not_judged 12) (cond (not (joins net p q)) (not_judged 13) (levelled (movement_level net p q)))
      go false h b k = refl
      go true h false k = rw (and-false (is_open (moved d net) p), and-false (is_open net p)) refl
      go true h true k =
          let S = same_segments net is B fits in
          let p-in = ltb-true p (runs_of net) h in
          let q-in = ltb-true q (runs_of net) k in
          rw (open_same S p p-in, open_same S q q-in, joins_same S p q p-in q-in, movement_same S p q p-in q-in) refl

  -- what there is on one side there is on the other, and a shortest route of each is as long
  some_there : (t a b : ℕ) → SomeRoute (bicycle net) t a b → SomeRoute (bicycle (moved d net)) t a b
  some_there t a b some = (some.0, (routes.within t a b some.0).1 some.1)

  some_here : (t a b : ℕ) → SomeRoute (bicycle (moved d net)) t a b → SomeRoute (bicycle net) t a b
  some_here t a b some = (some.0, (routes.within t a b some.0).0 some.1)

  as_long : (t a b : ℕ) {rs qs : List ℕ} {m n : ℕ} → Shortest (bicycle net) t a b rs → Shortest (bicycle (moved d net)) t a b qs
      → m ≡ length_of (bicycle net) rs → n ≡ length_of (bicycle (moved d net)) qs → m ≡ n
  as_long t a b {rs} {qs} s k m n =
      let there = (routes.shortest t a b qs).0 k in
      omega (arith, m, n, shortest_same_length s there, routes.lengths a b qs there.within.route)

  route_calls : {from to t : ℕ} (call : RouteCall net from to t) (other : RouteCall (moved d net) from to t)
      → SameWay (told_route call.answer) (told_route other.answer)
  route_calls {from} {to} {t} call other =
      let A = demand_three.route call in
      let C = demand_three.route other in
      record {
        finds = through A.found_exactly (some_there t from to) (some_here t from to) C.found_exactly;
        none = through A.none_exactly (routes.none t from to).1 (routes.none t from to).0 C.none_exactly;
        as_long = λ x y e k.
            as_long t from to (A.stands x e).shortest (C.stands y k).shortest (A.stands x e).own_length (C.stands y k).own_length;
      }

  least_calls : {from to : ℕ} (call : LeastCall net from to) (other : LeastCall (moved d net) from to)
      → SameLeast (told_least call.answer) (told_least other.answer)
  least_calls {from} {to} call other =
      let A = demand_three.least call in
      let C = demand_three.least other in
      record {
        finds = through A.found_exactly (some_there 4 from to) (some_here 4 from to) C.found_exactly;
        none = through A.none_exactly (routes.none 4 from to).1 (routes.none 4 from to).0 C.none_exactly;
        same = λ x y e k.
            let tolerance : x.tolerance ≡ y.tolerance = least_unique (A.smallest x e) ((routes.least y.tolerance from to).0 (C.smallest y k)) in
            let here = subst (λ (t : ℕ). Shortest (bicycle net) t from to (A.stands x e).runs) tolerance (A.stands x e).shortest in
            (tolerance, as_long y.tolerance from to here (C.stands y k).shortest (A.stands x e).own_length (C.stands y k).own_length);
      }

  same_town : SameTown net (moved d net)
  same_town =
      record {
        accepted = moved_network net is d B fits;
        segment = segment;
        movement = movement;
        streets = streets;
        routes = routes;
        route_calls = route_calls;
        least_calls = least_calls;
      }

  -- what was moved is within the limits of the edition it came from
  back_within : within_limits (edition_of net) (moved d net) ≡ true
  back_within =
      let S = same_segments net is B fits in
      let own = own_limits net is in
      within (edition_of net) (moved d net)
      (record {
        nodes = omega (arith, own.nodes, nodes_moved net is d);
        segments = omega (arith, own.segments, segments_moved net is d);
        lengths = λ s l.
            let k : s < segments_of net = omega (arith, l, segments_moved net is d) in omega (arith, (S.each s k).feet, own.lengths s k);
      })

-- ---- bytes
byte_small : (l : List ℕ) → Bytes l → (i : ℕ) → byte l i < 256
byte_small [] b i = omega arith
byte_small (x ∷ l) b zero = b.0
byte_small (x ∷ l) b (suc i) = byte_small l b.1 i

up_and_back : (net : List ℕ) → Bytes net → is_network net ≡ true → edition_of net ≡ 2 → moved 2 (moved 3 net) ≡ net
up_and_back net b is e =
    let B : Between (edition_of net) 3 = subst (λ (n : ℕ). Between n 3) (sym e) up in
    ap (λ (n : ℕ). moved n (moved 3 net)) (sym e) ∙ moved_back net is 3 B (up_within net is e) (byte_small net b 6)

back_and_up : (net : List ℕ) → Bytes net → is_network net ≡ true → edition_of net ≡ 3 → within_limits 2 net ≡ true → moved 3 (moved 2 net) ≡ net
back_and_up net b is e fits =
    let B : Between (edition_of net) 2 = subst (λ (n : ℕ). Between n 2) (sym e) back in
    ap (λ (n : ℕ). moved n (moved 2 net)) (sym e) ∙ moved_back net is 2 B fits (byte_small net b 6)

-- ---- the calls
module _ {from to : ℕ} {net : List ℕ} (call : MoveCall from to net) where
  done : (count : ℕ) → call.answer ≡ Ok count → Did from to net call.before call.after count
  done count e = did (subst (λ (r : Result ℕ Refusal). MoveDid from to net call.before call.after r) e call.returned)

  writes : (count : ℕ) → call.answer ≡ Ok count → Writes call count
  writes count e = let D = done count e in record { counted = D.counted; output = D.output }

  untouched : (number : ℕ) → told_move call.answer ≡ move_refused number → call.after ≡ call.before
  untouched number e = go (move_refusal from to net (length call.before)) (sym e ∙ call.returned.answer) call.returned.output
    where
      go : (n : ℕ) → move_refused number ≡ told_by n (length (moved to net)) → call.after ≡ output_by n (moved to net) call.before → call.after ≡ call.before
      go zero z o = absurd (written_only (sym z))
      go (suc n) z o = o

told_count : (count : ℕ) (r : Result ℕ Refusal) → told_move r ≡ written count → r ≡ Ok count
told_count count (Ok n) e = ap (λ (k : ℕ). Ok k) (same_count e)
told_count count (Err why) e = absurd (written_only (sym e))

-- bytes that were moved, moved back into an output with room
module _ (from to : ℕ) (net copy : List ℕ) (accepted : is_network copy ≡ true) (there : edition_of copy ≡ to) (fits : within_limits from copy ≡ true)
    (again : moved from copy ≡ net) where
  no_refusal : (room : ℕ) → length net ≤ room → move_refusal to from copy room ≡ 0
  unfolding move_refusal
  no_refusal room h = rw (accepted, eq-eqb _ _ there, fits, again, le-leb (length net) room h) refl

  gives : (call : MoveCall to from copy) → length net ≤ length call.before
      → (call.answer ≡ Ok (length net)) × (call.after ≡ net ++ drop (length net) call.before)
  gives call room =
      let none = no_refusal (length call.before) room in (
        told_count (length net) call.answer (call.returned.answer ∙ rw (none, again) refl),
        call.returned.output ∙ rw (none, again) refl,
      )

gives_back : {from to : ℕ} {net : List ℕ} → Between from to → (edition_of net ≡ from → within_limits to net ≡ true → moved from (moved to net) ≡ net)
    → (call : MoveCall from to net) (count : ℕ) → call.answer ≡ Ok count → GivesBack call count
gives_back {from} {to} {net} between again call count e =
    let D = done call count e in
    let B : Between (edition_of net) to = subst (λ (n : ℕ). Between n to) (sym D.edition) between in
    let front : take count call.after ≡ moved to net = ap (take count) D.output ∙ take_at (moved to net) _ count (sym D.counted) in
    let within_own : within_limits from (moved to net) ≡ true =
    subst (λ (n : ℕ). within_limits n (moved to net) ≡ true) D.edition (back_within net D.accepted B D.limits) in
    record {
      returned =
          subst
          (λ (copy : List ℕ). (back : MoveCall to from copy) → length net ≤ length back.before
          → (back.answer ≡ Ok (length net)) × (back.after ≡ net ++ drop (length net) back.before))
          (sym front)
          (gives from to net (moved to net) (moved_network net D.accepted to B D.limits) (edition_moved net D.accepted to) within_own (again D.edition D.limits));
    }

pub note_seven : NoteSeven
note_seven =
    record {
      up_changes = λ net is e. changes net is (subst (λ (n : ℕ). Between n 3) (sym e) up) (up_within net is e);
      up_check = up_check;
      up_same = λ net is e. same_town net is (subst (λ (n : ℕ). Between n 3) (sym e) up) (up_within net is e);
      back_changes = λ net is e O. changes net is (subst (λ (n : ℕ). Between n 2) (sym e) back) ((older_limits net is e).1 O);
      back_check = back_check;
      back_same = λ net is e O. same_town net is (subst (λ (n : ℕ). Between n 2) (sym e) back) ((older_limits net is e).1 O);
      up_and_back = up_and_back;
      back_and_up = λ net b is e O. back_and_up net b is e ((older_limits net is e).1 O);
      writes = writes;
      untouched = untouched;
      gives_back_up = λ {net} b call count e.
          gives_back up (λ edition fits. up_and_back net b (done call count e).accepted edition) call count e;
      gives_back_down = λ {net} b call count e.
          gives_back back (λ edition fits. back_and_up net b (done call count e).accepted edition fits) call count e;
      first_stays = first_stays;
      older_limits = older_limits;
      up_within = up_within;
    }

-- A network as another edition with the same rules has it, where that allows its counts and lengths, and one of the two has narrow lengths: it is a
-- network, each of its frames is the moved one, and moved back it is the network that it was.
-- Assumes nothing.
use Prim.Native.Nat.{ℕ, zero, suc, ◌*◌, ◌≤◌, ◌<◌}
use mathlib.Core.Bool.{Bool, true, false, ◌&&◌, true≢false}
use mathlib.Core.Path.{◌≡◌, refl, sym, ap, ap₂, ◌∙◌, subst}
use mathlib.Core.List.{List, [], ◌∷◌, ◌++◌}
use native.Mathlib.Omega.{arith}
use native.Mathlib.Nat.{mul-zero, le_of_suc-le-suc}
use lib.Dec.{leb}
use lib.ListN.{length, take, drop, length-drop, take-append-drop}
use lib.Seq.{take_at, drop_at, get_or-take}
use borrow.Author.Tests.{eq-eqb, le-leb, leb-true}
use Rattle.lists.proofs.Facts.{and_true, true_and}
use Rattle.lists.proofs.Lists.{no_elements, times_suc}
use Rattle.frames.specs.Edition.{edition_ok, is_newer, is_wide, extra, frame_bytes, most_nodes, most_segments, most_feet}
use Rattle.frames.specs.Frame.{byte, feet, edition, nodes, segments}
use Rattle.frames.proofs.FaultLaws.{head_no_fault}
use Rattle.network.specs.Legs.{taking}
use Rattle.network.specs.Network.{head_of, edition_of, nodes_of, segments_of, frame_of, frames_ok, is_network}
use Rattle.network.proofs.FaultLaws.{segment_no_fault}
use Rattle.network.proofs.NetworkLaws.{passed, frames_passed, frame_at, first_frame, next_frame, frame_of_lem, network_length}
use Rattle.moves.specs.Moved.{head_in, frame_in, frames_in, moved}
use Rattle.moves.specs.Moving.{lengths_ok, within_limits}
use Rattle.moves.proofs.HeadLaws.{head_long, says_edition, says_nodes, says_segments, head_follows_too, head_back, edition_small}
use Rattle.moves.proofs.MovingLaws.{moved_long}
use Rattle.moves.proofs.MovedBytes.{cut_long, rest_long, first_moved, others_moved, frame_moved}
use Rattle.moves.proofs.MovedFrame.{Narrow, narrow_none, narrow_small, there_and_back}
use Rattle.moves.proofs.MovedFields.{corner_a_same, corner_b_same, free_same, follows_too}

-- Two editions with the same rules, of which one has narrow lengths.
pub record Between (e d : ℕ) : Type 0 where
  pub rules : is_newer e ≡ is_newer d
  pub exists : edition_ok d ≡ true
  pub narrow : (is_wide e && is_wide d) ≡ false

narrow_feet : (d : ℕ) → is_wide d ≡ false → most_feet d < 65536
unfolding most_feet
narrow_feet d w = rw w (omega arith)

no_extra : (e : ℕ) → is_wide e ≡ false → extra e ≡ 0
unfolding extra
no_extra e w = rw w refl

pub narrow_frame : {e d : ℕ} → Between e d → (f : List ℕ) → feet e f ≤ most_feet d → Narrow e f
narrow_frame {e} {d} B f allowed = go (is_wide e) refl (is_wide d) refl B.narrow
  where
    go : (a : Bool) → is_wide e ≡ a → (b : Bool) → is_wide d ≡ b → (a && b) ≡ false → Narrow e f
    go false p b q z = narrow_none e f (no_extra e p)
    go true p false q z = narrow_small e f (omega (arith, allowed, narrow_feet d q))
    go true p true q z = absurd (true≢false z)

-- ---- the frames
record LengthsPassed (e d left : ℕ) (bytes : List ℕ) : Type 0 where
  first : feet e (take (frame_bytes e) bytes) ≤ most_feet d
  others : lengths_ok e d left (drop (frame_bytes e) bytes) ≡ true

lengths_passed : (e d left : ℕ) (bytes : List ℕ) → lengths_ok e d (suc left) bytes ≡ true → LengthsPassed e d left bytes
unfolding lengths_ok
lengths_passed e d left bytes h =
    let p = and_true (leb (feet e (take (frame_bytes e) bytes)) (most_feet d)) (lengths_ok e d left (drop (frame_bytes e) bytes)) h in
    record { first = leb-true _ _ p.0; others = p.1 }

-- each length is within the limit
each_allowed : (e d left : ℕ) (bytes : List ℕ) → lengths_ok e d left bytes ≡ true → (s : ℕ) → s < left → feet e (frame_at e bytes s) ≤ most_feet d
each_allowed e d zero bytes h s l = absurd (omega arith)
each_allowed e d (suc left) bytes h zero l =
    subst (λ (f : List ℕ). feet e f ≤ most_feet d) (first_frame e bytes) (lengths_passed e d left bytes h).first
each_allowed e d (suc left) bytes h (suc s) l =
    subst (λ (f : List ℕ). feet e f ≤ most_feet d) (next_frame e bytes s)
    (each_allowed e d left (drop (frame_bytes e) bytes) (lengths_passed e d left bytes h).others s (le_of_suc-le-suc l))

all_allowed : (e d left : ℕ) (bytes : List ℕ) → ((s : ℕ) → s < left → feet e (frame_at e bytes s) ≤ most_feet d) → lengths_ok e d left bytes ≡ true
unfolding lengths_ok
all_allowed e d zero bytes each = refl
all_allowed e d (suc left) bytes each =
    let first : feet e (take (frame_bytes e) bytes) ≤ most_feet d =
    subst (λ (f : List ℕ). feet e f ≤ most_feet d) (sym (first_frame e bytes)) (each 0 (omega arith)) in
    true_and _ _ (le-leb _ _ first)
    (all_allowed e d left (drop (frame_bytes e) bytes)
    (λ s l. subst (λ (f : List ℕ). feet e f ≤ most_feet d) (sym (next_frame e bytes s)) (each (suc s) (omega arith))))

frames_too : {e d : ℕ} → Between e d → (n left : ℕ) (taken bytes : List ℕ) → frame_bytes e * left ≤ length bytes
    → frames_ok e n left taken bytes ≡ true → lengths_ok e d left bytes ≡ true → frames_ok d n left taken (frames_in e d left bytes) ≡ true
unfolding frames_ok
frames_too B n zero taken bytes long h k = refl
frames_too {e} {d} B n (suc left) taken bytes long h k =
    let f = take (frame_bytes e) bytes in
    let P = frames_passed e n left taken bytes h in
    let L = lengths_passed e d left bytes k in
    let size = P.first.follows.size in
    let follows = follows_too e d f size (narrow_frame B f L.first) L.first B.rules n P.first.follows in
    let free = free_same e d f size taken ∙ P.first.free in
    let legs : taking taken (frame_in e d f) ≡ taking taken f =
    ap₂ (λ (b a : ℕ). b ∷ a ∷ taken) (corner_b_same e d f size) (corner_a_same e d f size) in
    let others = frames_too B n left (taking taken f) (drop (frame_bytes e) bytes) (rest_long e d left bytes long) P.others L.others in
    rw (first_moved e d left bytes long, others_moved e d left bytes long, legs)
    (true_and _ _ (eq-eqb _ 0 (segment_no_fault d n taken (frame_in e d f) follows free)) others)

frames_back : {e d : ℕ} → Between e d → (left : ℕ) (bytes : List ℕ) → length bytes ≡ frame_bytes e * left → lengths_ok e d left bytes ≡ true
    → frames_in d e left (frames_in e d left bytes) ≡ bytes
unfolding frames_in
frames_back {e} {d} B zero bytes long k = sym (no_elements bytes (omega (arith, long, mul-zero (frame_bytes e))))
frames_back {e} {d} B (suc left) bytes long k =
    let f = take (frame_bytes e) bytes in
    let rest = drop (frame_bytes e) bytes in
    let L = lengths_passed e d left bytes k in
    let room : frame_bytes e * suc left ≤ length bytes = omega (arith, long) in
    let size = cut_long e d left bytes room in
    let one : frame_in d e (frame_in e d f) ≡ f = there_and_back e f size (narrow_frame B f L.first) d in
    let others = frames_back B left rest (omega (arith, long, length-drop (frame_bytes e) bytes, times_suc (frame_bytes e) left)) L.others in
    ap₂ (λ (a b : List ℕ). frame_in d e a ++ frames_in d e left b) (first_moved e d left bytes room) (others_moved e d left bytes room)
    ∙ ap₂ (λ (a b : List ℕ). a ++ b) one others
    ∙ take-append-drop (frame_bytes e) bytes

-- ---- the limits
pub record Limits (d : ℕ) (net : List ℕ) : Type 0 where
  pub nodes : nodes_of net ≤ most_nodes d
  pub segments : segments_of net ≤ most_segments d
  pub lengths : (s : ℕ) → s < segments_of net → feet (edition_of net) (frame_of net s) ≤ most_feet d

module _ (d : ℕ) (net : List ℕ) where
  lengths_within : within_limits d net ≡ true → lengths_ok (edition_of net) d (segments_of net) (drop 7 net) ≡ true
  unfolding within_limits
  lengths_within h =
      (and_true (leb (nodes_of net) (most_nodes d) && leb (segments_of net) (most_segments d))
      (lengths_ok (edition_of net) d (segments_of net) (drop 7 net)) h).1

  pub limits : within_limits d net ≡ true → Limits d net
  unfolding within_limits
  limits h =
      let p = (and_true (leb (nodes_of net) (most_nodes d) && leb (segments_of net) (most_segments d))
      (lengths_ok (edition_of net) d (segments_of net) (drop 7 net)) h).0 in
      let q = and_true (leb (nodes_of net) (most_nodes d)) (leb (segments_of net) (most_segments d)) p in
      record {
        nodes = leb-true _ _ q.0;
        segments = leb-true _ _ q.1;
        lengths = λ s l.
            subst (λ (f : List ℕ). feet (edition_of net) f ≤ most_feet d) (frame_of_lem net s)
            (each_allowed (edition_of net) d (segments_of net) (drop 7 net) (lengths_within h) s l);
      }

  pub within : Limits d net → within_limits d net ≡ true
  unfolding within_limits
  within L =
      let lengths = all_allowed (edition_of net) d (segments_of net) (drop 7 net)
      (λ s l. subst (λ (f : List ℕ). feet (edition_of net) f ≤ most_feet d) (sym (frame_of_lem net s)) (L.lengths s l)) in
      true_and _ _ (true_and _ _ (le-leb _ _ L.nodes) (le-leb _ _ L.segments)) lengths

-- ---- the network
moved_is : (d : ℕ) (net : List ℕ) → moved d net ≡ head_in d (head_of net) ++ frames_in (edition_of net) d (segments_of net) (drop 7 net)
unfolding moved
moved_is d net = refl

module _ (net : List ℕ) (is : is_network net ≡ true) (d : ℕ) where
  head_size : length (head_of net) ≡ 7
  head_size = (passed net is).head.size

  frames_room : length (drop 7 net) ≡ frame_bytes (edition_of net) * segments_of net
  frames_room = omega (arith, length-drop 7 net, network_length net is)

  head_moved : head_of (moved d net) ≡ head_in d (head_of net)
  unfolding moved
  head_moved = take_at _ _ 7 (head_long d (head_of net))

  behind_head : drop 7 (moved d net) ≡ frames_in (edition_of net) d (segments_of net) (drop 7 net)
  unfolding moved
  behind_head = drop_at _ _ 7 (head_long d (head_of net))

  pub edition_moved : edition_of (moved d net) ≡ d
  edition_moved = ap edition head_moved ∙ says_edition d (head_of net)

  pub nodes_moved : nodes_of (moved d net) ≡ nodes_of net
  nodes_moved = ap nodes head_moved ∙ says_nodes d (head_of net)

  pub segments_moved : segments_of (moved d net) ≡ segments_of net
  segments_moved = ap segments head_moved ∙ says_segments d (head_of net)

  pub frame_of_moved : (s : ℕ) → s < segments_of net → frame_of (moved d net) s ≡ frame_in (edition_of net) d (frame_of net s)
  frame_of_moved s l =
      let e = edition_of net in
      sym (frame_of_lem (moved d net) s)
      ∙ ap₂ (λ (n : ℕ) (bytes : List ℕ). frame_at n bytes s) edition_moved behind_head
      ∙ frame_moved e d (segments_of net) (drop 7 net) (omega (arith, frames_room)) s l
      ∙ ap (frame_in e d) (frame_of_lem net s)

  module _ (B : Between (edition_of net) d) (fits : within_limits d net ≡ true) where
    pub moved_network : is_network (moved d net) ≡ true
    unfolding is_network
    moved_network =
        let P = passed net is in
        let L = limits d net fits in
        let head = head_no_fault (head_in d (head_of net)) (head_follows_too d (head_of net) P.head B.exists L.nodes L.segments) in
        let long = moved_long net is d in
        let frames = frames_too B (nodes_of net) (segments_of net) [] (drop 7 net) (omega (arith, frames_room)) P.frames (lengths_within d net fits) in
        rw (head_moved, behind_head, says_edition d (head_of net), says_nodes d (head_of net), says_segments d (head_of net))
        (true_and _ _ (true_and _ _ (eq-eqb _ 0 head) (eq-eqb _ _ long)) frames)

    pub moved_back : byte net 6 < 256 → moved (edition_of net) (moved d net) ≡ net
    moved_back small =
        let e = edition_of net in
        let check : byte (head_of net) 6 < 256 = rw (sym (get_or-take 7 net 6 0 (omega arith))) at small in
        let head = head_back d (head_of net) head_size check (omega (arith, edition_small e (passed net is).limits.edition_good))
        (omega (arith, edition_small d B.exists)) in
        moved_is e (moved d net)
        ∙ ap₂ (λ (a b : List ℕ). a ++ b) (ap (head_in e) head_moved ∙ head)
        (ap₂ (λ (n s : ℕ). frames_in n e s (drop 7 (moved d net))) edition_moved segments_moved
        ∙ ap (frames_in d e (segments_of net)) behind_head
        ∙ frames_back B (segments_of net) (drop 7 net) frames_room (lengths_within d net fits))
        ∙ take-append-drop 7 net

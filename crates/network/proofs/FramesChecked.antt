-- The loop over a network's frames. What is left to test, with the legs taken so far, is the whole test, and the bytes have those legs, and an index that
-- is filled their runs; a frame that passes is one step of `frames_ok` and of `corners_from`, and one that fails decides.
-- Assumes nothing.
use Prim.Native.Nat.{ℕ, suc, ◌+◌, ◌*◌, ◌-◌, ◌≤◌, ◌<◌}
use mathlib.Core.Bool.{Bool, true, false, ◌&&◌}
use mathlib.Core.Path.{◌≡◌, refl, sym, ap, ◌∙◌, subst}
use mathlib.Core.List.{List, []}
use native.Mathlib.Omega.{arith}
use native.Mathlib.Nat.{sub-zero, mul-zero, mul-le-mul_left}
use lib.Dec.{eqb}
use lib.ListN.{length, take, drop, length-take}
use lib.Seq.{drop-drop}
use borrow.Author.Tests.{eqb-true, ne_eqb, eq-eqb}
use Rattle.lists.proofs.Facts.{and_true}
use Rattle.lists.proofs.Lists.{true_is_false, is_false, times_next}
use Rattle.frames.specs.declared.Head.{Head}
use Rattle.frames.specs.Edition.{frame_bytes}
use Rattle.frames.specs.Decoded.{head_fields}
use Rattle.frames.specs.Ranges.{head_ok, ends_ok}
use Rattle.frames.specs.Faults.{framed}
use Rattle.frames.specs.Steps.Sizes.{Limited}
use Rattle.frames.proofs.FrameLaws.{framed_has, limited}
use Rattle.frames.proofs.FaultLaws.{head_and}
use Rattle.network.specs.Legs.{taking}
use Rattle.network.specs.Faults.{segment_fault}
use Rattle.network.specs.Network.{head_of, kept_bytes, frames_ok, is_network}
use Rattle.network.specs.Steps.Taken.{Gathered, ends_of, claimed}
use Rattle.network.specs.Steps.Corners.{Indexed, with_runs, corners_from}
use Rattle.network.specs.Steps.Checks.{legs_fault, SegmentChecked, FramesIndexed, FramesChecked, Checked}
use Rattle.network.proofs.TakenLaws.{legs_fault_lem, claimed_gathered}
use Rattle.network.proofs.CornerLaws.{corners_few, entered_indexed}
use Rattle.network.proofs.FaultLaws.{faultless}

-- ---- the loop
pub record Going (indexed : Bool) (net : List ℕ) (head : Head) (s : ℕ) (legs d : List ℕ) : Type 0 where
  pub taken : List ℕ
  pub runs : length taken ≡ 2 * s
  pub limited : Limited head
  pub long : length net ≡ 7 + frame_bytes head.edition * head.segments
  pub gathered : Gathered head.nodes taken legs
  pub index : FramesIndexed indexed head.nodes taken d
  pub tests : frames_ok head.edition head.nodes (head.segments - s) taken (drop (7 + frame_bytes head.edition * s) net)
      ≡ frames_ok head.edition head.nodes head.segments [] (drop 7 net)
  pub corners : corners_from head.edition (head.segments - s) taken (drop (7 + frame_bytes head.edition * s) net)
      ≡ corners_from head.edition head.segments [] (drop 7 net)

pub starts : {indexed : Bool} {net : List ℕ} {head : Head} {legs d : List ℕ} → Limited head → length net ≡ 7 + frame_bytes head.edition * head.segments
    → Gathered head.nodes [] legs → FramesIndexed indexed head.nodes [] d → Going indexed net head 0 legs d
starts {net = net} {head = head} p l g x =
    record {
      taken = [];
      runs = refl;
      limited = p;
      long = l;
      gathered = g;
      index = x;
      tests = rw (mul-zero, sub-zero);
      corners = rw (mul-zero, sub-zero);
    }

module _ {indexed : Bool} {net : List ℕ} {head : Head} {s : ℕ} {legs d : List ℕ} (w : Going indexed net head s legs d) where
  pub part_fits : s < head.segments → 7 + frame_bytes head.edition * s + frame_bytes head.edition ≤ length net
  part_fits h =
      let p : frame_bytes head.edition * (s + 1) ≤ frame_bytes head.edition * head.segments = mul-le-mul_left (frame_bytes head.edition) (omega arith) in
      omega (arith, p, w.long, times_next (frame_bytes head.edition) s)

-- the frame of segment s, as the code cuts it out
abbrev pub part : List ℕ → ℕ → ℕ → List ℕ
part net size s = take (7 + size * s + size - (7 + size * s)) (drop (7 + size * s) net)

module _ {indexed : Bool} {net : List ℕ} {head : Head} {s : ℕ} {legs d : List ℕ} (w : Going indexed net head s legs d) {size : ℕ}
    (e : size ≡ frame_bytes head.edition) where
  abbrev left : List ℕ
  left = drop (7 + frame_bytes head.edition * s) net

  abbrev frame : List ℕ
  frame = take (frame_bytes head.edition) left

  pub part_is : part net size s ≡ frame
  part_is =
      let l : 7 + frame_bytes head.edition * s + frame_bytes head.edition - (7 + frame_bytes head.edition * s) ≡ frame_bytes head.edition = omega arith in
      simp (e, l)

  -- what the code tested of its part is what the definition tests of the frame
  tested : eqb (legs_fault head.edition head.nodes true legs (part net size s)) 0 ≡ eqb (segment_fault head.edition head.nodes true w.taken frame) 0
  tested =
      ap (λ (x : ℕ). eqb x 0) (ap (legs_fault head.edition head.nodes true legs) part_is ∙ legs_fault_lem w.gathered head.edition true frame)

  module _ (h : s < head.segments) {legs' d' : List ℕ} {r : Bool} (k : SegmentChecked indexed (part net size s) head s legs legs' d d' r) where
    pub fails : r ≡ false → FramesChecked indexed head (drop 7 net) legs' d' false
    unfolding frames_ok
    fails x =
        let z : head.segments - s ≡ suc (head.segments - (s + 1)) = omega arith in
        let y = sym tested ∙ sym k.answer ∙ x in
        record { answer = sym (rw (z, frames_ok, y)) ∙ w.tests; legs = λ t. true_is_false refl t; index = λ t. true_is_false refl t }

    module _ (x : r ≡ true) where
      passes : eqb (segment_fault head.edition head.nodes true w.taken frame) 0 ≡ true
      passes = sym tested ∙ sym k.answer ∙ x

      follow : ends_ok head.nodes frame ≡ true
      follow = (faultless head.edition head.nodes true w.taken frame (eqb-true _ _ passes)).follows.ends

      pub goes_on : Going indexed net head (s + 1) legs' d'
      unfolding frames_ok corners_from
      goes_on =
          let z : head.segments - s ≡ suc (head.segments - (s + 1)) = omega arith in
          let o = corners_few head.nodes frame follow in
          let b : drop (frame_bytes head.edition) left ≡ drop (7 + frame_bytes head.edition * (s + 1)) net =
          drop-drop (frame_bytes head.edition) (7 + frame_bytes head.edition * s) net
          ∙ ap (λ (j : ℕ). drop j net) (omega (arith, times_next (frame_bytes head.edition) s)) in
          record {
            taken = taking w.taken frame;
            runs = omega (arith, w.runs);
            limited = w.limited;
            long = w.long;
            gathered =
                subst (λ (j : List ℕ). Gathered head.nodes (taking w.taken frame) j)
                (sym (k.legs x ∙ ap (λ (i : List ℕ). claimed legs (ends_of i)) part_is)) (claimed_gathered w.gathered frame follow);
            index = λ u.
                subst (λ (j : List ℕ). Indexed head.nodes (taking w.taken frame) j)
                (sym (k.runs x u ∙ ap (λ (i : List ℕ). with_runs d s (ends_of i)) part_is)) (entered_indexed (w.index u) s frame w.runs o.0 o.1);
            tests = sym (rw (z, frames_ok, passes, b)) ∙ w.tests;
            corners = sym (rw (z, corners_from, b)) ∙ w.corners;
          }

module _ {indexed : Bool} {net : List ℕ} {head : Head} {s : ℕ} {legs d : List ℕ} (w : Going indexed net head s legs d) where
  pub ends : head.segments ≤ s → FramesChecked indexed head (drop 7 net) legs d true
  unfolding frames_ok corners_from
  ends h =
      let z : head.segments - s ≡ 0 = omega arith in
      let all = sym (rw (z, corners_from)) ∙ w.corners in
      record {
        answer = sym (rw (z, frames_ok)) ∙ w.tests;
        legs = λ t. subst (λ (i : List ℕ). Gathered head.nodes i legs) all w.gathered;
        index = λ t u. subst (λ (i : List ℕ). Indexed head.nodes i d) all (w.index u);
      }

-- ---- the whole test, from the head's
-- the bytes that the head promises
pub kept_is : (net : List ℕ) {head : Head} {bytes : ℕ} → head ≡ head_fields (head_of net) → bytes ≡ 7 + frame_bytes head.edition * head.segments
    → bytes ≡ kept_bytes (head_of net)
kept_is net e h = h ∙ ap (λ (x : Head). 7 + frame_bytes x.edition * x.segments) e

module _ {net d : List ℕ} where
  pub no_head : (eqb (framed 1 7 (head_of net) 0) 0 && head_ok (head_of net)) ≡ false → Checked net d false
  unfolding is_network
  no_head e = record { answer = rw (head_and (head_of net), e); legs = λ t. true_is_false refl t }

  pub too_short : length net < 7 → Checked net d false
  too_short h =
      no_head
      (is_false _ (λ e. omega (
        arith,
        length-take 7 net,
        (framed_has 1 7 (head_of net) 0 (eqb-true _ _ (and_true (eqb (framed 1 7 (head_of net) 0) 0) (head_ok (head_of net)) e).0)).long,
      )))

  module _ (good : (eqb (framed 1 7 (head_of net) 0) 0 && head_ok (head_of net)) ≡ true) where
    pub wrong_length : (length net ≡ kept_bytes (head_of net) → ⊥) → Checked net d false
    unfolding is_network
    wrong_length l =
        record {
          answer = rw (head_and (head_of net), good, ne_eqb (length net) (kept_bytes (head_of net)) l);
          legs = λ t. true_is_false refl t;
        }

    pub by_frames : {indexed : Bool} {head : Head} {index : List ℕ} {r : Bool} → head ≡ head_fields (head_of net) → length net ≡ kept_bytes (head_of net)
        → FramesChecked indexed head (drop 7 net) d index r → Checked net d r
    unfolding is_network
    by_frames {indexed} {head} {index} {r} e l g =
        let h : FramesChecked indexed (head_fields (head_of net)) (drop 7 net) d index r =
        subst (λ (x : Head). FramesChecked indexed x (drop 7 net) d index r) e g in
        record { answer = rw (head_and (head_of net), good, eq-eqb (length net) (kept_bytes (head_of net)) l) h.answer; legs = h.legs }

-- all that decides before the frames do
pub ruleset whole_test = (too_short, no_head, wrong_length, kept_is, limited)

-- What a network has, for whoever reads it: its length and limits, each frame by its number, and which run leaves by which corner. The laws of
-- frames and of corners go by induction on the frames left; since legs are distinct, a corner once taken keeps its run.
-- Assumes nothing.
use Prim.Native.Nat.{ℕ, zero, suc, ◌+◌, ◌*◌, ◌≤◌, ◌<◌}
use mathlib.Core.Bool.{Bool, true, false, cond, ◌&&◌}
use mathlib.Core.Path.{◌≡◌, refl, sym, ap, ◌∙◌, subst}
use mathlib.Core.Logic.{◌⊎◌, inl, inr, ⊎_elim}
use mathlib.Core.List.{List, []}
use native.Mathlib.Omega.{arith}
use native.Mathlib.Nat.{mul-zero, mul-le-mul_left, le_of_suc-le-suc}
use lib.Dec.{eqb}
use lib.ListN.{length, take, drop}
use lib.Seq.{drop-drop}
use borrow.Author.Tests.{eqb-true, eq-eqb}
use Rattle.lists.proofs.Facts.{and_true, or_right}
use Rattle.lists.proofs.Lists.{times_suc, times_next, part_element}
use Rattle.frames.specs.Edition.{frame_bytes, most_nodes, most_segments}
use Rattle.frames.specs.Frame.{byte, word}
use Rattle.frames.specs.Faults.{head_fault}
use Rattle.frames.specs.Follows.{HeadFollows, SegmentFollows}
use Rattle.frames.proofs.FrameLaws.{head_limits, HeadLimits}
use Rattle.frames.proofs.FaultLaws.{head_follows}
use Rattle.network.specs.Legs.{corner, corner_a, corner_b, is_in, taking}
use Rattle.network.specs.Faults.{segment_fault}
use Rattle.network.specs.Network.{kept_bytes, head_of, edition_of, nodes_of, segments_of, frame_of, frames_ok, is_network}
use Rattle.network.specs.Steps.Corners.{leaves, corners_from, corners_of, LeavesBy}
use Rattle.network.proofs.FaultLaws.{Faultless, faultless}
use Rattle.network.proofs.LegLaws.{Free, in_apart, free}

-- ---- the parts of the test
pub record Passed (net : List ℕ) : Type 0 where
  pub head : HeadFollows (head_of net)
  pub limits : HeadLimits (head_of net)
  pub long : length net ≡ 7 + frame_bytes (edition_of net) * segments_of net
  pub frames : frames_ok (edition_of net) (nodes_of net) (segments_of net) [] (drop 7 net) ≡ true

pub passed : (net : List ℕ) → is_network net ≡ true → Passed net
unfolding is_network
passed net e =
    let p = and_true (eqb (head_fault (head_of net)) 0 && eqb (length net) (kept_bytes (head_of net)))
    (frames_ok (edition_of net) (nodes_of net) (segments_of net) [] (drop 7 net)) e in
    let q = and_true (eqb (head_fault (head_of net)) 0) (eqb (length net) (kept_bytes (head_of net))) p.0 in
    let h : HeadFollows (head_of net) = head_follows (head_of net) (eqb-true _ _ q.0) in
    record { head = h; limits = head_limits (head_of net) h.fields; long = eqb-true _ _ q.1; frames = p.1 }

pub record FramesPassed (e n left : ℕ) (taken bytes : List ℕ) : Type 0 where
  pub first : Faultless e n true taken (take (frame_bytes e) bytes)
  pub others : frames_ok e n left (taking taken (take (frame_bytes e) bytes)) (drop (frame_bytes e) bytes) ≡ true

pub frames_passed : (e n left : ℕ) (taken bytes : List ℕ) → frames_ok e n (suc left) taken bytes ≡ true → FramesPassed e n left taken bytes
unfolding frames_ok
frames_passed e n left taken bytes h =
    let f : List ℕ = take (frame_bytes e) bytes in
    let p = and_true (eqb (segment_fault e n true taken f) 0) (frames_ok e n left (taking taken f) (drop (frame_bytes e) bytes)) h in
    record { first = faultless e n true taken f (eqb-true _ _ p.0); others = p.1 }

-- ---- frames by their number
abbrev pub frame_at : ℕ → List ℕ → ℕ → List ℕ
frame_at e bytes s = take (frame_bytes e) (drop (frame_bytes e * s) bytes)

pub first_frame : (e : ℕ) (bytes : List ℕ) → take (frame_bytes e) bytes ≡ frame_at e bytes 0
first_frame e bytes = ap (λ (i : ℕ). take (frame_bytes e) (drop i bytes)) (sym (mul-zero (frame_bytes e)))

pub next_frame : (e : ℕ) (bytes : List ℕ) (s : ℕ) → frame_at e (drop (frame_bytes e) bytes) s ≡ frame_at e bytes (suc s)
next_frame e bytes s =
    ap (λ (u : List ℕ). take (frame_bytes e) u)
    (drop-drop (frame_bytes e * s) (frame_bytes e) bytes ∙ ap (λ (i : ℕ). drop i bytes) (sym (times_suc (frame_bytes e) s)))

pub frame_of_lem : (net : List ℕ) (s : ℕ) → frame_at (edition_of net) (drop 7 net) s ≡ frame_of net s
frame_of_lem net s = ap (λ (u : List ℕ). take (frame_bytes (edition_of net)) u) (drop-drop (frame_bytes (edition_of net) * s) 7 net)

each_follows : (e n left : ℕ) (taken bytes : List ℕ) → frames_ok e n left taken bytes ≡ true → (s : ℕ) → s < left
    → SegmentFollows e n (frame_at e bytes s)
each_follows e n zero taken bytes h s l = absurd (omega arith)
each_follows e n (suc left) taken bytes h zero l =
    subst (λ (f : List ℕ). SegmentFollows e n f) (first_frame e bytes) (frames_passed e n left taken bytes h).first.follows
each_follows e n (suc left) taken bytes h (suc s) l =
    subst (λ (f : List ℕ). SegmentFollows e n f) (next_frame e bytes s)
    (each_follows e n left _ (drop (frame_bytes e) bytes) (frames_passed e n left taken bytes h).others s (le_of_suc-le-suc l))

module _ (net : List ℕ) (is : is_network net ≡ true) where
  pub network_length : length net ≡ 7 + frame_bytes (edition_of net) * segments_of net
  network_length = (passed net is).long

  pub nodes_most : nodes_of net ≤ most_nodes (edition_of net)
  nodes_most = (passed net is).limits.nodes_most

  pub segments_most : segments_of net ≤ most_segments (edition_of net)
  segments_most = (passed net is).limits.segments_most

  -- the frame of each segment stands in the bytes and follows the rules
  pub frame_fits : (s : ℕ) → s < segments_of net → 7 + frame_bytes (edition_of net) * s + frame_bytes (edition_of net) ≤ length net
  frame_fits s l =
      let p : frame_bytes (edition_of net) * (s + 1) ≤ frame_bytes (edition_of net) * segments_of net =
      mul-le-mul_left (frame_bytes (edition_of net)) (omega arith) in
      omega (arith, p, network_length, times_next (frame_bytes (edition_of net)) s)

  pub frame_follows : (s : ℕ) → s < segments_of net → SegmentFollows (edition_of net) (nodes_of net) (frame_of net s)
  frame_follows s l =
      subst (λ (f : List ℕ). SegmentFollows (edition_of net) (nodes_of net) f) (frame_of_lem net s)
      (each_follows (edition_of net) (nodes_of net) (segments_of net) [] (drop 7 net) (passed net is).frames s l)

-- the bytes of a frame, where they stand
pub frame_byte : (net : List ℕ) (s i : ℕ) → i < frame_bytes (edition_of net)
    → byte (frame_of net s) i ≡ byte net (7 + frame_bytes (edition_of net) * s + i)
frame_byte net s i h = part_element net (7 + frame_bytes (edition_of net) * s) (frame_bytes (edition_of net)) i h

pub frame_word : (net : List ℕ) (s i : ℕ) → i + 1 < frame_bytes (edition_of net)
    → word (frame_of net s) i ≡ word net (7 + frame_bytes (edition_of net) * s + i)
frame_word net s i h =
    let a : 7 + frame_bytes (edition_of net) * s + (i + 1) ≡ 7 + frame_bytes (edition_of net) * s + i + 1 = omega arith in
    rw (frame_byte net s i (omega arith), frame_byte net s (i + 1) h, a)

-- ---- corners
-- a leg of a node is one corner, and a corner is one leg of one node
pub corner_below : {n : ℕ} (node leg : ℕ) → node < n → leg ≤ 7 → corner node leg < n * 8
corner_below node leg p q = omega arith

pub corner_same : (node leg node' leg' : ℕ) → leg ≤ 7 → leg' ≤ 7 → corner node leg ≡ corner node' leg' → (node ≡ node') × (leg ≡ leg')
corner_same node leg node' leg' p q e = (omega arith, omega arith)

-- a corner once taken keeps its run
stays : (e n left : ℕ) (taken bytes : List ℕ) (c : ℕ) → frames_ok e n left taken bytes ≡ true → is_in c taken ≡ true
    → leaves (corners_from e left taken bytes) c ≡ leaves taken c
unfolding corners_from leaves is_in
stays e n zero taken bytes c h i = refl
stays e n (suc left) taken bytes c h i =
    let f : List ℕ = take (frame_bytes e) bytes in
    let w = frames_passed e n left taken bytes h in
    let v : Free taken f = free taken f w.first.free in
    stays e n left (taking taken f) (drop (frame_bytes e) bytes) c w.others (or_right (eqb c (corner_b f)) (or_right (eqb c (corner_a f)) i))
    ∙ rw (in_apart c (corner_b f) taken i v.new_b, in_apart c (corner_a f) taken i v.new_a)

-- the runs of segment s, with so many corners before the first frame
ends_leave : (e n left : ℕ) (taken bytes : List ℕ) → frames_ok e n left taken bytes ≡ true → (s : ℕ) → s < left
    → (leaves (corners_from e left taken bytes) (corner_a (frame_at e bytes s)) ≡ length taken + 2 * s + 1)
    × (leaves (corners_from e left taken bytes) (corner_b (frame_at e bytes s)) ≡ length taken + 2 * s + 2)
unfolding corners_from leaves is_in
ends_leave e n zero taken bytes h s l = absurd (omega arith)
ends_leave e n (suc left) taken bytes h zero l =
    let f : List ℕ = take (frame_bytes e) bytes in
    let w = frames_passed e n left taken bytes h in
    let v : Free taken f = free taken f w.first.free in
    let aa : eqb (corner_a f) (corner_a f) ≡ true = eq-eqb (corner_a f) (corner_a f) refl in
    let bb : eqb (corner_b f) (corner_b f) ≡ true = eq-eqb (corner_b f) (corner_b f) refl in
    let a : leaves (corners_from e left (taking taken f) (drop (frame_bytes e) bytes)) (corner_a f) ≡ length taken + 2 * 0 + 1 =
    stays e n left (taking taken f) (drop (frame_bytes e) bytes) (corner_a f) w.others (or_right (eqb (corner_a f) (corner_b f)) (rw aa))
    ∙ rw (v.apart, aa) (omega arith) in
    let b : leaves (corners_from e left (taking taken f) (drop (frame_bytes e) bytes)) (corner_b f) ≡ length taken + 2 * 0 + 2 =
    stays e n left (taking taken f) (drop (frame_bytes e) bytes) (corner_b f) w.others (rw bb) ∙ rw bb (omega arith) in
    subst
    (λ (g : List ℕ). (leaves (corners_from e left (taking taken f) (drop (frame_bytes e) bytes)) (corner_a g) ≡ length taken + 2 * 0 + 1)
    × (leaves (corners_from e left (taking taken f) (drop (frame_bytes e) bytes)) (corner_b g) ≡ length taken + 2 * 0 + 2))
    (first_frame e bytes) (a, b)
ends_leave e n (suc left) taken bytes h (suc s) l =
    let f : List ℕ = take (frame_bytes e) bytes in
    let w = frames_passed e n left taken bytes h in
    let i = ends_leave e n left (taking taken f) (drop (frame_bytes e) bytes) w.others s (le_of_suc-le-suc l) in
    subst
    (λ (g : List ℕ). (leaves (corners_from e left (taking taken f) (drop (frame_bytes e) bytes)) (corner_a g) ≡ length taken + 2 * suc s + 1)
    × (leaves (corners_from e left (taking taken f) (drop (frame_bytes e) bytes)) (corner_b g) ≡ length taken + 2 * suc s + 2))
    (next_frame e bytes s) (i.0 ∙ omega arith, i.1 ∙ omega arith)

-- an entry that is not 0 tells the end: an earlier corner, or one of the frames'
record EndFrom (e : ℕ) (bytes : List ℕ) (left before r c : ℕ) : Type 0 where
  s : ℕ
  counted : s < left
  end : ((r ≡ before + 2 * s) × (c ≡ corner_a (frame_at e bytes s))) ⊎ ((r ≡ before + 2 * s + 1) × (c ≡ corner_b (frame_at e bytes s)))

entry_tells : (e left : ℕ) (taken bytes : List ℕ) (r c : ℕ) → leaves (corners_from e left taken bytes) c ≡ suc r
    → (leaves taken c ≡ suc r) ⊎ EndFrom e bytes left (length taken) r c
unfolding corners_from leaves
entry_tells e zero taken bytes r c h = inl h
entry_tells e (suc left) taken bytes r c h =
    ⊎_elim (λ (p : leaves (taking taken f) c ≡ suc r). here (eqb c (corner_b f)) refl (eqb c (corner_a f)) refl p)
    (λ (p : EndFrom e (drop (frame_bytes e) bytes) left (length (taking taken f)) r c). inr (later p))
    (entry_tells e left (taking taken f) (drop (frame_bytes e) bytes) r c h)
  where
    f : List ℕ
    f = take (frame_bytes e) bytes

    here : (x : Bool) → eqb c (corner_b f) ≡ x → (y : Bool) → eqb c (corner_a f) ≡ y
        → cond x (suc (length taken) + 1) (cond y (length taken + 1) (leaves taken c)) ≡ suc r
        → (leaves taken c ≡ suc r) ⊎ EndFrom e bytes (suc left) (length taken) r c
    here true p y q z =
        inr (record { s = 0; counted = omega arith; end = inr (omega arith, eqb-true _ _ p ∙ ap corner_b (first_frame e bytes)) })
    here false p true q z =
        inr (record { s = 0; counted = omega arith; end = inl (omega arith, eqb-true _ _ q ∙ ap corner_a (first_frame e bytes)) })
    here false p false q z = inl z

    later : EndFrom e (drop (frame_bytes e) bytes) left (length (taking taken f)) r c → EndFrom e bytes (suc left) (length taken) r c
    later w =
        record {
          s = suc w.s;
          counted = omega (arith, w.counted);
          end =
              ⊎_elim
              (λ (p : (r ≡ length (taking taken f) + 2 * w.s) × (c ≡ corner_a (frame_at e (drop (frame_bytes e) bytes) w.s))).
              inl (omega (arith, p.0), p.1 ∙ ap corner_a (next_frame e bytes w.s)))
              (λ (p : (r ≡ length (taking taken f) + 2 * w.s + 1) × (c ≡ corner_b (frame_at e (drop (frame_bytes e) bytes) w.s))).
              inr (omega (arith, p.0), p.1 ∙ ap corner_b (next_frame e bytes w.s)))
              w.end;
        }

-- ---- the corners of a network
module _ (net : List ℕ) (is : is_network net ≡ true) where
  -- run 2s leaves by segment s's A end, run 2s + 1 by its B end
  pub leaves_a : (s : ℕ) → s < segments_of net → leaves (corners_of net) (corner_a (frame_of net s)) ≡ 1 + 2 * s
  leaves_a s l =
      sym (ap (λ (f : List ℕ). leaves (corners_of net) (corner_a f)) (frame_of_lem net s))
      ∙ (ends_leave (edition_of net) (nodes_of net) (segments_of net) [] (drop 7 net) (passed net is).frames s l).0
      ∙ omega arith

  pub leaves_b : (s : ℕ) → s < segments_of net → leaves (corners_of net) (corner_b (frame_of net s)) ≡ 2 + 2 * s
  leaves_b s l =
      sym (ap (λ (f : List ℕ). leaves (corners_of net) (corner_b f)) (frame_of_lem net s))
      ∙ (ends_leave (edition_of net) (nodes_of net) (segments_of net) [] (drop 7 net) (passed net is).frames s l).1
      ∙ omega arith

  pub run_leaves : {r c : ℕ} → LeavesBy net r c → leaves (corners_of net) c ≡ 1 + r
  run_leaves {r} {c} w =
      ⊎_elim
      (λ (p : (r ≡ 2 * w.s) × (c ≡ corner_a (frame_of net w.s))). ap (leaves (corners_of net)) p.1 ∙ leaves_a w.s w.counted
      ∙ omega (arith, p.0))
      (λ (p : (r ≡ 2 * w.s + 1) × (c ≡ corner_b (frame_of net w.s))). ap (leaves (corners_of net)) p.1 ∙ leaves_b w.s w.counted
      ∙ omega (arith, p.0))
      w.end

-- an entry tells its run
pub leaves_tells : (net : List ℕ) (r c : ℕ) → leaves (corners_of net) c ≡ suc r → LeavesBy net r c
unfolding leaves
leaves_tells net r c h =
    ⊎_elim (λ (p : 0 ≡ suc r). absurd (omega arith)) (λ (p : EndFrom (edition_of net) (drop 7 net) (segments_of net) 0 r c). found p)
    (entry_tells (edition_of net) (segments_of net) [] (drop 7 net) r c h)
  where
    found : EndFrom (edition_of net) (drop 7 net) (segments_of net) 0 r c → LeavesBy net r c
    found w =
        record {
          s = w.s;
          counted = w.counted;
          end =
              ⊎_elim
              (λ (p : (r ≡ 0 + 2 * w.s) × (c ≡ corner_a (frame_at (edition_of net) (drop 7 net) w.s))).
              inl (omega (arith, p.0), p.1 ∙ ap corner_a (frame_of_lem net w.s)))
              (λ (p : (r ≡ 0 + 2 * w.s + 1) × (c ≡ corner_b (frame_at (edition_of net) (drop 7 net) w.s))).
              inr (omega (arith, p.0), p.1 ∙ ap corner_b (frame_of_lem net w.s)))
              w.end;
        }

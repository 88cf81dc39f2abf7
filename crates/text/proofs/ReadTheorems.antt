-- When Read accepts, in the words of demand 2, and which bytes Read could keep. The frames of a kept text are its lines' bytes; they follow the
-- rules and find their legs free, which is all that `segment_lines` and `frames_ok` test, so both are induction on the list of frames, each way. What Read
-- leaves at the front of the output, when it accepts, is therefore a network.
-- Assumes nothing.
use Prim.Native.Nat.{ℕ, zero, suc, ◌+◌, ◌*◌, ◌≤◌}
use mathlib.Core.Bool.{true}
use mathlib.Core.Path.{◌≡◌, refl, sym, ap, ◌∙◌, subst}
use mathlib.Core.Logic.{◌↔◌}
use mathlib.Core.List.{List, [], ◌∷◌, ◌++◌, append-nil, append_assoc}
use native.Mathlib.Omega.{arith}
use native.Mathlib.Nat.{mul-zero}
use lib.ListN.{length, take, drop, length-append, length-drop, take-append-drop}
use lib.Seq.{take_at, drop_at}
use borrow.Author.Tests.{eq-eqb, le-leb}
use Rattle.lists.proofs.Lists.{times_suc, no_elements, is_empty_lem}
use Rattle.frames.specs.Edition.{frame_bytes}
use Rattle.frames.specs.Frame.{edition, nodes, segments}
use Rattle.frames.specs.Faults.{head_fault}
use Rattle.frames.specs.Follows.{SegmentFollows}
use Rattle.frames.proofs.EditionLaws.{frame_least}
use Rattle.frames.proofs.FaultLaws.{head_no_fault}
use Rattle.network.specs.Legs.{taking}
use Rattle.network.specs.Faults.{segment_fault}
use Rattle.network.specs.Network.{kept_bytes, head_of, edition_of, nodes_of, segments_of, frames_ok, is_network}
use Rattle.network.proofs.FaultLaws.{segment_no_fault}
use Rattle.network.proofs.NetworkLaws.{passed, frames_passed}
use Rattle.digits.specs.Digits.{line, line_of, bytes_of, rest_of}
use Rattle.lists.specs.Lists.{Bytes}
use Rattle.text.specs.Text.{line_text, frames_text, text_of}
use Rattle.text.specs.Accepted.{count, joined, Each, lines_text, Accepted}
use Rattle.text.specs.Read.{kept, segment_lines, read_of, Reading, refused}
use Rattle.text.specs.Told.{told, output_of, ReadDid, written, told_of}
use Rattle.text.proofs.Distinct.{Fresh, fresh_is_distinct, distinct_is_fresh}
use Rattle.text.proofs.KeptText.{line_kept, none_left, head_kept}
use Rattle.text.proofs.LinesRead.{all_kept, good_line}
use Rattle.text.specs.declared.Refused.{Refused}
use Rattle.std.specs.Prelude.{Result, Ok}
use Rattle.text.proofs.TextLaws.{bytes_append, bytes_parts, spelled_bytes, line_back, line_some, line_text_lem}

-- frames that Read finds no fault with, one after the other
record Good (e n : ℕ) (taken : List ℕ) (frames : List (List ℕ)) : Type 0 where
  follow : Each (SegmentFollows e n) frames
  fresh : Fresh taken frames
  are_bytes : Bytes (joined frames)

first_good : {e n : ℕ} {taken f : List ℕ} {frames : List (List ℕ)} → Good e n taken (f ∷ frames) → Good e n (taking taken f) frames
first_good {f = f} {frames = frames} w =
    record { follow = w.follow.1; fresh = w.fresh.1; are_bytes = (bytes_parts f (joined frames) w.are_bytes).1 }

-- ---- their lines are read, and their bytes kept
lines_kept : (e n at : ℕ) (taken sofar : List ℕ) (frames : List (List ℕ)) → Good e n taken frames
    → segment_lines e n (count frames) at taken sofar (lines_text frames) ≡ kept (sofar ++ joined frames)
lines_kept e n at taken sofar [] w = all_kept e n at taken sofar [] refl ∙ ap kept (sym (append-nil sofar))
lines_kept e n at taken sofar (f ∷ frames) w =
    let u : List ℕ = lines_text frames in
    let b : line_of (line_text f ++ u) ≡ line f u = line_back f u (bytes_parts f (joined frames) w.are_bytes).0 in
    let z : segment_fault e n true taken (bytes_of (line_of (line_text f ++ u))) ≡ 0 =
    rw b (segment_no_fault e n taken f w.follow.0 w.fresh.0) in
    good_line e n at taken sofar (line_text f ++ u) (count frames) (line_some f u) z
    ∙ rw b (lines_kept e n (at + 1) (taking taken f) (sofar ++ f) frames (first_good w))
    ∙ ap kept (append_assoc sofar f (joined frames))

-- ---- lines that are kept are those of such frames
record LinesOf (e n left : ℕ) (taken sofar u b : List ℕ) : Type 0 where
  frames : List (List ℕ)
  text_is : u ≡ lines_text frames
  number : count frames ≡ left
  good : Good e n taken frames
  bytes_are : b ≡ sofar ++ joined frames

lines_of : (e n left at : ℕ) (taken sofar u b : List ℕ) → segment_lines e n left at taken sofar u ≡ kept b → LinesOf e n left taken sofar u b
lines_of e n zero at taken sofar u b h =
    let q = none_left e n at taken sofar u b h in
    record {
      frames = [];
      text_is = is_empty_lem u q.0;
      number = refl;
      good = record { follow = tt; fresh = tt; are_bytes = tt };
      bytes_are = sym q.1 ∙ sym (append-nil sofar);
    }
lines_of e n (suc left) at taken sofar u b h =
    let w = line_kept e n left at taken sofar u b h in
    let f : List ℕ = bytes_of (line_of u) in
    let v : LinesOf e n left (taking taken f) (sofar ++ f) (rest_of (line_of u)) b = lines_of e n left (at + 1) _ _ _ b w.later in
    record {
      frames = f ∷ v.frames;
      text_is = line_text_lem u (omega (arith, w.good.follows.size, frame_least e)) ∙ ap (λ (x : List ℕ). line_text f ++ x) v.text_is;
      number = ap suc v.number;
      good =
          record {
            follow = (w.good.follows, v.good.follow);
            fresh = (w.good.free, v.good.fresh);
            are_bytes = bytes_append f (joined v.frames) (subst Bytes (sym w.spells) (spelled_bytes (frame_bytes e) u)) v.good.are_bytes;
          };
      bytes_are = v.bytes_are ∙ append_assoc sofar f (joined v.frames);
    }

-- ---- demand 2: a text is accepted exactly when it is the lines of a head and S frames that follow the rules
accepts : (text : List ℕ) (room : ℕ) (bytes : List ℕ) → Accepted text room bytes → read_of text room ≡ kept bytes
unfolding read_of
accepts text room bytes w =
    let h : List ℕ = w.head in
    let u : List ℕ = lines_text w.frames in
    let p = bytes_parts h (joined w.frames) (subst Bytes w.bytes_are w.are_bytes) in
    let b : line_of (line_text h ++ u) ≡ line h u = line_back h u p.0 in
    let g : Good (edition h) (nodes h) [] w.frames =
    record { follow = w.frames_follow; fresh = distinct_is_fresh w.frames w.legs; are_bytes = p.1 } in
    rw (w.text_is, line_some h u, b, head_no_fault h w.head_follows, le-leb (kept_bytes h) room w.fits, sym w.segment_count)
    (lines_kept (edition h) (nodes h) 2 [] h w.frames g ∙ ap kept (sym w.bytes_are))

pub accepted : (text : List ℕ) (room : ℕ) (bytes : List ℕ) → read_of text room ≡ kept bytes → Accepted text room bytes
accepted text room bytes e =
    let w = head_kept text room bytes e in
    let h : List ℕ = w.head in
    let v : LinesOf (edition h) (nodes h) (segments h) [] h (rest_of (line_of text)) bytes =
    lines_of (edition h) (nodes h) (segments h) 2 [] h _ bytes w.later in
    let t : text ≡ line_text h ++ rest_of (line_of text) =
    subst (λ (x : List ℕ). text ≡ line_text x ++ rest_of (line_of text)) (sym w.head_is)
    (line_text_lem text (omega (arith, w.follows.size, ap length w.head_is))) in
    record {
      head = h;
      frames = v.frames;
      text_is = t ∙ ap (λ (x : List ℕ). line_text h ++ x) v.text_is;
      head_follows = w.follows;
      frames_follow = v.good.follow;
      segment_count = v.number;
      legs = fresh_is_distinct v.frames v.good.fresh;
      fits = w.fits;
      bytes_are = v.bytes_are;
      are_bytes =
          subst Bytes (sym v.bytes_are) (bytes_append h (joined v.frames) (subst Bytes (sym w.spells) (spelled_bytes 7 text))
          v.good.are_bytes);
    }

pub accepted_exactly : (text : List ℕ) (room : ℕ) (bytes : List ℕ) → (read_of text room ≡ kept bytes) ↔ Accepted text room bytes
accepted_exactly text room bytes = (accepted text room bytes, accepts text room bytes)

-- ---- such frames, joined, pass the test of kept bytes
joined_length : (e n : ℕ) (frames : List (List ℕ)) → Each (SegmentFollows e n) frames → length (joined frames) ≡ frame_bytes e * count frames
joined_length e n [] w = sym (mul-zero (frame_bytes e))
joined_length e n (f ∷ frames) w =
    length-append f (joined frames) ∙ omega (arith, w.0.size, joined_length e n frames w.1, times_suc (frame_bytes e) (count frames))

joined_pass : (e n : ℕ) (taken : List ℕ) (frames : List (List ℕ)) → Each (SegmentFollows e n) frames → Fresh taken frames
    → frames_ok e n (count frames) taken (joined frames) ≡ true
unfolding frames_ok
joined_pass e n taken [] w d = refl
joined_pass e n taken (f ∷ frames) w d =
    rw (
      take_at f (joined frames) (frame_bytes e) w.0.size,
      drop_at f (joined frames) (frame_bytes e) w.0.size,
      eq-eqb (segment_fault e n true taken f) 0 (segment_no_fault e n taken f w.0 d.0),
    )
    (joined_pass e n (taking taken f) frames w.1 d.1)

pub accepted_network : (text : List ℕ) (room : ℕ) (bytes : List ℕ) → Accepted text room bytes → is_network bytes ≡ true
unfolding is_network
accepted_network text room bytes w =
    let h : List ℕ = w.head in
    let v : List ℕ = joined w.frames in
    let l : length v ≡ frame_bytes (edition h) * segments h =
    joined_length (edition h) (nodes h) w.frames w.frames_follow ∙ ap (λ (x : ℕ). frame_bytes (edition h) * x) w.segment_count in
    rw (
      w.bytes_are,
      take_at h v 7 w.head_follows.size,
      drop_at h v 7 w.head_follows.size,
      eq-eqb (head_fault h) 0 (head_no_fault h w.head_follows),
      eq-eqb (length (h ++ v)) (kept_bytes h) (length-append h v ∙ omega (arith, l, w.head_follows.size)),
      sym w.segment_count,
    )
    (joined_pass (edition h) (nodes h) [] w.frames w.frames_follow (distinct_is_fresh w.frames w.legs))

-- ---- what is kept has one text
joined_text : (e n : ℕ) (frames : List (List ℕ)) → Each (SegmentFollows e n) frames
    → frames_text (frame_bytes e) (count frames) (joined frames) ≡ lines_text frames
unfolding frames_text
joined_text e n [] w = refl
joined_text e n (f ∷ frames) w =
    rw (take_at f (joined frames) (frame_bytes e) w.0.size, drop_at f (joined frames) (frame_bytes e) w.0.size)
    (ap (λ (x : List ℕ). line_text f ++ x) (joined_text e n frames w.1))

-- The text of what was kept is the text that was read.
pub kept_text : (text : List ℕ) (room : ℕ) (bytes : List ℕ) → read_of text room ≡ kept bytes → text_of bytes ≡ text
unfolding text_of
kept_text text room bytes e =
    let w = accepted text room bytes e in
    let h : List ℕ = w.head in
    let v : List ℕ = joined w.frames in
    rw (w.bytes_are, take_at h v 7 w.head_follows.size, drop_at h v 7 w.head_follows.size, sym w.segment_count)
    (ap (λ (x : List ℕ). line_text h ++ x) (joined_text (edition h) (nodes h) w.frames w.frames_follow) ∙ sym w.text_is)

-- ---- and bytes that pass are such frames, joined
record FramesOf (e n left : ℕ) (taken bytes : List ℕ) : Type 0 where
  frames : List (List ℕ)
  number : count frames ≡ left
  follow : Each (SegmentFollows e n) frames
  fresh : Fresh taken frames
  bytes_are : bytes ≡ joined frames
  text_is : frames_text (frame_bytes e) left bytes ≡ lines_text frames

frames_of : (e n left : ℕ) (taken bytes : List ℕ) → frames_ok e n left taken bytes ≡ true → length bytes ≡ frame_bytes e * left
    → FramesOf e n left taken bytes
unfolding frames_text
frames_of e n zero taken bytes h l =
    record { frames = []; number = refl; follow = tt; fresh = tt; bytes_are = no_elements bytes (l ∙ mul-zero (frame_bytes e)); text_is = refl }
frames_of e n (suc left) taken bytes h l =
    let f : List ℕ = take (frame_bytes e) bytes in
    let w = frames_passed e n left taken bytes h in
    let v : FramesOf e n left (taking taken f) (drop (frame_bytes e) bytes) =
    frames_of e n left (taking taken f) (drop (frame_bytes e) bytes) w.others
    (length-drop (frame_bytes e) bytes ∙ omega (arith, l, times_suc (frame_bytes e) left)) in
    record {
      frames = f ∷ v.frames;
      number = ap suc v.number;
      follow = (w.first.follows, v.follow);
      fresh = (w.first.free, v.fresh);
      bytes_are = sym (take-append-drop (frame_bytes e) bytes) ∙ ap (λ (x : List ℕ). f ++ x) v.bytes_are;
      text_is = ap (λ (x : List ℕ). line_text f ++ x) v.text_is;
    }

network_accepted : (bytes : List ℕ) → Bytes bytes → is_network bytes ≡ true → Accepted (text_of bytes) (length bytes) bytes
unfolding text_of
network_accepted bytes b o =
    let w = passed bytes o in
    let v : FramesOf (edition_of bytes) (nodes_of bytes) (segments_of bytes) [] (drop 7 bytes) =
    frames_of (edition_of bytes) (nodes_of bytes) (segments_of bytes) [] (drop 7 bytes) w.frames (length-drop 7 bytes ∙ omega (arith, w.long)) in
    record {
      head = head_of bytes;
      frames = v.frames;
      text_is = ap (λ (x : List ℕ). line_text (head_of bytes) ++ x) v.text_is;
      head_follows = w.head;
      frames_follow = v.follow;
      segment_count = v.number;
      legs = fresh_is_distinct v.frames v.fresh;
      fits = omega (arith, w.long);
      bytes_are = sym (take-append-drop 7 bytes) ∙ ap (λ (x : List ℕ). head_of bytes ++ x) v.bytes_are;
      are_bytes = b;
    }

-- Bytes are a network exactly when some text, read with some room, keeps them.
pub network_exactly : (bytes : List ℕ) → Bytes bytes
    → (is_network bytes ≡ true) ↔ ((text : List ℕ) × (room : ℕ) × (read_of text room ≡ kept bytes))
network_exactly bytes b = (
  λ (o : is_network bytes ≡ true). (text_of bytes, length bytes, accepts (text_of bytes) (length bytes) bytes (network_accepted bytes b o)),
  λ (x : (text : List ℕ) × (room : ℕ) × (read_of text room ≡ kept bytes)). accepted_network x.0 x.1 bytes (accepted x.0 x.1 bytes x.2),
)

-- ---- what Read left in the output
-- an answer that tells so many bytes was an acceptance of that many
pub told_kept : (reading : Reading) (count : ℕ) → written count ≡ told_of reading → (bytes : List ℕ) × (reading ≡ kept bytes) × (count ≡ length bytes)
told_kept (refused number at) count e =
    let z : ◌≡◌ {A = ℕ} 0 1 = cc in
    absurd (omega arith)
told_kept (kept bytes) count e = (bytes, refl, cc)

-- an acceptance has a network at the front of the output
pub kept_front : {text net₀ net : List ℕ} {count : ℕ} {answer : Result ℕ Refused} → answer ≡ Ok count → ReadDid text net₀ net answer
    → (is_network (take count net) ≡ true) × (count ≤ length net) × (read_of text (length net₀) ≡ kept (take count net))
kept_front {text} {net₀} {net} {count} {answer} e D =
    let k = told_kept (read_of text (length net₀)) count (sym (ap told e) ∙ D.answer) in
    let bytes = k.0 in
    let out : net ≡ bytes ++ drop (length bytes) net₀ = D.output ∙ ap (λ (r : Reading). output_of r net₀) k.1 in
    let front : take count net ≡ bytes = rw out (take_at bytes (drop (length bytes) net₀) count (sym k.2)) in (
      rw front (accepted_network text (length net₀) bytes (accepted text (length net₀) bytes k.1)),
      omega (arith, k.2, ap length out, length-append bytes (drop (length bytes) net₀)),
      rw front k.1,
    )

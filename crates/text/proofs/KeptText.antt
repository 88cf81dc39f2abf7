-- A text that is kept, as the second pass meets it: a line of 7 bytes, then S lines of a frame's bytes, and what is kept is what their digits
-- spell. Each test of `read_of` that stands before an acceptance must have passed.
-- Assumes nothing.
use Prim.Native.Nat.{ℕ, zero, suc, ◌+◌, ◌*◌, ◌≤◌}
use mathlib.Core.Bool.{Bool, true, false, cond}
use mathlib.Core.Path.{◌≡◌, refl, sym, ap, ap₂, ◌∙◌}
use mathlib.Core.List.{List, [], ◌++◌, append-nil, append_assoc}
use native.Mathlib.Omega.{arith}
use native.Mathlib.Nat.{mul-zero}
use lib.Dec.{leb}
use lib.ListN.{length, drop, length-append, length-drop}
use borrow.Author.Tests.{leb-true}
use Rattle.lists.specs.Lists.{is_empty}
use Rattle.lists.proofs.Lists.{times_suc}
use Rattle.refusals.specs.Numbers.{number_of}
use Rattle.frames.specs.Edition.{frame_bytes}
use Rattle.frames.specs.Frame.{edition, nodes, segments}
use Rattle.frames.specs.Follows.{HeadFollows}
use Rattle.frames.proofs.EditionLaws.{frame_least}
use Rattle.frames.proofs.FaultLaws.{head_follows}
use Rattle.network.specs.Legs.{taking}
use Rattle.network.specs.Network.{kept_bytes}
use Rattle.network.proofs.FaultLaws.{Faultless, faultless}
use Rattle.digits.specs.Digits.{line_of, bytes_of, rest_of}
use Rattle.digits.specs.Steps.Scan.{spelled}
use Rattle.digits.proofs.DigitLaws.{line_after, line_spells, length_spelled}
use Rattle.text.specs.Read.{Reading, unless_fault, segment_lines, read_of, refused, kept}
use Rattle.text.specs.Told.{told, told_of}
use Rattle.text.specs.Steps.Spelled.{spelled_lines, spelled_text}
use Rattle.std.specs.Prelude.{Ok, Err}
use Rattle.text.specs.declared.Refused.{Refused}
use Rattle.text.proofs.Spelled.{length_spelled_lines}

-- ---- an acceptance passed each test
refused_is_kept : {n l : ℕ} {b : List ℕ} {A : Type 0} → refused n l ≡ kept b → A
refused_is_kept e = let z : ◌≡◌ {A = ℕ} 0 1 = cc in absurd (omega (arith, z))

pub not_first : (x : Bool) (n at : ℕ) (later : Reading) (b : List ℕ) → cond x (refused n at) later ≡ kept b → (x ≡ false) × (later ≡ kept b)
not_first true n at later b e = refused_is_kept e
not_first false n at later b e = (refl, e)

pub not_second : (x : Bool) (n at : ℕ) (first : Reading) (b : List ℕ) → cond x first (refused n at) ≡ kept b → (x ≡ true) × (first ≡ kept b)
not_second true n at first b e = (refl, e)
not_second false n at first b e = refused_is_kept e

pub no_fault_kept : (x at : ℕ) (later : Reading) (b : List ℕ) → unless_fault x at later ≡ kept b → (x ≡ 0) × (later ≡ kept b)
no_fault_kept zero at later b e = (refl, e)
no_fault_kept (suc x) at later b e = refused_is_kept e

pub kept_same : {a b : List ℕ} → kept a ≡ kept b → a ≡ b
kept_same e = cc

-- ---- the lines of the segments
pub record LineKept (e n left at : ℕ) (taken sofar u b : List ℕ) : Type 0 where
  pub good : Faultless e n true taken (bytes_of (line_of u))
  pub spells : bytes_of (line_of u) ≡ spelled (frame_bytes e) u
  pub room : 2 * frame_bytes e + 1 ≤ length u
  pub rest : rest_of (line_of u) ≡ drop (2 * frame_bytes e + 1) u
  pub later : segment_lines e n left (at + 1) (taking taken (bytes_of (line_of u))) (sofar ++ bytes_of (line_of u)) (rest_of (line_of u)) ≡ kept b

pub line_kept : (e n left at : ℕ) (taken sofar u b : List ℕ) → segment_lines e n (suc left) at taken sofar u ≡ kept b
    → LineKept e n left at taken sofar u b
unfolding segment_lines
line_kept e n left at taken sofar u b h =
    let q = not_first (is_empty u) 5 at _ b h in
    let r = no_fault_kept _ at _ b q.1 in
    let g : Faultless e n true taken (bytes_of (line_of u)) = faultless e n true taken (bytes_of (line_of u)) r.0 in
    let v = line_after u (frame_bytes e) (omega (arith, frame_least e)) g.follows.size in
    record {
      good = g;
      spells = line_spells u (frame_bytes e) g.follows.size;
      room = v.0;
      rest = v.1;
      later = r.1;
    }

pub none_left : (e n at : ℕ) (taken sofar u b : List ℕ) → segment_lines e n 0 at taken sofar u ≡ kept b → (is_empty u ≡ true) × (sofar ≡ b)
unfolding segment_lines
none_left e n at taken sofar u b h = let q = not_second (is_empty u) _ at (kept sofar) b h in (q.0, kept_same q.1)

lines_kept : (e n left at : ℕ) (taken sofar u b : List ℕ) → segment_lines e n left at taken sofar u ≡ kept b
    → (b ≡ sofar ++ spelled_lines (frame_bytes e) left u) × ((2 * frame_bytes e + 1) * left ≤ length u)
unfolding spelled_lines
lines_kept e n zero at taken sofar u b h =
    (sym (none_left e n at taken sofar u b h).1 ∙ sym (append-nil sofar), omega (arith, mul-zero (2 * frame_bytes e + 1)))
lines_kept e n (suc left) at taken sofar u b h =
    let w = line_kept e n left at taken sofar u b h in
    let i = lines_kept e n left (at + 1) _ _ _ b w.later in (
      i.0 ∙ append_assoc sofar (bytes_of (line_of u)) _ ∙ ap (λ (x : List ℕ). sofar ++ x) (rw (w.rest, w.spells)),
      omega (arith, i.1, ap length w.rest, length-drop (2 * frame_bytes e + 1) u, w.room, times_suc (2 * frame_bytes e + 1) left),
    )

-- ---- the head
pub record HeadKept (t : List ℕ) (room : ℕ) (b : List ℕ) : Type 0 where
  pub head : List ℕ
  pub head_is : head ≡ bytes_of (line_of t)
  pub follows : HeadFollows head
  pub spells : head ≡ spelled 7 t
  pub room_in : 15 ≤ length t
  pub rest : rest_of (line_of t) ≡ drop 15 t
  pub fits : kept_bytes head ≤ room
  pub later : segment_lines (edition head) (nodes head) (segments head) 2 [] head (rest_of (line_of t)) ≡ kept b

pub head_kept : (t : List ℕ) (room : ℕ) (b : List ℕ) → read_of t room ≡ kept b → HeadKept t room b
unfolding read_of
head_kept t room b f =
    let q = not_first (is_empty t) 3 1 _ b f in
    let r = no_fault_kept _ 1 _ b q.1 in
    let h : List ℕ = bytes_of (line_of t) in
    let w : HeadFollows h = head_follows h r.0 in
    let v = line_after t 7 (omega arith) w.size in
    let p = not_second (leb (kept_bytes h) room) _ 1 _ b r.1 in
    record {
      head = h;
      head_is = refl;
      follows = w;
      spells = line_spells t 7 w.size;
      room_in = v.0;
      rest = v.1;
      fits = leb-true _ _ p.0;
      later = p.1;
    }

-- ---- the text
pub record TextKept (t : List ℕ) (room : ℕ) (b : List ℕ) : Type 0 where
  pub e : ℕ
  pub s : ℕ
  pub e_is : e ≡ edition (spelled 7 t)
  pub s_is : s ≡ segments (spelled 7 t)
  pub fits : 7 + frame_bytes e * s ≤ room
  pub long : 15 + (2 * frame_bytes e + 1) * s ≤ length t
  pub count : length b ≡ 7 + frame_bytes e * s
  pub bytes : b ≡ spelled_text (frame_bytes e) s t

pub text_kept : (t : List ℕ) (room : ℕ) (b : List ℕ) → read_of t room ≡ kept b → TextKept t room b
text_kept t room b f =
    let w = head_kept t room b f in
    let h : List ℕ = w.head in
    let i = lines_kept (edition h) (nodes h) (segments h) 2 [] h (rest_of (line_of t)) b w.later in
    let x : b ≡ spelled_text (frame_bytes (edition h)) (segments h) t =
    i.0 ∙ ap₂ (λ (x v : List ℕ). x ++ spelled_lines (frame_bytes (edition h)) (segments h) v) w.spells w.rest in
    record {
      e = edition h;
      s = segments h;
      e_is = ap edition w.spells;
      s_is = ap segments w.spells;
      fits = w.fits;
      long = omega (arith, i.1, ap length w.rest, length-drop 15 t, w.room_in);
      count = omega (
        arith,
        ap length x,
        length-append (spelled 7 t) (spelled_lines (frame_bytes (edition h)) (segments h) (drop 15 t)),
        length_spelled 7 t,
        length_spelled_lines (frame_bytes (edition h)) (segments h) (drop 15 t),
      );
      bytes = x;
    }

-- ---- which reading an answer told
pub was_refused : (o : Reading) (why : Refused) → told (Err why) ≡ told_of o → o ≡ refused (number_of why.refusal) why.line
was_refused (refused n l) why e = cc
was_refused (kept b) why e = cc

pub was_kept : (o : Reading) (count : ℕ) → told (Ok count) ≡ told_of o → (b : List ℕ) × (o ≡ kept b) × (count ≡ length b)
was_kept (refused n l) count e = cc
was_kept (kept b) count e = (b, refl, cc)

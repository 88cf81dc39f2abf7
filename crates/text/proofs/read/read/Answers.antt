-- A refusal of the first pass is Read's, with nothing written. An acceptance has the shape that the second pass meets (`TextKept`), and what that
-- pass writes are the kept bytes.
use Prim.Native.Nat.{ℕ, ◌+◌, ◌*◌, ◌≤◌}
use mathlib.Core.List.{List, ◌++◌}
use mathlib.Core.Path.{◌≡◌, refl, sym, ap, ◌∙◌, subst₂}
use native.Mathlib.Omega.{arith}
use lib.ListN.{length, drop}
use Rattle.frames.specs.declared.Head.{Head}
use Rattle.frames.specs.Edition.{frame_bytes}
use Rattle.frames.specs.Frame.{edition, segments}
use Rattle.frames.specs.Decoded.{head_fields}
use Rattle.digits.specs.Steps.Scan.{spelled}
use Rattle.text.specs.Read.{Reading, read_of, kept}
use Rattle.text.specs.Told.{told, told_of, written, output_of, ReadDid}
use Rattle.text.specs.Steps.Spelled.{spelled_text}
use Rattle.text.proofs.KeptText.{TextKept, text_kept, was_kept}
use Rattle.std.specs.Prelude.{Ok}
use Rattle.text.proofs.read.read.Goals as goal

record Keeps (t : List ℕ) (room count : ℕ) : Type 0 where
  b : List ℕ
  is : read_of t room ≡ kept b
  long : count ≡ length b
  text : TextKept t room b

keeps : {t : List ℕ} {room count : ℕ} → told (Ok count) ≡ told_of (read_of t room) → Keeps t room count
keeps {t} {room} {count} e =
    let q = was_kept (read_of t room) count e in
    record { b = q.0; is = q.1; long = q.2; text = text_kept t room q.0 q.1 }

module _ {t : List ℕ} {room count : ℕ} (k : Keeps t room count) {h : List ℕ} {size : ℕ} {head : Head}
    (p : h ≡ spelled 7 t) (q : size ≡ frame_bytes head.edition) (r : head ≡ head_fields h) where
  size_is : size ≡ frame_bytes k.text.e
  size_is = q ∙ ap (λ (x : Head). frame_bytes x.edition) r ∙ ap frame_bytes (ap edition p ∙ sym k.text.e_is)

  count_is : head.segments ≡ k.text.s
  count_is = ap (λ (x : Head). x.segments) r ∙ ap segments p ∙ sym k.text.s_is

  rooms : (15 + (2 * size + 1) * head.segments ≤ length t) × (7 + size * head.segments ≤ room)
  rooms =
      subst₂ (λ (i j : ℕ). (15 + (2 * i + 1) * j ≤ length t) × (7 + i * j ≤ room)) (sym size_is) (sym count_is) (k.text.long, k.text.fits)

  writes : {o o' : List ℕ} → length o ≡ room → o' ≡ spelled_text size head.segments t ++ drop (7 + size * head.segments) o → ReadDid t o o' (Ok count)
  writes {o} {o'} l e =
      let g : spelled_text size head.segments t ++ drop (7 + size * head.segments) o ≡ k.b ++ drop (length k.b) o =
      subst₂ (λ (i j : ℕ). spelled_text i j t ++ drop (7 + i * j) o ≡ k.b ++ drop (length k.b) o) (sym size_is) (sym count_is)
      (rw (sym k.text.count) (ap (λ (x : List ℕ). x ++ drop (length k.b) o) (sym k.text.bytes))) in
      let y : read_of t (length o) ≡ kept k.b = ap (read_of t) l ∙ k.is in
      record {
        answer = ap written k.long ∙ ap told_of (sym y);
        output = e ∙ g ∙ ap (λ (x : Reading). output_of x o) (sym y);
      }

pub decode_into-requires : goal.decode_into-requires
decode_into-requires c =
    omega (arith, (keeps (ap told (sym c.in_ok-count.was) ∙ c.judge_text.ensures)).text.long)

pub write_frames-requires : goal.write_frames-requires
write_frames-requires c =
    let kept-here = keeps (ap told (sym c.in_ok-count.was) ∙ c.judge_text.ensures) in
    let r = rooms kept-here c.decode_into.ensures.bytes c.frame_bytes.ensures.is c.head_of-head.ensures in
    (r.0, r.1, c.frame_bytes.ensures.most)

pub returns : goal.returns
returns c =
    let kept-here = keeps (ap told (sym c.in_ok-count.was) ∙ c.judge_text.ensures) in
    writes kept-here c.decode_into.ensures.bytes c.frame_bytes.ensures.is c.head_of-head.ensures refl
    c.write_frames.ensures

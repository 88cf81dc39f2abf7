-- Note 1 holds. What Read told says what `read_of` is; a refusal's line and fault are those of `TextStopped`, and its number is at most 7, so that 14 is an
-- acceptance alone. The part is the front of what is left of the text from that line on.
-- Assumes nothing.
use Prim.Native.Nat.{ℕ, ◌+◌, ◌≤◌}
use mathlib.Core.Path.{◌≡◌, refl, sym, ap, ◌∙◌, subst}
use mathlib.Core.List.{List, [], ◌++◌}
use native.Mathlib.Omega.{arith}
use lib.ListN.{length, take, drop, length-take, length-drop, take-append-drop}
use Rattle.text.specs.Read.{Reading, refused, kept, read_of}
use Rattle.text.specs.Told.{told, told_of, written}
use Rattle.text.proofs.ReadTheorems.{told_kept}
use Rattle.cursor.specs.declared.Cursor.{Cursor}
use Rattle.cursor.specs.Lines.{first_line, from_line, NoEnd, ended, IsLine}
use Rattle.cursor.specs.Cursor.{cursor_of, cursor_at}
use Rattle.cursor.specs.NoteOne.{LineCall, ReadCall, OfRefusal, OfAcceptance, NoteOne}
use Rattle.cursor.proofs.LineLaws.{take_first, first_ends, first_no_end}
use Rattle.cursor.proofs.FirstFaulty.{TextStopped, text_stops}
use Rattle.cursor.proofs.CursorLaws.{cursor_of_lem, told_refused, starts, from_start, cursor_inside}
use Rattle.cursor.proofs.OneLine.{one_line}

module _ {text : List ℕ} {room : ℕ} (read : ReadCall text room) where
  pub tells : told read.answer ≡ told_of (read_of text room)
  tells = read.returned.answer ∙ ap (λ (n : ℕ). told_of (read_of text n)) read.of_room

-- ---- what the call gave back, by the definition
module _ {text : List ℕ} {room : ℕ} (call : LineCall text room) where
  number_is : call.number ≡ (cursor_of text room).number
  number_is = call.returned.number_is ∙ ap (λ (t : List ℕ). (cursor_of t room).number) call.of_this

  part_is : call.part.now ≡ take (cursor_of text room).length (drop (cursor_of text room).start text)
  part_is = call.returned.bytes ∙ ap (λ (t : List ℕ). take (cursor_of t room).length (drop (cursor_of t room).start t)) call.of_this

  begins : call.part.ref_ptr.1 ≡ call.lent.ref_ptr.1 + (cursor_of text room).start
  begins = call.returned.begins ∙ ap (λ (t : List ℕ). call.lent.ref_ptr.1 + (cursor_of t room).start) call.of_this

  -- ---- where Read refuses
  module _ {number k : ℕ} (e : read_of text room ≡ refused number k) where
    stopped : TextStopped text room number k
    stopped = text_stops text room e

    cursor_is : cursor_of text room ≡ cursor_at text (refused number k)
    cursor_is = cursor_of_lem text room e

    line_is : call.part.now ≡ first_line (from_line k text)
    line_is =
        part_is ∙ ap (λ (c : Cursor). take c.length (drop c.start text)) cursor_is
        ∙ ap (λ (u : List ℕ). take (length (first_line (from_line k text))) u) (from_start text k stopped.behind) ∙ take_first (from_line k text)

    start_is : (cursor_of text room).start ≡ length (ended stopped.behind.before)
    start_is = ap (λ (c : Cursor). c.start) cursor_is ∙ starts text k stopped.behind

    the_line : IsLine text k (cursor_of text room).start call.part.now
    the_line =
        let u = from_line k text in
        let n = length (first_line u) in
        let parts : u ≡ call.part.now ++ drop n u =
        sym (take-append-drop n u) ∙ ap (λ (x : List ℕ). x ++ drop n u) (take_first u ∙ sym line_is) in
        record {
          before = stopped.behind.before;
          after = drop n u;
          text_is = stopped.behind.text_is ∙ ap (λ (x : List ℕ). ended stopped.behind.before ++ x) parts;
          counted = omega (arith, stopped.behind.counted, stopped.whole_before.first);
          begins = start_is;
          ended_before = stopped.behind.ended_before;
          no_end = subst NoEnd (sym line_is) (first_no_end u);
          ends = first_ends u;
        }

    no_line : from_line k text ≡ [] → (call.part.now ≡ []) × ((cursor_of text room).start ≡ length text)
    unfolding first_line
    no_line z = (line_is ∙ ap first_line z, ap (λ (c : Cursor). c.start) cursor_is ∙ omega (arith, ap length z))

    of_refusal : OfRefusal call number k
    of_refusal =
        record {
          same_number = number_is ∙ ap (λ (c : Cursor). c.number) cursor_is;
          the_line = the_line;
          first_faulty = stopped.faulty;
          head_line = stopped.head_line;
          no_line = no_line;
        }

  -- ---- where Read accepts
  module _ {bytes : List ℕ} (e : read_of text room ≡ kept bytes) where
    cursor_at_end : cursor_of text room ≡ cursor_at text (kept bytes)
    cursor_at_end = cursor_of_lem text room e

    of_acceptance : OfAcceptance call
    of_acceptance =
        record {
          fourteen = number_is ∙ ap (λ (c : Cursor). c.number) cursor_at_end;
          empty = part_is ∙ ap (λ (c : Cursor). take c.length (drop c.start text)) cursor_at_end;
          at_end = ap (λ (c : Cursor). c.start) cursor_at_end;
        }

  inside : (cursor_of text room).start + length call.part.now ≤ length text
  inside =
      let start = (cursor_of text room).start in
      omega (arith, cursor_inside text room, ap length part_is, length-take (cursor_of text room).length (drop start text), length-drop start text)

  fourteen : (read : ReadCall text room) → call.number ≡ 14 → (count : ℕ) × (told read.answer ≡ written count)
  fourteen read n = go (read_of text room) refl
    where
      go : (r : Reading) → read_of text room ≡ r → (count : ℕ) × (told read.answer ≡ written count)
      go (refused number k) e = absurd (omega (arith, n, (of_refusal e).same_number, (stopped e).most))
      go (kept bytes) e = (length bytes, tells read ∙ ap told_of e)

pub note_one : NoteOne
note_one =
    record {
      refused = λ call read e. of_refusal call (told_refused _ (sym e ∙ tells read));
      accepted = λ call read e. of_acceptance call (told_kept _ _ (sym e ∙ tells read)).1;
      fourteen_exactly = λ call read. (
        fourteen call read,
        λ (x : (count : ℕ) × (told read.answer ≡ written count)). (of_acceptance call (told_kept _ _ (sym x.1 ∙ tells read)).1).fourteen,
      );
      one_line = λ w v. one_line w v;
      own_text = λ call. (call.returned.of_text, begins call);
      inside = λ call. inside call;
    }

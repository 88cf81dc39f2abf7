-- An acceptance of the first pass is 14 at the text's end. A refusal is of a line that begins after whole lines, and its length is searched from there: the
-- three numbers are the definition's.
use Rattle.std.proofs.Common.{ℕ, ◌≡◌, sym, ap, ◌∙◌, ◌-◌, List, length, take, drop, Ok, Err}
use Rattle.std.proofs.lemmas.List.{take_rest}
use Rattle.refusals.specs.declared.Refusal.TheVariants.{NoRefusedLine}
use Rattle.refusals.specs.Numbers.{number_of}
use Rattle.text.specs.declared.Refused.{Refused}
use Rattle.text.specs.Read.{read_of}
use Rattle.text.specs.Told.{told, told_of}
use Rattle.text.proofs.ReadTheorems.{told_kept}
use Rattle.cursor.specs.Lines.{first_line, line_start}
use Rattle.cursor.specs.Cursor.{cursor_with, cursor_of}
use Rattle.cursor.specs.Steps.Places.{WholeBefore, Begins}
use Rattle.cursor.proofs.FirstFaulty.{text_stops}
use Rattle.cursor.proofs.CursorLaws.{cursor_of_lem, told_refused}
use Rattle.cursor.proofs.locate.Goals as goal

accepts : (t : List ℕ) (room : ℕ) {count number : ℕ} → told (Ok count) ≡ told_of (read_of t room) → number ≡ number_of NoRefusedLine
    → cursor_with number (length t) 0 ≡ cursor_of t room
accepts t room {count} e n =
    ap (λ (x : ℕ). cursor_with x (length t) 0) n ∙ sym (cursor_of_lem t room (told_kept (read_of t room) count e).1)

module _ (t : List ℕ) (room : ℕ) (why : Refused) (e : told (Err why) ≡ told_of (read_of t room)) where
  whole_before : WholeBefore t why.line
  whole_before = (text_stops t room (told_refused (read_of t room) e)).whole_before

  refuses : {number start size : ℕ} → number ≡ number_of why.refusal → Begins t why.line start → size ≡ length (first_line (take (length t - start) (drop start t)))
      → cursor_with number start size ≡ cursor_of t room
  refuses {number} {start} {size} n w l =
      ap (λ (x : ℕ). cursor_with x start size) n ∙ ap (λ (x : ℕ). cursor_with (number_of why.refusal) x size) w.is
      ∙ ap (cursor_with (number_of why.refusal) (line_start why.line t)) (l ∙ ap (λ (u : List ℕ). length (first_line u)) (take_rest t start ∙ w.rest))
      ∙ sym (cursor_of_lem t room (told_refused (read_of t room) e))

pub line_start-start-requires : goal.line_start-start-requires
line_start-start-requires c = whole_before _ _ _ (ap told (sym c.in-Err.is) ∙ c.judge_text.ensures)

pub returns-in-Ok : goal.returns-in-Ok
returns-in-Ok c = accepts _ _ (ap told (sym c.in-Ok.is) ∙ c.judge_text.ensures) c.from.ensures

pub returns-in-Err : goal.returns-in-Err
returns-in-Err c =
    refuses _ _ _ (ap told (sym c.in-Err.is) ∙ c.judge_text.ensures) c.from-in-Err.ensures c.line_start-start.ensures c.line_length.ensures

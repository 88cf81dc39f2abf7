-- Where the part begins and ends, by what Read says. The bytes before a refused line are the lines before it with their 0A; the part is at the front of
-- what is left from there on, so that it ends inside the text.
-- Assumes nothing.
use Prim.Native.Nat.{ℕ, ◌+◌, ◌-◌, ◌≤◌}
use mathlib.Core.Path.{◌≡◌, refl, ap, ◌∙◌}
use mathlib.Core.List.{List}
use native.Mathlib.Omega.{arith}
use lib.ListN.{length, drop, length-append}
use lib.Seq.{drop_at}
use Rattle.text.specs.Read.{Reading, refused, kept, read_of}
use Rattle.text.specs.Told.{told_of, refusal}
use Rattle.cursor.specs.declared.Cursor.{Cursor}
use Rattle.cursor.specs.Lines.{first_line, from_line, line_start, ended}
use Rattle.cursor.specs.Cursor.{cursor_at, cursor_of}
use Rattle.cursor.proofs.LineLaws.{first_inside}
use Rattle.cursor.proofs.FirstFaulty.{Behind, text_stops}

-- which reading was told
pub told_refused : (reading : Reading) {number k : ℕ} → refusal number k ≡ told_of reading → reading ≡ refused number k
told_refused (refused x l) e = cc
told_refused (kept bytes) e = cc

module _ (t : List ℕ) (k : ℕ) (w : Behind t (from_line k t) (k - 1)) where
  pub starts : line_start k t ≡ length (ended w.before)
  starts = omega (arith, ap length w.text_is, length-append (ended w.before) (from_line k t))

  pub from_start : drop (line_start k t) t ≡ from_line k t
  from_start =
      ap (λ (n : ℕ). drop n t) starts ∙ ap (λ (x : List ℕ). drop (length (ended w.before)) x) w.text_is
      ∙ drop_at (ended w.before) (from_line k t) (length (ended w.before)) refl

  line_inside : line_start k t + length (first_line (from_line k t)) ≤ length t
  line_inside = omega (arith, starts, first_inside (from_line k t), ap length w.text_is, length-append (ended w.before) (from_line k t))

pub cursor_of_lem : (t : List ℕ) (room : ℕ) {reading : Reading} → read_of t room ≡ reading → cursor_of t room ≡ cursor_at t reading
unfolding cursor_of
cursor_of_lem t room e = ap (cursor_at t) e

pub cursor_inside : (t : List ℕ) (room : ℕ) → (cursor_of t room).start + (cursor_of t room).length ≤ length t
cursor_inside t room = go (read_of t room) refl
  where
    go : (reading : Reading) → read_of t room ≡ reading → (cursor_of t room).start + (cursor_of t room).length ≤ length t
    go (refused number k) e =
        let c = cursor_of_lem t room e in
        omega (arith, line_inside t k (text_stops t room e).behind, ap (λ (x : Cursor). x.start) c, ap (λ (x : Cursor). x.length) c)
    go (kept bytes) e = let c = cursor_of_lem t room e in omega (arith, ap (λ (x : Cursor). x.start) c, ap (λ (x : Cursor). x.length) c)

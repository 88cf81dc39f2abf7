-- What Read's answer tells: the paper's number and values for every case of it.
-- Assumes nothing.
use Rattle.std.specs.Prelude.{ℕ, ◌≡◌, List, ◌++◌, length, drop, Result, Ok, Err}
use Rattle.refusals.specs.declared.Refusal.{Refusal}
use Rattle.refusals.specs.Numbers.{number_of}
use Rattle.text.specs.declared.Refused.{Refused}
use Rattle.text.specs.Read.{Reading, read_of, refused, kept}

-- A refusal of this line.
abbrev pub refused_at : Refusal → ℕ → Refused
refused_at why at = record { refusal = why; line = at }

-- A refusal tells number and line; an acceptance tells the bytes written.
pub data ReadTold : Type 0 where
  refusal : ℕ → ℕ → ReadTold
  written : ℕ → ReadTold

abbrev pub told : Result ℕ Refused → ReadTold
told (Err why) = refusal (number_of why.refusal) why.line
told (Ok count) = written count

abbrev pub told_of : Reading → ReadTold
told_of (refused number at) = refusal number at
told_of (kept bytes) = written (length bytes)

-- The output after it: untouched by a refusal; the kept bytes at its front on acceptance, and later bytes stay.
abbrev pub output_of : Reading → List ℕ → List ℕ
output_of (refused number at) before = before
output_of (kept bytes) before = bytes ++ drop (length bytes) before

-- What Read promises for every text and every lent output.
pub record ReadDid (text before after : List ℕ) (r : Result ℕ Refused) : Type 0 where
  pub answer : told r ≡ told_of (read_of text (length before))
  pub output : after ≡ output_of (read_of text (length before)) before

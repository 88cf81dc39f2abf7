-- The first place that has 0A, or else the text's end, is where its first line ends.
use Rattle.std.proofs.Common.{ℕ, zero, suc, ◌≤◌, ◌<◌, ◌≡◌, refl, ap, ◌∙◌, List, [], ◌∷◌, length, Option, None, Some, nat_eq, arith}
use Rattle.std.specs.Prelude.{unwrap_or}
use Rattle.std.proofs.lemmas.Bool.{false_from_ne_true}
use Rattle.memchr.specs.Find.{Passes, IsFirstByte, is_byte}
use Rattle.cursor.specs.Lines.{first_line}
use Rattle.cursor.proofs.line_length.Goals as goal

-- a place before which no byte is 0A, and that has one or is the text's end, is where the first line ends
line_before : (u : List ℕ) (k : ℕ) → k ≤ length u → ((j : ℕ) → j < k → ¬ Passes (is_byte 10) u j) → (k < length u → Passes (is_byte 10) u k)
    → k ≡ length (first_line u)
unfolding first_line
line_before [] k inside none here = omega arith
line_before (x ∷ u) zero inside none here = rw (here (omega arith)) refl
line_before (x ∷ u) (suc k) inside none here =
    rw (false_from_ne_true (nat_eq x 10) (none 0 (omega arith)))
    (ap suc (line_before u k (omega arith) (λ j l. none (suc j) (omega arith)) (λ l. here (omega arith))))

line_found : (u : List ℕ) (r : Option ℕ) → IsFirstByte (is_byte 10) u r → unwrap_or r (length u) ≡ length (first_line u)
line_found u None none = line_before u (length u) (omega arith) (λ j l. none j (omega arith) l) (λ l. absurd (omega arith))
line_found u (Some k) first =
    line_before u k (omega (arith, first.0.high)) (λ j l. first.0.before j (omega arith) l) (λ _. first.1)

pub returns : goal.returns
returns c = c.unwrap_or.ensures ∙ line_found _ _ c.memchr.ensures

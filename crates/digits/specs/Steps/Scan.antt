-- What scanning a line answers, and the bytes that the digits at the front of a text spell.
-- Assumes nothing.
use Rattle.std.specs.Prelude.{ℕ, zero, suc, ◌+◌, ◌*◌, ◌%◌, Bool, true, ◌&&◌, ◌≡◌, List, [], ◌∷◌, length, get_or, drop, Option, Some, None}
use Rattle.frames.specs.Frame.{total}
use Rattle.digits.specs.declared.Scanned.{Scanned}
use Rattle.digits.specs.Digits.{is_digit, line, digit, Line, broken}

-- The answer for a line that so many bytes with this sum stood before.
unfoldable pub scanned : ℕ → ℕ → Line → Option Scanned
scanned count sum broken = None
scanned count sum (line bytes rest) = Some (record { count = count + length bytes; sum = (sum + total bytes) % 256 })

-- The first n bytes that the digits of a text spell, two digits for a byte.
unfoldable pub spelled : ℕ → List ℕ → List ℕ
spelled zero text = []
spelled (suc n) text = (16 * digit (get_or text 0 0) + digit (get_or text 1 0)) ∷ spelled n (drop 2 text)

-- The first n bytes of a text are digits.
unfoldable pub are_digits : ℕ → List ℕ → Bool
are_digits zero text = true
are_digits (suc n) text = is_digit (get_or text 0 0) && are_digits n (drop 1 text)

-- n numbers made from a list: each from the front of what is left of it, of which so many elements are then passed over.
unfoldable pub made : (List ℕ → ℕ) → ℕ → ℕ → List ℕ → List ℕ
made front step zero list = []
made front step (suc n) list = front list ∷ made front step n (drop step list)

-- The values of the first n digits of a text.
abbrev pub value_at : List ℕ → ℕ
value_at text = digit (get_or text 0 0)

abbrev pub values_of : ℕ → List ℕ → List ℕ
values_of n text = made value_at 1 n text

-- The first n pairs of values, joined to bytes.
abbrev pub pair_at : List ℕ → ℕ
pair_at values = 16 * get_or values 0 0 + get_or values 1 0

abbrev pub paired : ℕ → List ℕ → List ℕ
paired n values = made pair_at 2 n values

-- Values filled from the front of a text, and whether all are digits.
pub record Valued (n : ℕ) (text after : List ℕ) (r : Bool) : Type 0 where
  pub values : after ≡ values_of n text
  pub digits : r ≡ are_digits n text

-- Bytes filled from the front of a text, two digits for a byte, and whether all are digits.
pub record Decoding (n : ℕ) (text after : List ℕ) (r : Bool) : Type 0 where
  pub bytes : after ≡ spelled n text
  pub digits : r ≡ are_digits (2 * n) text

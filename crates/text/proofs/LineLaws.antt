-- What a line's answer tells; which lines have another number of bytes than they should; and the laws that decide at each step of Read.
-- Assumes nothing.
use Prim.Native.Nat.{ℕ, ◌*◌, ◌≤◌, ◌<◌}
use mathlib.Core.Bool.{Bool, true, false}
use mathlib.Core.Path.{◌≡◌, refl, sym, ◌∙◌, subst}
use mathlib.Core.List.{List}
use lib.Dec.{eqb}
use lib.ListN.{length, get_or}
use native.Mathlib.Omega.{arith}
use borrow.Author.Tests.{ne_eqb, eqb-true, eqb-false}
use Rattle.lists.specs.Lists.{is_empty}
use Rattle.lists.proofs.Lists.{length_of_none, length_of_some}
use Rattle.refusals.specs.declared.Refusal.{Refusal}
use Rattle.refusals.specs.Numbers.{number_of}
use Rattle.refusals.proofs.Positive.{positive}
use Rattle.frames.proofs.EditionLaws.{frame_least, frame_most}
use Rattle.frames.proofs.FrameLaws.{empty_fault, check_fault, size_fault, kind_fault, no_fault, framed_has, framed_good, framed_bad, end_limits}
use Rattle.digits.proofs.DigitLaws.{length_spelled, whole_line, line_after, line_digits, scan_tells, scan_breaks}
use Rattle.std.proofs.lemmas.Bool.Decides.{nat_tests}
use Rattle.std.specs.Prelude.{Result, Ok, Err, MatchResult, ⊤}
use Rattle.std.specs.Result.{IsErrAnd}
use Rattle.std.proofs.lemmas.Result.{err_from_is_err_and}
use Rattle.text.specs.declared.Refused.{Refused}
use Rattle.text.specs.Steps.Lines.{line_bytes, Tells}

-- whether a text is empty, as the code finds out
module _ (t : List ℕ) {b : Bool} (e : b ≡ eqb (length t) 0) where
  pub no_text : b ≡ true → is_empty t ≡ true
  no_text f = length_of_none t (eqb-true _ _ (sym e ∙ f))

  pub some_text : b ≡ false → is_empty t ≡ false
  some_text f = length_of_some t (eqb-false _ _ (sym e ∙ f))

-- what an answer tells of the fault's number
pub tells_frame : (number : ℕ) {x : ⊤} {r : Result ⊤ Refusal} → Tells number r → r ≡ Ok x → number ≡ 0
tells_frame number h e = subst (λ (y : Result ⊤ Refusal). Tells number y) e h

pub tells_fault : (number : ℕ) {fault : Refusal} {r : Result ⊤ Refusal} → Tells number r → r ≡ Err fault → number ≡ number_of fault
tells_fault number h e = subst (λ (y : Result ⊤ Refusal). Tells number y) e h

err_same : {x y : Refused} → ◌≡◌ {A = Result ⊤ Refused} (Err x) (Err y) → x ≡ y
err_same e = cc

-- where the refusal of an answer is changed to another, and no more
module _ (r : Result ⊤ Refusal) (m : Result ⊤ Refused) (Q : Refusal → Refused → Type 0) (h : MatchResult r (λ x. m ≡ Ok x) (λ e. IsErrAnd m (Q e))) where
  pub was_ok : {done : ⊤} → m ≡ Ok done → r ≡ Ok done
  was_ok {done} e = go r h
    where
      go : (x : Result ⊤ Refusal) → MatchResult x (λ y. m ≡ Ok y) (λ y. IsErrAnd m (Q y)) → x ≡ Ok done
      go (Ok x) c = cc
      go (Err f) c = let p = err_from_is_err_and m c in let q = p.1 in cc

  pub was_err : {why : Refused} → m ≡ Err why → (fault : Refusal) × (r ≡ Err fault) × Q fault why
  was_err {why} e = go r refl h
    where
      go : (x : Result ⊤ Refusal) → r ≡ x → MatchResult x (λ y. m ≡ Ok y) (λ y. IsErrAnd m (Q y)) → (fault : Refusal) × (r ≡ Err fault) × Q fault why
      go (Ok x) i c = cc
      go (Err f) i c =
          let p = err_from_is_err_and m c in
          let q : p.0 ≡ why = err_same (sym p.1 ∙ e) in
          (f, i, subst (Q f) q p.2)

-- a line has another number of bytes where the text is too short for so many, or no 0A stands after them
module _ (t : List ℕ) (n : ℕ) (z : 0 < n) where
  pub too_short : length t ≤ 2 * n → eqb (length (line_bytes t)) n ≡ false
  too_short h = ne_eqb _ _ (λ e. omega (arith, (line_after t n z e).0))

  pub no_end : (get_or t (2 * n) 0 ≡ 10 → ⊥) → eqb (length (line_bytes t)) n ≡ false
  no_end h = ne_eqb _ _ (λ e. h (line_digits t n z e).1)

-- ---- what decides at each step of Read
pub ruleset line_decoded = (too_short, no_end, length_spelled, whole_line, line_digits)

pub ruleset fault_told = (empty_fault, check_fault, size_fault, scan_tells, scan_breaks)

pub ruleset frame_read = (check_fault, kind_fault, no_fault)

pub ruleset line_judged = (frame_least, frame_most, positive, framed_bad)

pub ruleset frame_judged = (frame_least, framed_has, framed_good, end_limits, positive, nat_tests)

-- A head with no fault follows the rules, and one that follows them has no fault: each test of `head_fault` in turn. And a frame with its check, its kind
-- and its length has none of the faults that every frame may have.
-- Assumes nothing.
use Prim.Native.Nat.{ℕ}
use mathlib.Core.Bool.{Bool, true, false, ◌&&◌}
use mathlib.Core.Path.{◌≡◌, refl, sym, ap, ◌∙◌}
use mathlib.Core.List.{List, [], ◌∷◌}
use native.Mathlib.Omega.{arith}
use lib.Dec.{eqb}
use lib.ListN.{length}
use borrow.Author.Tests.{eq-eqb}
use Rattle.refusals.specs.declared.Refusal.TheVariants.{WrongField}
use Rattle.refusals.specs.Numbers.{unless}
use Rattle.frames.specs.Frame.{byte, check_ok}
use Rattle.frames.specs.Ranges.{head_ok}
use Rattle.frames.specs.Faults.{framed, head_fault}
use Rattle.frames.specs.Follows.{HeadFollows}
use Rattle.frames.proofs.FrameLaws.{Framed, framed_has, framed_and}

-- ---- frames of the right kind and length
pub framed_is : (kind n : ℕ) (f : List ℕ) (later : ℕ) → (length f ≡ 0 → ⊥) → check_ok f ≡ true → byte f 0 ≡ kind → length f ≡ n → later ≡ 0
    → framed kind n f later ≡ 0
unfolding framed
framed_is kind n [] later s c k l z = absurd (s refl)
framed_is kind n (x ∷ f) later s c k l z = rw (c, eq-eqb x kind k, eq-eqb (length (x ∷ f)) n l) z

-- ---- heads
unless_head : (a : Bool) → eqb (unless a WrongField 0) 0 ≡ a
unless_head true = refl
unless_head false = refl

pub head_and : (h : List ℕ) → eqb (head_fault h) 0 ≡ (eqb (framed 1 7 h 0) 0 && head_ok h)
unfolding head_fault
head_and h = framed_and 1 7 _ h ∙ ap (λ (x : Bool). eqb (framed 1 7 h 0) 0 && x) (unless_head (head_ok h))

pub head_follows : (h : List ℕ) → head_fault h ≡ 0 → HeadFollows h
unfolding head_fault
head_follows h e =
    let w : Framed 1 7 h (unless (head_ok h) WrongField 0) = framed_has 1 7 h _ e in
    record { check = w.check; kind = w.kind_is; size = w.long; fields = sym (unless_head (head_ok h)) ∙ eq-eqb _ 0 w.none }

pub head_no_fault : (h : List ℕ) → HeadFollows h → head_fault h ≡ 0
unfolding head_fault
head_no_fault h w = framed_is 1 7 h _ (λ z. omega (arith, w.size)) w.check w.kind w.size (rw w.fields)

-- Which test of `line_fault` fails first decides. A segment's frame with no fault follows the rules, is one that S allows and has its legs free; and one
-- that has all this has no fault: each test in turn.
-- Assumes nothing.
use Prim.Native.Nat.{ℕ}
use mathlib.Core.Bool.{Bool, true, false, ◌&&◌}
use mathlib.Core.Path.{◌≡◌, refl, ap, ◌∙◌}
use mathlib.Core.List.{List}
use native.Mathlib.Omega.{arith}
use lib.Dec.{eqb}
use Rattle.refusals.specs.declared.Refusal.TheVariants.{WrongField, LegTaken, WrongCount}
use Rattle.refusals.specs.Numbers.{number_of}
use Rattle.frames.specs.Edition.{frame_bytes}
use Rattle.frames.specs.Ranges.{ends_ok, street_ok}
use Rattle.frames.specs.Faults.{framed}
use Rattle.frames.specs.Follows.{SegmentFollows}
use Rattle.frames.proofs.EditionLaws.{frame_least}
use Rattle.frames.proofs.FrameLaws.{Framed, framed_has, framed_good, framed_and}
use Rattle.frames.proofs.FaultLaws.{framed_is}
use Rattle.network.specs.Legs.{legs_free}
use Rattle.network.specs.Faults.{segment_tests, line_fault, segment_fault}

-- ---- which test fails first, in a frame with no fault of those that every frame may have
module _ (e n : ℕ) (f : List ℕ) (w : framed 2 (frame_bytes e) f 0 ≡ 0) where
  pub beyond_fault : (free : Bool) → line_fault e n false free f ≡ number_of WrongCount
  beyond_fault free = framed_good 2 (frame_bytes e) _ f w

  pub field_fault : (free : Bool) → (ends_ok n f && street_ok e f) ≡ false → line_fault e n true free f ≡ number_of WrongField
  field_fault free o = framed_good 2 (frame_bytes e) _ f w ∙ rw o

  module _ (o : (ends_ok n f && street_ok e f) ≡ true) where
    pub leg_fault : line_fault e n true false f ≡ number_of LegTaken
    leg_fault = framed_good 2 (frame_bytes e) _ f w ∙ rw o

    pub no_fault : line_fault e n true true f ≡ 0
    no_fault = framed_good 2 (frame_bytes e) _ f w ∙ rw o

-- ---- no fault
pub unless_and : (a b : Bool) → eqb (segment_tests true a b) 0 ≡ (a && b)
unless_and false b = refl
unless_and true false = refl
unless_and true true = refl

-- a segment that S allows has no fault exactly where each test holds
pub line_and : (e n : ℕ) (free : Bool) (f : List ℕ)
    → eqb (line_fault e n true free f) 0 ≡ (eqb (framed 2 (frame_bytes e) f 0) 0 && (ends_ok n f && street_ok e f && free))
line_and e n free f =
    framed_and 2 (frame_bytes e) _ f ∙ ap (λ (x : Bool). eqb (framed 2 (frame_bytes e) f 0) 0 && x) (unless_and (ends_ok n f && street_ok e f) free)

pub record Faultless (e n : ℕ) (more : Bool) (taken f : List ℕ) : Type 0 where
  pub follows : SegmentFollows e n f
  pub counted : more ≡ true
  pub free : legs_free taken f ≡ true

pub faultless : (e n : ℕ) (more : Bool) (taken f : List ℕ) → segment_fault e n more taken f ≡ 0 → Faultless e n more taken f
unfolding segment_fault
faultless e n more taken f z =
    let w = framed_has 2 (frame_bytes e) f _ z in
    go w more refl (ends_ok n f) refl (street_ok e f) refl (legs_free taken f) refl w.none
  where
    go : {later : ℕ} → Framed 2 (frame_bytes e) f later → (m : Bool) → more ≡ m → (a : Bool) → ends_ok n f ≡ a → (b : Bool) → street_ok e f ≡ b
        → (d : Bool) → legs_free taken f ≡ d → segment_tests m (a && b) d ≡ 0 → Faultless e n more taken f
    go w false p a q b r d s z = absurd (omega arith)
    go w true p false q b r d s z = absurd (omega arith)
    go w true p true q false r d s z = absurd (omega arith)
    go w true p true q true r false s z = absurd (omega arith)
    go w true p true q true r true s z =
        record {
          follows = record { check = w.check; kind = w.kind_is; size = w.long; ends = q; street = r };
          counted = p;
          free = s;
        }

pub segment_no_fault : (e n : ℕ) (taken f : List ℕ) → SegmentFollows e n f → legs_free taken f ≡ true → segment_fault e n true taken f ≡ 0
unfolding segment_fault
segment_no_fault e n taken f w l =
    framed_is 2 (frame_bytes e) f _ (λ z. omega (arith, w.size, frame_least e)) w.check w.kind w.size (rw (w.ends, w.street, l))

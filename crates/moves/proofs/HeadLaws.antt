-- A head as another edition has it: what the code writes of it; it follows the rules where its counts are within the edition's limits; and moved back it is
-- the head that it was.
-- Assumes nothing.
use Prim.Native.Nat.{ℕ, ◌+◌, ◌-◌, ◌%◌, ◌≤◌, ◌<◌}
use mathlib.Core.Bool.{true}
use mathlib.Core.Path.{◌≡◌, refl, sym, ap}
use mathlib.Core.List.{List, [], ◌∷◌}
use native.Mathlib.Omega.{arith}
use borrow.Author.Tests.{eq-eqb, eqb-true}
use lib.ListN.{length, take, get_or, set}
use Rattle.std.proofs.lemmas.Bool.Decides.{nat_tests}
use Rattle.frames.specs.Edition.{edition_ok, most_nodes, most_segments}
use Rattle.frames.specs.Frame.{byte, total, check_ok, edition, nodes, segments}
use Rattle.frames.specs.Ranges.{head_ok}
use Rattle.frames.specs.Follows.{HeadFollows}
use Rattle.moves.specs.Moved.{head_in}

pub head_written : (h : List ℕ) (d : ℕ) → 7 ≤ length h
    → set (set (take 7 h) 1 d) 6 (((get_or h 6 0 + get_or h 1 0) % 256 + (256 - d)) % 256) ≡ head_in d h
unfolding head_in
head_written [] d l = absurd (omega arith)
head_written (a ∷ []) d l = absurd (omega arith)
head_written (a ∷ b ∷ []) d l = absurd (omega arith)
head_written (a ∷ b ∷ x ∷ []) d l = absurd (omega arith)
head_written (a ∷ b ∷ x ∷ y ∷ []) d l = absurd (omega arith)
head_written (a ∷ b ∷ x ∷ y ∷ z ∷ []) d l = absurd (omega arith)
head_written (a ∷ b ∷ x ∷ y ∷ z ∷ v ∷ []) d l = absurd (omega arith)
head_written (a ∷ b ∷ x ∷ y ∷ z ∷ v ∷ w ∷ rest) d l =
    let e : ((w + b) % 256 + (256 - d)) % 256 ≡ (w + b + (256 - d)) % 256 = omega arith in rw e refl

-- a head is its seven bytes
seven : (h : List ℕ) → length h ≡ 7 → h ≡ byte h 0 ∷ byte h 1 ∷ byte h 2 ∷ byte h 3 ∷ byte h 4 ∷ byte h 5 ∷ byte h 6 ∷ []
seven [] l = absurd (omega arith)
seven (a ∷ []) l = absurd (omega arith)
seven (a ∷ b ∷ []) l = absurd (omega arith)
seven (a ∷ b ∷ x ∷ []) l = absurd (omega arith)
seven (a ∷ b ∷ x ∷ y ∷ []) l = absurd (omega arith)
seven (a ∷ b ∷ x ∷ y ∷ z ∷ []) l = absurd (omega arith)
seven (a ∷ b ∷ x ∷ y ∷ z ∷ v ∷ []) l = absurd (omega arith)
seven (a ∷ b ∷ x ∷ y ∷ z ∷ v ∷ w ∷ []) l = refl
seven (a ∷ b ∷ x ∷ y ∷ z ∷ v ∷ w ∷ u ∷ rest) l = absurd (omega arith)

pub edition_small : (d : ℕ) → edition_ok d ≡ true → d ≤ 3
unfolding edition_ok
edition_small d h = grind (arith, nat_tests)

module _ (d : ℕ) (h : List ℕ) where
  pub head_long : length (head_in d h) ≡ 7
  unfolding head_in
  head_long = refl

  -- it says the new edition, and the same counts
  pub says_edition : edition (head_in d h) ≡ d
  unfolding head_in
  says_edition = refl

  pub says_nodes : nodes (head_in d h) ≡ nodes h
  unfolding head_in
  says_nodes = refl

  pub says_segments : segments (head_in d h) ≡ segments h
  unfolding head_in
  says_segments = refl

  pub head_follows_too : HeadFollows h → edition_ok d ≡ true → nodes h ≤ most_nodes d → segments h ≤ most_segments d → HeadFollows (head_in d h)
  unfolding head_in head_ok check_ok total
  head_follows_too H exists few_nodes few_segments =
      let all = ap total (seven h H.size) in
      let sum : total h % 256 ≡ 0 = eqb-true _ _ H.check in
      record {
        check = eq-eqb _ 0 (omega (arith, all, sum, edition_small d exists));
        kind = H.kind;
        size = refl;
        fields = let fields = H.fields in grind (arith, nat_tests, fields, exists, few_nodes, few_segments);
      }

-- and back again
pub head_back : (d : ℕ) (h : List ℕ) → length h ≡ 7 → byte h 6 < 256 → edition h ≤ 256 → d ≤ 256 → head_in (edition h) (head_in d h) ≡ h
unfolding head_in
head_back d h size small p q =
    let check : ((byte h 6 + edition h + (256 - d)) % 256 + d + (256 - edition h)) % 256 ≡ byte h 6 = omega (arith, small, p, q) in
    rw check (sym (seven h size))

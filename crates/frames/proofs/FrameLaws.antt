-- The tests that every frame has in common, and what they leave: a number decides which test failed first, and a frame with no fault has its kind,
-- its length and its check. Then the limits that a good head and good ends keep to.
-- Assumes nothing.
use Prim.Native.Nat.{ℕ, ◌+◌, ◌*◌, ◌%◌, ◌≤◌, ◌<◌}
use mathlib.Core.Bool.{Bool, true, false, not, ◌&&◌, and-false}
use mathlib.Core.Path.{◌≡◌, refl, sym, subst}
use mathlib.Core.List.{List, [], ◌∷◌}
use native.Mathlib.Omega.{arith}
use lib.Dec.{leb, ltb, eqb}
use lib.ListN.{length, get_or, drop, drop_of_length-le}
use Rattle.std.proofs.lemmas.Bool.Decides.{nat_tests}
use borrow.Author.Tests.{leb-true, ltb-true, eqb-true, eq-eqb, ne_eqb}
use Rattle.lists.specs.Lists.{is_empty}
use Rattle.lists.proofs.Facts.{and_true}
use Rattle.lists.proofs.Lists.{drop_one}
use Rattle.refusals.specs.declared.Refusal.TheVariants.{NotDigits, WrongCheck, WrongFrame}
use Rattle.refusals.specs.Numbers.{number_of, unless}
use Rattle.frames.specs.declared.Head.{Head}
use Rattle.frames.specs.Edition.{edition_ok, extra, length_bytes, most_nodes, most_segments}
use Rattle.frames.specs.Steps.Sizes.{county_size, Extra, Limited}
use Rattle.frames.specs.Frame.{byte, word, number, feet, total, check_ok, is_frame, edition, nodes, segments, node_a, leg_a, node_b, leg_b}
use Rattle.frames.specs.Decoded.{head_fields}
use Rattle.frames.specs.Ranges.{within, head_ok, ends_ok}
use Rattle.frames.specs.Faults.{framed}
use Rattle.frames.proofs.EditionLaws.{nodes_few, segments_few}
use Rattle.frames.proofs.RangeLaws.{within_high}

-- ---- sums
pub total_step : (f : List ℕ) (i : ℕ) → i < length f → total (drop i f) ≡ get_or f i 0 + total (drop (i + 1) f)
unfolding total
total_step f i h = rw (drop_one f i h)

pub total_none : (f : List ℕ) (i : ℕ) → length f ≤ i → total (drop i f) ≡ 0
unfolding total
total_none f i h = rw (drop_of_length-le f {i = i} h)

-- ---- the length, a number of two bytes or of four
pub two_or_none : (e : ℕ) → (extra e ≡ 0 → ⊥) → extra e ≡ 2
unfolding extra
two_or_none e h = grind (arith, nat_tests)

module _ (e : ℕ) (f : List ℕ) where
  pub feet_of_two : {r : ℕ} → Extra e r → r ≡ 0 → word f 7 ≡ feet e f
  unfolding feet length_bytes number
  feet_of_two x z = let none : extra e ≡ 0 = omega (arith, x.is) in rw none (omega arith)

  pub feet_of_four : {r : ℕ} → Extra e r → (r ≡ 0 → ⊥) → word f 7 * 65536 + word f 9 ≡ feet e f
  unfolding feet length_bytes number
  feet_of_four {r} x z = let two : extra e ≡ 2 = two_or_none e (omega (arith, x.is)) in rw two (omega arith)

-- ---- which test of a frame fails first
-- the numbers of its three tests, by their answers
abbrev fronted : Bool → Bool → Bool → ℕ → ℕ
fronted a b d later = unless a NotDigits (unless b WrongCheck (unless d WrongFrame later))

module _ (kind n later : ℕ) where
  pub empty_fault : (f : List ℕ) → length f ≡ 0 → framed kind n f later ≡ number_of NotDigits
  unfolding framed
  empty_fault [] e = refl
  empty_fault (x ∷ f) e = absurd (omega arith)

  pub check_fault : (f : List ℕ) → (length f ≡ 0 → ⊥) → (total f % 256 ≡ 0 → ⊥) → framed kind n f later ≡ number_of WrongCheck
  unfolding framed check_ok
  check_fault [] e s = absurd (e refl)
  check_fault (x ∷ f) e s = rw (ne_eqb (total (x ∷ f) % 256) 0 s)

  pub size_fault : (f : List ℕ) → (length f ≡ 0 → ⊥) → total f % 256 ≡ 0 → (length f ≡ n → ⊥) → framed kind n f later ≡ number_of WrongFrame
  unfolding framed check_ok
  size_fault [] e s l = absurd (e refl)
  size_fault (x ∷ f) e s l = rw (eq-eqb (total (x ∷ f) % 256) 0 s, ne_eqb (length (x ∷ f)) n l, and-false)

  pub kind_fault : (f : List ℕ) → (length f ≡ 0 → ⊥) → total f % 256 ≡ 0 → (get_or f 0 0 ≡ kind → ⊥) → framed kind n f later ≡ number_of WrongFrame
  unfolding framed check_ok
  kind_fault [] e s k = absurd (e refl)
  kind_fault (x ∷ f) e s k = rw (eq-eqb (total (x ∷ f) % 256) 0 s, ne_eqb x kind k)

  pub no_fault : (f : List ℕ) → (length f ≡ 0 → ⊥) → total f % 256 ≡ 0 → length f ≡ n → get_or f 0 0 ≡ kind
      → framed kind n f later ≡ later
  unfolding framed check_ok
  no_fault [] e s l k = absurd (e refl)
  no_fault (x ∷ f) e s l k = rw (eq-eqb (total (x ∷ f) % 256) 0 s, eq-eqb x kind k, eq-eqb (length (x ∷ f)) n l)

  -- a frame with no fault of its own has the later one; and a fault of its own comes first
  pub framed_good : (f : List ℕ) → framed kind n f 0 ≡ 0 → framed kind n f later ≡ later
  unfolding framed
  framed_good f e = go (not (is_empty f)) (check_ok f) (is_frame kind n f) e
    where
      go : (a b d : Bool) → fronted a b d 0 ≡ 0 → fronted a b d later ≡ later
      go false b d z = absurd (omega arith)
      go true false d z = absurd (omega arith)
      go true true false z = absurd (omega arith)
      go true true true z = refl

  pub framed_bad : (f : List ℕ) (x : ℕ) → (x ≡ 0 → ⊥) → framed kind n f 0 ≡ x → framed kind n f later ≡ x
  unfolding framed
  framed_bad f x p e = go (not (is_empty f)) (check_ok f) (is_frame kind n f) e
    where
      go : (a b d : Bool) → fronted a b d 0 ≡ x → fronted a b d later ≡ x
      go false b d z = z
      go true false d z = z
      go true true false z = z
      go true true true z = absurd (p (sym z))

-- ---- what a frame with no fault has
pub record Framed (kind n : ℕ) (f : List ℕ) (later : ℕ) : Type 0 where
  pub check : check_ok f ≡ true
  pub kind_is : byte f 0 ≡ kind
  pub long : length f ≡ n
  pub none : later ≡ 0

pub framed_has : (kind n : ℕ) (f : List ℕ) (later : ℕ) → framed kind n f later ≡ 0 → Framed kind n f later
unfolding framed
framed_has kind n f later e = go (is_empty f) refl (check_ok f) refl (eqb (byte f 0) kind) refl (eqb (length f) n) refl e
  where
    go : (a : Bool) → is_empty f ≡ a → (b : Bool) → check_ok f ≡ b → (x : Bool) → eqb (byte f 0) kind ≡ x → (y : Bool) → eqb (length f) n ≡ y
        → unless (not a) NotDigits (unless b WrongCheck (unless (x && y) WrongFrame later)) ≡ 0 → Framed kind n f later
    go true p b q x r y s z = absurd (omega arith)
    go false p false q x r y s z = absurd (omega arith)
    go false p true q false r y s z = absurd (omega arith)
    go false p true q true r false s z = absurd (omega arith)
    go false p true q true r true s z = record { check = q; kind_is = eqb-true _ _ r; long = eqb-true _ _ s; none = z }

-- ---- no fault, as a conjunction
pub framed_and : (kind n later : ℕ) (f : List ℕ) → eqb (framed kind n f later) 0 ≡ (eqb (framed kind n f 0) 0 && eqb later 0)
unfolding framed
framed_and kind n later f = go (not (is_empty f)) (check_ok f) (is_frame kind n f)
  where
    go : (a b d : Bool) → eqb (fronted a b d later) 0 ≡ (eqb (fronted a b d 0) 0 && eqb later 0)
    go false b d = refl
    go true false d = refl
    go true true false = refl
    go true true true = refl

-- of its own length, a frame is its check and its kind
pub check_and_kind : (kind : ℕ) (f : List ℕ) → 0 < length f → (eqb (total f % 256) 0 && eqb (get_or f 0 0) kind) ≡ eqb (framed kind (length f) f 0) 0
unfolding framed check_ok
check_and_kind kind [] h = absurd (omega arith)
check_and_kind kind (x ∷ f) h = rw (eq-eqb (length (x ∷ f)) (length (x ∷ f)) refl) (go (eqb (total (x ∷ f) % 256) 0) (eqb x kind))
  where
    go : (a b : Bool) → (a && b) ≡ eqb (unless a WrongCheck (unless (b && true) WrongFrame 0)) 0
    go false b = refl
    go true false = refl
    go true true = refl

-- ---- limits
pub record HeadLimits (h : List ℕ) : Type 0 where
  pub edition_good : edition_ok (edition h) ≡ true
  pub nodes_most : nodes h ≤ most_nodes (edition h)
  pub segments_most : segments h ≤ most_segments (edition h)
  pub few_nodes : nodes h ≤ county_size
  pub few_segments : segments h ≤ county_size

pub head_limits : (h : List ℕ) → head_ok h ≡ true → HeadLimits h
unfolding head_ok
head_limits h e =
    let p = and_true (edition_ok (edition h) && within 1 (most_nodes (edition h)) (nodes h)) (leb (segments h) (most_segments (edition h))) e in
    let q = and_true (edition_ok (edition h)) (within 1 (most_nodes (edition h)) (nodes h)) p.0 in
    let n : nodes h ≤ most_nodes (edition h) = within_high 1 (most_nodes (edition h)) (nodes h) q.1 in
    let s : segments h ≤ most_segments (edition h) = leb-true _ _ p.1 in
    record {
      edition_good = q.0;
      nodes_most = n;
      segments_most = s;
      few_nodes = omega (arith, nodes_few (edition h));
      few_segments = omega (arith, segments_few (edition h));
    }

pub limited : {head : Head} (h : List ℕ) → head ≡ head_fields h → head_ok h ≡ true → Limited head
limited h e o =
    let l = head_limits h o in subst Limited (sym e) (record { few_nodes = l.few_nodes; few_segments = l.few_segments })

pub record EndLimits (n : ℕ) (f : List ℕ) : Type 0 where
  pub node_a_below : node_a f < n
  pub leg_a_below : leg_a f ≤ 7
  pub node_b_below : node_b f < n
  pub leg_b_below : leg_b f ≤ 7

pub end_limits : (n : ℕ) (f : List ℕ) → ends_ok n f ≡ true → EndLimits n f
unfolding ends_ok
end_limits n f e =
    let p = and_true (ltb (node_a f) n && leb (leg_a f) 7 && ltb (node_b f) n) (leb (leg_b f) 7) e in
    let q = and_true (ltb (node_a f) n && leb (leg_a f) 7) (ltb (node_b f) n) p.0 in
    let r = and_true (ltb (node_a f) n) (leb (leg_a f) 7) q.0 in
    record { node_a_below = ltb-true _ _ r.0; leg_a_below = leb-true _ _ r.1; node_b_below = ltb-true _ _ q.1; leg_b_below = leb-true _ _ p.1 }

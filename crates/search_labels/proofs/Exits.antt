-- Entries, each 0 or 1 + a run, are offered one after the other; an entry may be free, and a run may stand at more than one. After each offer every run is
-- as it was before the round, or has got its label by way of u; and of those runs without a label to which an edge leads, each that stood at an entry
-- already passed has got it. A run that is visited again is labelled and stays. Where every run without a label to which an edge leads stands at one
-- of the entries, every edge is relaxed after the last offer. Of how many entries that is true, none, one or seven, is no matter here. What "edge" means
-- is none either: two relations may be relaxed one after the other.
-- Assumes nothing.
use mathlib.Core.Path.{◌≡◌, refl, sym, ◌∙◌, ap}
use mathlib.Core.Bool.{Bool, true, false, true≢false, ◌||◌}
use mathlib.Core.List.{List}
use mathlib.Core.Logic.{◌⊎◌, inl, inr, ⊎_elim}
use Prim.Native.Nat.{ℕ, ◌+◌, ◌≤◌, ◌<◌}
use native.Mathlib.Nat.{not-suc-le-zero}
use native.Mathlib.Numerals.{add-one}
use native.Mathlib.Omega.{arith}
use lib.ListN.{length, set, length-set}
use lib.Seq.{get_or-set_same, get_or-set_other}
use Rattle.routes.specs.Steps.Labels.{unlabelled}
use Rattle.lists.proofs.Facts.{bool_cases, eq_or_ne, last_or_below, false_or}
use Rattle.lists.specs.Lists.{at}
use Rattle.search_labels.specs.Steps.Relax.{Visit, barred, Offer, Relaxed, kept, labelled, free, leads}

-- q is as it was
abbrev pub Same : List ℕ → List ℕ → List ℕ → List ℕ → ℕ → Type 0
Same best₀ previous₀ best previous q = (at best q ≡ at best₀ q) × (at previous q ≡ at previous₀ q)

-- q had no label, and has got one by way of u
pub record Got (edge : ℕ → ℕ → Bool) (feet : ℕ → ℕ) (u base : ℕ) (best₀ best previous : List ℕ) (q : ℕ) : Type 0 where
  pub none : unlabelled ≤ at best₀ q
  pub edge_to : edge u q ≡ true
  pub label : at best q ≡ base + feet q
  pub before : at previous q ≡ u

-- the first i entries were offered
pub record Offered (edge : ℕ → ℕ → Bool) (feet : ℕ → ℕ) (u base : ℕ) (entry : ℕ → ℕ) (i : ℕ) (best₀ previous₀ best previous : List ℕ) : Type 0 where
  pub long : length best ≡ length best₀
  pub long' : length previous ≡ length previous₀
  pub each : (q : ℕ) → Same best₀ previous₀ best previous q ⊎ Got edge feet u base best₀ best previous q
  pub passed : (k : ℕ) → k < i → (q : ℕ) → entry k ≡ q + 1 → unlabelled ≤ at best₀ q → edge u q ≡ true
      → Got edge feet u base best₀ best previous q

pub offered_none : (edge : ℕ → ℕ → Bool) (feet : ℕ → ℕ) (u base : ℕ) (entry : ℕ → ℕ) (best previous : List ℕ)
    → Offered edge feet u base entry 0 best previous best previous
offered_none edge feet u base entry best previous =
    record { long = refl; long' = refl; each = λ q. inl (refl, refl); passed = λ k l. absurd (not-suc-le-zero l) }

module _ {edge : ℕ → ℕ → Bool} {feet : ℕ → ℕ} {u base : ℕ} {entry : ℕ → ℕ} {i : ℕ} {best₀ previous₀ best previous : List ℕ}
    (S : Offered edge feet u base entry i best₀ previous₀ best previous) where
  -- an offer that changes nothing
  idle : {best' previous' : List ℕ}
      → ((q : ℕ) → entry i ≡ q + 1 → unlabelled ≤ at best₀ q → edge u q ≡ true → Got edge feet u base best₀ best previous q)
      → best' ≡ best → previous' ≡ previous → Offered edge feet u base entry (i + 1) best₀ previous₀ best' previous'
  idle here e e' =
      rw (e, e')
      (record {
        long = S.long;
        long' = S.long';
        each = S.each;
        passed = λ k l q x.
            ⊎_elim
            (λ (h : k ≡ i). here q (rw h at x))
            (λ (h : k < i). S.passed k h q x)
            (last_or_below (rw add-one at l));
      })

  -- a run that has a label now, and had none, got it
  labelled_got : (q : ℕ) → at best q < unlabelled → unlabelled ≤ at best₀ q → Got edge feet u base best₀ best previous q
  labelled_got q l h =
      ⊎_elim
      (λ (s : Same best₀ previous₀ best previous q). absurd (omega (arith, s.0)))
      (λ (s : Got edge feet u base best₀ best previous q). s)
      (S.each q)

  -- a run that has no label now had none
  none_before : (q : ℕ) → unlabelled ≤ at best q → unlabelled ≤ at best₀ q
  none_before q l =
      ⊎_elim
      (λ (s : Same best₀ previous₀ best previous q). omega (arith, s.0))
      (λ (s : Got edge feet u base best₀ best previous q). s.none)
      (S.each q)

  -- an offer that labels r
  module _ (r : ℕ) (whose : entry i ≡ r + 1) (inside : r < length best₀) (inside' : r < length previous₀) (none : unlabelled ≤ at best r)
      (leads-to : edge u r ≡ true) where
    own : Got edge feet u base best₀ (set best r (base + feet r)) (set previous r u) r
    own =
        record {
          none = none_before r none;
          edge_to = leads-to;
          label = get_or-set_same best r (base + feet r) 0 (omega (arith, S.long));
          before = get_or-set_same previous r u 0 (omega (arith, S.long'));
        }

    other : (q : ℕ) → (q ≡ r → ⊥) → Same best previous (set best r (base + feet r)) (set previous r u) q
    other q e = (get_or-set_other best r q (base + feet r) 0 e, get_or-set_other previous r q u 0 e)

    stays : (q : ℕ) → Got edge feet u base best₀ best previous q → Got edge feet u base best₀ (set best r (base + feet r)) (set previous r u) q
    stays q s =
        ⊎_elim
        (λ (e : q ≡ r). rw e own)
        (λ (e : q ≡ r → ⊥).
        record { none = s.none; edge_to = s.edge_to; label = (other q e).0 ∙ s.label; before = (other q e).1 ∙ s.before })
        (eq_or_ne q r)

    labels : Offered edge feet u base entry (i + 1) best₀ previous₀ (set best r (base + feet r)) (set previous r u)
    labels =
        record {
          long = simp length-set S.long;
          long' = simp length-set S.long';
          each = λ q.
              ⊎_elim
              (λ (s : Same best₀ previous₀ best previous q).
              ⊎_elim
              (λ (e : q ≡ r). inr (rw e own))
              (λ (e : q ≡ r → ⊥). inl ((other q e).0 ∙ s.0, (other q e).1 ∙ s.1))
              (eq_or_ne q r))
              (λ (s : Got edge feet u base best₀ best previous q). inr (stays q s))
              (S.each q);
          passed = λ k l q x h e.
              ⊎_elim
              (λ (j : k ≡ i).
              let f : q ≡ r = omega (arith, whose, rw j at x) in
              rw f own)
              (λ (j : k < i). stays q (S.passed k j q x h e))
              (last_or_below (rw add-one at l));
        }

  visited : {best' previous' : List ℕ} (r : ℕ) → entry i ≡ r + 1 → r < length best₀ → r < length previous₀
      → Visit edge feet u base r best previous best' previous' → Offered edge feet u base entry (i + 1) best₀ previous₀ best' previous'
  visited r x l l' (kept h e e') =
      idle
      (λ q y none s.
      let f : q ≡ r = omega (arith, x, y) in
      labelled_got q (rw f h) none)
      e e'
  visited r x l l' (barred h e e') =
      idle
      (λ q y none s.
      let f : q ≡ r = omega (arith, x, y) in
      absurd (true≢false (sym s ∙ ap (edge u) f ∙ h)))
      e e'
  visited r x l l' (labelled h s e e') = rw (e, e') (labels r x l l' h s)

  -- one offer more
  pub offered_more : {best' previous' : List ℕ} {n : ℕ} → ((r : ℕ) → entry i ≡ r + 1 → r < n) → n ≤ length best₀ → n ≤ length previous₀
      → Offer edge feet u base (entry i) best previous best' previous' → Offered edge feet u base entry (i + 1) best₀ previous₀ best' previous'
  offered_more l f f' (free z e e') = idle (λ q x. absurd (omega (arith, x, z))) e e'
  offered_more l f f' (leads {r} v x) = visited r x (omega (arith, l r x)) (omega (arith, l r x)) v

-- all were offered: every edge from u is relaxed
pub offered_all : {edge : ℕ → ℕ → Bool} {feet : ℕ → ℕ} {n u base : ℕ} {entry : ℕ → ℕ} {i : ℕ} {best₀ previous₀ best previous : List ℕ}
    → ((r : ℕ) → r < n → unlabelled ≤ at best₀ r → edge u r ≡ true → (k : ℕ) × (k < i) × (entry k ≡ r + 1))
    → Offered edge feet u base entry i best₀ previous₀ best previous → Relaxed edge feet n u base best₀ previous₀ best previous
offered_all {edge} {feet} {n} {u} {base} {entry} {i} {best₀} {previous₀} {best} {previous} every S =
    record {
      kept = λ r l h.
          ⊎_elim
          (λ (s : Same best₀ previous₀ best previous r). s)
          (λ (s : Got edge feet u base best₀ best previous r). absurd (omega (arith, s.none)))
          (S.each r);
      barred = λ r l e.
          ⊎_elim
          (λ (s : Same best₀ previous₀ best previous r). s)
          (λ (s : Got edge feet u base best₀ best previous r). absurd (true≢false (sym s.edge_to ∙ e)))
          (S.each r);
      labelled = λ r l h e.
          let x = every r l h e in
          let s = S.passed x.0 x.1 r x.2 h e in
          (s.label, s.before);
    }

-- edges lead to the run behind one entry at most
pub relaxed_one : {edge : ℕ → ℕ → Bool} {feet : ℕ → ℕ} {n u base entry : ℕ} {best previous best' previous' : List ℕ}
    → ((r : ℕ) → r < n → unlabelled ≤ at best r → edge u r ≡ true → entry ≡ r + 1) → ((r : ℕ) → entry ≡ r + 1 → r < n)
    → n ≤ length best → n ≤ length previous → Offer edge feet u base entry best previous best' previous'
    → Relaxed edge feet n u base best previous best' previous'
relaxed_one {edge} {feet} {n} {u} {base} {entry} {best} {previous} every inside l l' O =
    offered_all (λ r k h e. (0, omega arith, every r k h e))
    (offered_more (offered_none edge feet u base (λ (k : ℕ). entry) best previous) inside l l' O)

-- ---- by another relation
visit_as : {f g : ℕ → ℕ → Bool} {feet : ℕ → ℕ} {u base r : ℕ} {best previous best' previous' : List ℕ} → f u r ≡ g u r
    → Visit f feet u base r best previous best' previous' → Visit g feet u base r best previous best' previous'
visit_as same (kept h e e') = kept h e e'
visit_as same (barred h e e') = barred (sym same ∙ h) e e'
visit_as same (labelled h s e e') = labelled h (sym same ∙ s) e e'

-- one that agrees at the run behind the entry
pub offer_as : {f g : ℕ → ℕ → Bool} {feet : ℕ → ℕ} {u base entry : ℕ} {best previous best' previous' : List ℕ} → ((r : ℕ) → entry ≡ r + 1 → f u r ≡ g u r)
    → Offer f feet u base entry best previous best' previous' → Offer g feet u base entry best previous best' previous'
offer_as same (free z e e') = free z e e'
offer_as same (leads {r} v x) = leads (visit_as (same r x) v) x

-- one that agrees everywhere
pub relaxed_as : {f g : ℕ → ℕ → Bool} {feet : ℕ → ℕ} {n u base : ℕ} {best previous best' previous' : List ℕ} → ((r : ℕ) → r < n → f u r ≡ g u r)
    → Relaxed f feet n u base best previous best' previous' → Relaxed g feet n u base best previous best' previous'
relaxed_as same R =
    record {
      kept = R.kept;
      barred = λ r l e. R.barred r l (same r l ∙ e);
      labelled = λ r l h e. R.labelled r l h (same r l ∙ e);
    }

-- the edges of one relation are relaxed, and then those of another
pub relaxed_both : {f g : ℕ → ℕ → Bool} {feet : ℕ → ℕ} {n u base : ℕ} {best previous best₁ previous₁ best₂ previous₂ : List ℕ}
    → ((r : ℕ) → r < n → base + feet r < unlabelled) → Relaxed f feet n u base best previous best₁ previous₁
    → Relaxed g feet n u base best₁ previous₁ best₂ previous₂ → Relaxed (λ (p r : ℕ). f p r || g p r) feet n u base best previous best₂ previous₂
relaxed_both {f} {g} {feet} {n} {u} {base} {best} {previous} {best₁} {previous₁} {best₂} {previous₂} room R S =
    record {
      kept = λ r l h.
          let a = R.kept r l h in
          let b = S.kept r l (omega (arith, a.0)) in
          (b.0 ∙ a.0, b.1 ∙ a.1);
      barred = λ r l e.
          let o = false_or (f u r) (g u r) e in
          let a = R.barred r l o.0 in
          let b = S.barred r l o.1 in
          (b.0 ∙ a.0, b.1 ∙ a.1);
      labelled = λ r l h e.
          bool_cases (f u r)
          (λ (s : f u r ≡ true).
          let a = R.labelled r l h s in
          let b = S.kept r l (omega (arith, a.0, room r l)) in
          (b.0 ∙ a.0, b.1 ∙ a.1))
          (λ (s : f u r ≡ false).
          S.labelled r l (omega (arith, (R.barred r l s).0)) (ap (λ (x : Bool). x || g u r) (sym s) ∙ e));
    }

-- What the choices come to. Where nothing is to find, or no movement is within the tolerance, no leg is offered and no edge leads to a run without a
-- label. Where only the movement onto the right-hand exit is within it, that is the one leg by which an edge may lead on. Where every movement is, and
-- nothing is said of the node, each other leg is offered; where one leg is to find, an edge to a run without a label leads by that one. After the legs are
-- offered, every edge is relaxed, and the number that is noted is right.
-- Assumes nothing.
use mathlib.Core.Path.{◌≡◌, refl}
use mathlib.Core.Bool.{Bool, true, false}
use mathlib.Core.List.{List}
use Rattle.std.specs.Prelude.{Option, Some}
use Rattle.std.proofs.Math.Bool.{or-false}
use Rattle.std.proofs.lemmas.Bool.Decides.{nat_tests}
use Prim.Native.Nat.{ℕ, ◌+◌, ◌-◌, ◌%◌, ◌≤◌, ◌<◌}
use native.Mathlib.Omega.{arith}
use lib.Dec.{eqb, leb}
use lib.ListN.{set}
use Rattle.lists.specs.Lists.{at}
use Rattle.lists.proofs.Facts.{bool_cases}
use Rattle.routes.specs.Steps.Labels.{unlabelled, edge_of}
use Rattle.network.specs.LegBits.{is_set}
use Rattle.streets.specs.Runs.{start, leaving_leg, joins}
use Rattle.streets.specs.Exits.{exit_from}
use Rattle.streets.specs.UsedLegs.{LegsOf}
use Rattle.streets.specs.Bicycle.{bicycle, arrival_turn_level, movement_level}
use Rattle.streets.proofs.LeavingLaws.{leaving_below}
use Rattle.search_labels.specs.Steps.Relax.{Relaxed}
use Rattle.search_labels.proofs.Exits.{offer_as, relaxed_one, relaxed_as, relaxed_both}
use Rattle.search_relaxing.specs.declared.Ask.{Ask}
use Rattle.search_relaxing.specs.declared.relax.Reached.{Reached}
use Rattle.search_relaxing.specs.declared.relax.Choice.{Choice}
use Rattle.search_relaxing.specs.declared.relax.ToFind.{ToFind}
use Rattle.search_relaxing.specs.declared.relax.ToFind.TheVariants.{Any, Leg, Nothing}
use Rattle.search_relaxing.specs.Steps.Counted.{network_in, usable}
use Rattle.search_relaxing.specs.Steps.Unfound.{nothing, to_find, note_of, Noteable, Unfound, EveryExit, RightOnly, leads_of}
use Rattle.search_relaxing.specs.Steps.Choice.{right_leg, every_leg, Rest, same, others, last as last_one, turned, Chosen, NoEdge, ChosenOf, Chooses}
use Rattle.search_relaxing.specs.Steps.Choice.{Relaxable, EdgesRelaxed, BackLabelled, Spreads}
use Rattle.search_relaxing.proofs.CountedLaws.{run_of, feet_asked, Arriving, arriving}
use Rattle.search_relaxing.proofs.TestLaws.{way, onward_at, right_exit, back_behind, back_at, back_offer}
use Rattle.search_relaxing.proofs.UnfoundLaws.{spent_closed, back_out, spread}

-- where something is to find, the note tells it again
told_back : (note : ℕ) {rest : ToFind} → rest ≡ to_find note → (rest ≡ Nothing → ⊥) → (note_of rest ≡ note) × Noteable rest × (note < nothing)
told_back note {rest} e some = grind (arith, nat_tests)

module _ {net index : List ℕ} {t n u node leg : ℕ} (H : Arriving net index n u node leg) (unfound : List ℕ) where
  pub chosen_none : Nothing ≡ to_find (at unfound node) → NoEdge net t n u unfound
  chosen_none told best U r l none e = grind (arith, nat_tests, spent_closed H.counted U u r)

  pub chosen_barred : t < arrival_turn_level net u → NoEdge net t n u unfound
  unfolding edge_of movement_level
  chosen_barred h best U r l none e = grind (arith, nat_tests)

  -- onto legs by which no run goes back or above the tolerance, and by which every edge to a run without a label leads
  chosen : (first count : ℕ) (back : Bool) (rest : ToFind) → count ≤ 7 → first ≤ 8
      → ((k : ℕ) → k < count → (r : ℕ) → leaving_leg net r ≡ (first + k) % 8 → (leaving_leg net r ≡ leg → ⊥) × (movement_level net u r ≤ t))
      → ((best : List ℕ) → Unfound net t n best unfound → (r : ℕ) → r < n → unlabelled ≤ at best r → edge_of (bicycle net) t u r ≡ true
      → (k : ℕ) × (k < count) × ((first + k) % 8 ≡ leaving_leg net r))
      → Rest net t u node leg unfound back (note_of rest) → Noteable rest
      → Chosen net index t n u node leg unfound (record { first = first; count = count; back = back; rest = rest })
  chosen first count back rest few low onto by after noted =
      record {
        few = few;
        first_leg = low;
        ways = λ k l. way H (omega arith) (onto k l);
        every = λ best U r l h e.
            let b = by best U r l h e in
            (b.0, b.1, rw b.2 (onward_at H t r l e));
        afterwards = after;
        noted = noted;
      }

  pub chosen_right : {legs : List ℕ} {exit : ℕ} {rest : ToFind} {c : Option Choice} → LegsOf net legs → RightOnly net t u
      → exit ≡ exit_from (is_set (at legs node)) 8 leg → rest ≡ to_find (at unfound node) → (rest ≡ Nothing → ⊥) → c ≡ right_leg exit leg rest
      → ChosenOf net index t n u node leg unfound c
  unfolding right_leg edge_of joins movement_level
  chosen_right {exit = exit} {rest} G O is told some e =
      let x = right_exit H G is in
      let note = told_back (at unfound node) told some in
      bool_cases (eqb exit leg)
      (λ p. rw (e, p) (λ best U r l none d. grind (arith, nat_tests)))
      (λ p.
      rw (e, p)
      (chosen exit 1 false rest (omega arith) (omega arith) (λ k l r j. grind (arith, nat_tests))
      (λ best U r l none d. (0, omega arith, grind (arith, nat_tests))) (same refl note.0) note.1))

  -- onto the seven others
  seven : (back : Bool) (rest : ToFind) → EveryExit net t u → Rest net t u node leg unfound back (note_of rest) → Noteable rest
      → Chosen net index t n u node leg unfound (record { first = leg + 1; count = 7; back = back; rest = rest })
  unfolding edge_of joins movement_level
  seven back rest every =
      chosen (leg + 1) 7 back rest (omega arith) (omega arith) (λ k l r j. grind (arith, nat_tests))
      (λ best U r l none d.
      let b = leaving_below (run_of H.counted l) in
      ((leaving_leg net r + 7 - leg) % 8, grind (arith, nat_tests), grind (arith, nat_tests)))

  pub chosen_every : {rest : ToFind} {c : Option Choice} → EveryExit net t u → rest ≡ to_find (at unfound node) → (rest ≡ Nothing → ⊥)
      → c ≡ every_leg leg rest (leb nothing (at unfound (start net u))) → ChosenOf net index t n u node leg unfound c
  unfolding every_leg edge_of joins usable movement_level
  chosen_every {rest = Any} every told some e =
      let note = told_back (at unfound node) told some in
      bool_cases (leb nothing (at unfound (start net u)))
      (λ p. rw (e, p) (seven true Nothing every (turned refl refl every note.2 (grind (arith, nat_tests))) tt))
      (λ p. rw (e, p) (seven false (Leg leg) every (others refl refl every note.2) H.arrives.by_leg.below))
  chosen_every {rest = Leg last} every told some e =
      let note = told_back (at unfound node) told some in
      bool_cases (eqb last leg)
      (λ p. rw (e, p) (λ best U r l none d. grind (arith, nat_tests)))
      (λ p.
      rw (e, p)
      (chosen last 1 false Nothing (omega arith) (omega arith) (λ k l r j. grind (arith, nat_tests))
      (λ best U r l none d. (0, omega arith, grind (arith, nat_tests)))
      (last_one refl refl every note.2 (grind (arith, nat_tests)) (grind (arith, nat_tests))) tt))
  chosen_every {rest = Nothing} every told some e = absurd (some refl)

-- ---- after the legs are offered
module _ {ask : Ask} {here : Reached} {c : Choice} {best previous tree unfound best₁ previous₁ tree₁ : List ℕ}
    (Q : Relaxable ask here best previous tree unfound) (C : Chooses ask here unfound (Some c)) (E : EdgesRelaxed ask here unfound best previous best₁ previous₁ tree₁) where
  pub spread_onward : c.back ≡ false → Spreads ask here best previous unfound best₁ previous₁ tree₁ (set unfound here.node (note_of c.rest))
  spread_onward onward =
      spread (arriving Q.reaches) C.afterwards Q.right (relaxed_as (λ r l. simp (onward, or-false)) E.relaxed) E.settling

  -- and the way back is
  pub spread_turned : {best₂ previous₂ : List ℕ} → c.back ≡ true → BackLabelled ask here best₁ previous₁ best₂ previous₂
      → Spreads ask here best previous unfound best₂ previous₂ tree₁ (set unfound here.node (note_of c.rest))
  spread_turned back O =
      let H = arriving Q.reaches in
      let both : Relaxed (leads_of (network_in ask) ask.tolerance true) _ _ _ _ _ _ _ _ =
      relaxed_both (λ r l. omega (arith, feet_asked ask r l, E.settling.room)) E.relaxed
      (relaxed_one (λ r l h e. back_at H r l e) (back_behind H) E.settling.long E.settling.long' (offer_as (back_offer H) O)) in
      let none : nothing ≤ at unfound (start (network_in ask) here.run) = let a = C.afterwards in grind arith in
      spread H C.afterwards Q.right (rw back both) (back_out H unfound none E.settling O)

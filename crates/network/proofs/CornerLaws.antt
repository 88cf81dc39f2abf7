-- The index of runs and the legs taken. An entry is 0 exactly where the corner is not among those taken; entering the runs of a segment adds two corners
-- in front, whose entries are the lengths of what comes after them.
-- Assumes nothing.
use Prim.Native.Nat.{ℕ, suc, ◌+◌, ◌*◌, ◌≤◌, ◌<◌}
use mathlib.Core.Bool.{Bool, true, false, not, cond, ◌||◌}
use mathlib.Core.Path.{◌≡◌, refl, ◌∙◌}
use mathlib.Core.List.{List, [], ◌∷◌}
use native.Mathlib.Omega.{arith}
use lib.Dec.{eqb}
use lib.ListN.{length, get_or, set, replicate, length-set, length-replicate, get_or-replicate}
use lib.Seq.{get_or-set_same, get_or-set_other}
use borrow.Author.Tests.{eqb-true, eqb-false, ne_eqb}
use Rattle.frames.specs.Ranges.{ends_ok}
use Rattle.frames.specs.Steps.Sizes.{county_size}
use Rattle.frames.proofs.FrameLaws.{EndLimits, end_limits}
use Rattle.network.specs.Legs.{corner_a, corner_b, is_in, taking}
use Rattle.network.specs.Steps.Taken.{ends_of}
use Rattle.network.specs.Steps.Corners.{leaves, Indexed, RunsRoom, with_runs}

pub corners_few : (n : ℕ) (f : List ℕ) → ends_ok n f ≡ true → (corner_a f < n * 8) × (corner_b f < n * 8)
corners_few n f e = let l : EndLimits n f = end_limits n f e in (omega arith, omega arith)

-- the runs of a segment have their entries in an index with eight legs for each of n nodes
pub runs_room : (n : ℕ) (f : List ℕ) {s : ℕ} {index : List ℕ} → ends_ok n f ≡ true → n * 8 ≤ length index → s < county_size → RunsRoom (ends_of f) s index
runs_room n f e m h =
    let o = corners_few n f e in
    record { counted = h; a_fits = omega (arith, o.0, m); b_fits = omega (arith, o.1, m) }

pub free_is_new : (taken : List ℕ) (e : ℕ) → eqb (leaves taken e) 0 ≡ not (is_in e taken)
unfolding leaves is_in
free_is_new [] e = refl
free_is_new (x ∷ xs) e = go (eqb e x) (free_is_new xs e)
  where
    go : (b : Bool) → eqb (leaves xs e) 0 ≡ not (is_in e xs) → eqb (cond b (length xs + 1) (leaves xs e)) 0 ≡ not (b || is_in e xs)
    go true h = ne_eqb (length xs + 1) 0 (λ z. omega arith)
    go false h = h

pub none_indexed : (most n : ℕ) → n * 8 ≤ most → Indexed n [] (replicate most 0)
unfolding leaves
none_indexed most n h =
    record { room = omega (arith, length-replicate {A = ℕ} most 0); entry = λ e l. get_or-replicate {A = ℕ} most e 0 0 (omega arith) }

module _ {n : ℕ} {taken d : List ℕ} (w : Indexed n taken d) where
  entered : (s a b e : ℕ) → length taken ≡ 2 * s → a < n * 8 → b < n * 8 → e < n * 8
      → get_or (set (set d a (s * 2 + 1)) b (s * 2 + 2)) e 0 ≡ leaves (b ∷ a ∷ taken) e
  unfolding leaves
  entered s a b e l p q r = go (eqb e b) refl (eqb e a) refl
    where
      go : (x : Bool) → eqb e b ≡ x → (y : Bool) → eqb e a ≡ y
          → get_or (set (set d a (s * 2 + 1)) b (s * 2 + 2)) e 0
          ≡ cond (eqb e b) (suc (length taken) + 1) (cond (eqb e a) (length taken + 1) (leaves taken e))
      go true f y g =
          rw (f, eqb-true e b f)
          (get_or-set_same (set d a (s * 2 + 1)) b (s * 2 + 2) 0 (simp length-set (omega (arith, w.room))) ∙ omega arith)
      go false f true g =
          rw (f, g)
          (get_or-set_other (set d a (s * 2 + 1)) b e (s * 2 + 2) 0 (eqb-false e b f)
          ∙ rw (eqb-true e a g) (get_or-set_same d a (s * 2 + 1) 0 (omega (arith, w.room)) ∙ omega arith))
      go false f false g =
          rw (f, g)
          (get_or-set_other (set d a (s * 2 + 1)) b e (s * 2 + 2) 0 (eqb-false e b f)
          ∙ get_or-set_other d a e (s * 2 + 1) 0 (eqb-false e a g) ∙ w.entry e r)

  pub entered_indexed : (s : ℕ) (f : List ℕ) → length taken ≡ 2 * s → corner_a f < n * 8 → corner_b f < n * 8
      → Indexed n (taking taken f) (with_runs d s (ends_of f))
  entered_indexed s f l a b =
      record {
        room = simp length-set w.room;
        entry = λ e h. entered s (corner_a f) (corner_b f) e l a b h;
      }

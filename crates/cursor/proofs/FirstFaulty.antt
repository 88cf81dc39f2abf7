-- Where Read refuses a text with a number and a line, the lines before it are a head's and frames', each with its 0A and with no fault, and the line has that
-- fault: one step of `segment_lines` for each line. So the lengths of the lines before it tell where it begins.
-- Assumes nothing.
use Prim.Native.Nat.{ℕ, zero, suc, ◌+◌, ◌*◌, ◌-◌, ◌≤◌, ◌<◌}
use mathlib.Core.Bool.{Bool, true, false, cond}
use mathlib.Core.Path.{◌≡◌, refl, sym, ap, ◌∙◌, subst}
use mathlib.Core.List.{List, [], ◌∷◌, ◌++◌, append_assoc}
use native.Mathlib.Omega.{arith}
use native.Mathlib.Nat.{mul-zero}
use lib.Dec.{leb}
use lib.ListN.{length, drop, length-drop}
use lib.Seq.{drop-drop}
use borrow.Author.Tests.{ne_eqb, lt-ltb}
use Rattle.lists.specs.Lists.{is_empty}
use Rattle.lists.proofs.Lists.{times_suc}
use Rattle.refusals.specs.declared.Refusal.TheVariants.{WrongFrame, WrongCount, OutputTooShort}
use Rattle.refusals.specs.Numbers.{number_of}
use Rattle.frames.specs.Edition.{frame_bytes}
use Rattle.frames.specs.Frame.{edition, nodes, segments}
use Rattle.frames.specs.Faults.{head_fault}
use Rattle.frames.proofs.EditionLaws.{frame_least}
use Rattle.frames.proofs.FaultLaws.{head_follows}
use Rattle.network.specs.Legs.{taking}
use Rattle.network.specs.Faults.{segment_fault}
use Rattle.network.specs.Network.{kept_bytes}
use Rattle.network.proofs.FaultLaws.{Faultless, faultless}
use Rattle.digits.specs.Digits.{line_of, rest_of}
use Rattle.digits.proofs.DigitLaws.{line_spells}
use Rattle.text.specs.Accepted.{count, Each}
use Rattle.text.specs.Read.{Reading, refused, kept, unless_fault, segment_lines, read_of}
use Rattle.cursor.specs.Lines.{first_line, after_line, after_lines, from_line, NoEnd, ended}
use Rattle.cursor.specs.LineFault.{line_bytes, first_fault, later_fault, fault_of_line, FirstFaulty}
use Rattle.cursor.specs.Steps.Places.{after_frames, WholeBefore}
use Rattle.cursor.proofs.Bounds.{first_most, later_most}
use Rattle.cursor.proofs.LineLaws.{FrameLine, frame_line, first_no_end}

-- ---- one refusal is another, and no acceptance
same_refusal : {a b x k : ℕ} → refused a b ≡ refused x k → (a ≡ x) × (b ≡ k)
same_refusal e = (cc, cc)

kept_is_refused : {b : List ℕ} {x k : ℕ} {A : Type 0} → kept b ≡ refused x k → A
kept_is_refused e = let z : ◌≡◌ {A = ℕ} 0 1 = cc in absurd (omega (arith, z))

-- ---- lines with their 0A, in front of a text
pub record Behind (u rest : List ℕ) (lines : ℕ) : Type 0 where
  pub before : List (List ℕ)
  pub counted : count before ≡ lines
  pub text_is : u ≡ ended before ++ rest
  pub ended_before : Each NoEnd before

nothing_before : (u : List ℕ) → Behind u u 0
nothing_before u = record { before = []; counted = refl; text_is = refl; ended_before = tt }

line_before : {u rest : List ℕ} {lines size : ℕ} → FrameLine u size → Behind (after_line u) rest lines → Behind u rest (suc lines)
line_before {u} {rest} w v =
    record {
      before = first_line u ∷ v.before;
      counted = ap suc v.counted;
      text_is =
          w.parts ∙ ap (λ (x : List ℕ). first_line u ++ (0x0A ∷ x)) v.text_is
          ∙ sym (append_assoc (first_line u) (0x0A ∷ ended v.before) rest);
      ended_before = (first_no_end u, v.ended_before);
    }

-- ---- the lines after the head
record Stopped (e n left at : ℕ) (taken u : List ℕ) (x k : ℕ) : Type 0 where
  lines : ℕ
  line_is : k ≡ at + lines
  own : later_fault e n left taken u lines ≡ x
  none_before : (j : ℕ) → j < lines → later_fault e n left taken u j ≡ 0
  long : (2 * frame_bytes e + 1) * lines ≤ length u
  rest : after_lines lines u ≡ drop ((2 * frame_bytes e + 1) * lines) u
  behind : Behind u (after_lines lines u) lines

module _ (e n left at : ℕ) (taken u : List ℕ) where
  stops_here : {x k : ℕ} → later_fault e n left taken u 0 ≡ x → at ≡ k → Stopped e n left at taken u x k
  unfolding after_lines
  stops_here f a =
      let z : (2 * frame_bytes e + 1) * 0 ≡ 0 = mul-zero (2 * frame_bytes e + 1) in
      record {
        lines = 0;
        line_is = omega arith;
        own = f;
        none_before = λ j l. absurd (omega arith);
        long = omega (arith, z);
        rest = sym (ap (λ (i : ℕ). drop i u) z);
        behind = nothing_before u;
      }

  next_fault : (j : ℕ) → later_fault e n (suc left) taken u (suc j) ≡ later_fault e n left (taking taken (line_bytes u)) (after_line u) j
  unfolding later_fault
  next_fault j =
      let less : suc left - 1 ≡ left = omega arith in
      ap (λ (m : ℕ). later_fault e n m (taking taken (line_bytes u)) (after_line u) j) less

  goes_on : {x k : ℕ} → is_empty u ≡ false → segment_fault e n true taken (line_bytes u) ≡ 0
      → Stopped e n left (at + 1) (taking taken (line_bytes u)) (rest_of (line_of u)) x k → Stopped e n (suc left) at taken u x k
  unfolding after_lines later_fault
  goes_on {x} {k} s f v₀ =
      let g : Faultless e n true taken (line_bytes u) = faultless e n true taken (line_bytes u) f in
      let w : FrameLine u (frame_bytes e) = frame_line u (frame_bytes e) (omega (arith, frame_least e)) g.follows.size in
      let v : Stopped e n left (at + 1) (taking taken (line_bytes u)) (after_line u) x k =
      subst (λ (y : List ℕ). Stopped e n left (at + 1) (taking taken (line_bytes u)) y x k) w.rest v₀ in
      let b : ℕ = 2 * frame_bytes e + 1 in
      record {
        lines = suc v.lines;
        line_is = omega (arith, v.line_is);
        own = next_fault v.lines ∙ v.own;
        none_before = earlier v;
        long = omega (arith, v.long, ap length w.after, length-drop b u, w.room, times_suc b v.lines);
        rest =
            v.rest ∙ ap (λ (y : List ℕ). drop (b * v.lines) y) w.after ∙ drop-drop (b * v.lines) b u
            ∙ ap (λ (i : ℕ). drop i u) (sym (times_suc b v.lines));
        behind = line_before w v.behind;
      }
    where
      earlier : (v : Stopped e n left (at + 1) (taking taken (line_bytes u)) (after_line u) x k) (j : ℕ) → j < suc v.lines → later_fault e n (suc left) taken u j ≡ 0
      earlier v zero l = rw (s, lt-ltb 0 (suc left) (omega arith), f)
      earlier v (suc j) l = next_fault j ∙ v.none_before j (omega arith)

lines_stop : (e n left at : ℕ) (taken sofar u : List ℕ) {x k : ℕ} → segment_lines e n left at taken sofar u ≡ refused x k → Stopped e n left at taken u x k
unfolding segment_lines later_fault
lines_stop e n zero at taken sofar u {x} {k} h = go (is_empty u) refl h
  where
    go : (b : Bool) → is_empty u ≡ b → cond b (kept sofar) (refused (segment_fault e n false taken (line_bytes u)) at) ≡ refused x k → Stopped e n zero at taken u x k
    go true s h = kept_is_refused h
    go false s h = let q = same_refusal h in stops_here e n zero at taken u (rw s q.0) q.1
lines_stop e n (suc left) at taken sofar u {x} {k} h =
    go (is_empty u) refl (segment_fault e n true taken (line_bytes u)) refl (λ l. lines_stop e n left (at + 1) _ _ _ l) h
  where
    later : Reading
    later = segment_lines e n left (at + 1) (taking taken (line_bytes u)) (sofar ++ line_bytes u) (rest_of (line_of u))

    go : (b : Bool) → is_empty u ≡ b → (f : ℕ) → segment_fault e n true taken (line_bytes u) ≡ f
        → (later ≡ refused x k → Stopped e n left (at + 1) (taking taken (line_bytes u)) (rest_of (line_of u)) x k)
        → cond b (refused (number_of WrongCount) at) (unless_fault f at later) ≡ refused x k → Stopped e n (suc left) at taken u x k
    go true s f p i h = let q = same_refusal h in stops_here e n (suc left) at taken u (rw (s, ne_eqb (suc left) 0 (λ z. omega arith)) q.0) q.1
    go false s zero p i h = goes_on e n left at taken u s p (i h)
    go false s (suc f) p i h = let q = same_refusal h in stops_here e n (suc left) at taken u (rw (s, lt-ltb 0 (suc left) (omega arith), p) q.0) q.1

-- ---- the text
pub record TextStopped (t : List ℕ) (room x k : ℕ) : Type 0 where
  pub whole_before : WholeBefore t k
  pub faulty : FirstFaulty t room x k
  pub most : x ≤ 7
  pub head_line : x ≡ 7 → k ≡ 1
  pub behind : Behind t (from_line k t) (k - 1)

at_first : {t : List ℕ} {room x k : ℕ} → first_fault t room ≡ x → 1 ≡ k → TextStopped t room x k
unfolding after_lines
at_first {t} {room} {x} {k} f a =
    subst (TextStopped t room x) a
    (record {
      whole_before = record { first = omega arith; long = λ l. absurd (omega arith); rest = λ l. absurd (omega arith) };
      faulty = record { own = f; none_before = earlier };
      most = omega (arith, first_most t room, f);
      head_line = λ z. refl;
      behind = nothing_before t;
    })
  where
    earlier : (j : ℕ) → j < 1 → fault_of_line t room j ≡ 0
    earlier zero l = refl
    earlier (suc j) l = absurd (omega arith)

module _ (t : List ℕ) (room : ℕ) {x k : ℕ} (g : first_fault t room ≡ 0) (o : head_fault (line_bytes t) ≡ 0)
    (v₀ : Stopped (edition (line_bytes t)) (nodes (line_bytes t)) (segments (line_bytes t)) 2 [] (rest_of (line_of t)) x k) where
  w : FrameLine t 7
  w = frame_line t 7 (omega arith) (head_follows (line_bytes t) o).size

  v : Stopped (edition (line_bytes t)) (nodes (line_bytes t)) (segments (line_bytes t)) 2 [] (after_line t) x k
  v = subst (λ (y : List ℕ). Stopped (edition (line_bytes t)) (nodes (line_bytes t)) (segments (line_bytes t)) 2 [] y x k) w.rest v₀

  earlier : (j : ℕ) → j < suc (suc v.lines) → fault_of_line t room j ≡ 0
  earlier zero l = refl
  earlier (suc zero) l = g
  earlier (suc (suc j)) l = v.none_before j (omega arith)

  -- the place after so many frames, by the head that the line's digits spell
  place : (15 + (2 * frame_bytes (edition (line_bytes t)) + 1) * v.lines ≡ after_frames t v.lines)
  place = ap (λ (h : List ℕ). 15 + (2 * frame_bytes (edition h) + 1) * v.lines) (line_spells t 7 (head_follows (line_bytes t) o).size)

  at_later : TextStopped t room x k
  unfolding after_lines
  at_later =
      let a : suc (suc v.lines) ≡ k = omega (arith, v.line_is) in
      let one : suc (suc v.lines) - 1 ≡ suc v.lines = omega arith in
      let frames : ℕ = (2 * frame_bytes (edition (line_bytes t)) + 1) * v.lines in
      let two : suc (suc v.lines) - 2 ≡ v.lines = omega arith in
      subst (TextStopped t room x) a
      (record {
        whole_before =
            record {
              first = omega arith;
              long = λ l. rw two (omega (arith, place, v.long, ap length w.after, length-drop 15 t, w.room));
              rest =
                  λ l. rw (one, two)
                  (v.rest ∙ ap (λ (y : List ℕ). drop frames y) w.after ∙ drop-drop frames 15 t ∙ ap (λ (i : ℕ). drop i t) place);
            };
        faulty = record { own = v.own; none_before = earlier };
        most = omega (arith, later_most (edition (line_bytes t)) (nodes (line_bytes t)) (segments (line_bytes t)) [] (after_line t) v.lines, v.own);
        head_line = λ z. absurd (omega (arith, later_most (edition (line_bytes t)) (nodes (line_bytes t)) (segments (line_bytes t)) [] (after_line t) v.lines, v.own));
        behind = rw one (line_before w v.behind);
      })

pub text_stops : (t : List ℕ) (room : ℕ) {x k : ℕ} → read_of t room ≡ refused x k → TextStopped t room x k
unfolding read_of first_fault
text_stops t room {x} {k} h = go (is_empty t) refl (head_fault (line_bytes t)) refl (leb (kept_bytes (line_bytes t)) room) refl h
  where
    later : Reading
    later = segment_lines (edition (line_bytes t)) (nodes (line_bytes t)) (segments (line_bytes t)) 2 [] (line_bytes t) (rest_of (line_of t))

    go : (b : Bool) → is_empty t ≡ b → (f : ℕ) → head_fault (line_bytes t) ≡ f → (r : Bool) → leb (kept_bytes (line_bytes t)) room ≡ r
        → cond b (refused (number_of WrongFrame) 1) (unless_fault f 1 (cond r later (refused (number_of OutputTooShort) 1))) ≡ refused x k → TextStopped t room x k
    go true s f p r q h = let z = same_refusal h in at_first (rw s z.0) z.1
    go false s (suc f) p r q h = let z = same_refusal h in at_first (rw (s, p) z.0) z.1
    go false s zero p false q h = let z = same_refusal h in at_first (rw (s, p, q) z.0) z.1
    go false s zero p true q h = at_later t room (rw (s, p, q)) p (lines_stop _ _ _ 2 [] _ _ h)

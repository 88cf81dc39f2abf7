-- The lines of the segments, one after the other, and what program levels prints of what Read told.
-- Assumes nothing.
use Prim.Native.Nat.{ℕ, zero, suc, ◌+◌, ◌*◌, ◌≤◌}
use native.Mathlib.Nat.{add-zero, zero-add}
use native.Mathlib.Numerals.{add-one}
use native.Mathlib.Omega.{arith}
use mathlib.Core.Bool.{Bool, true, false, cond}
use mathlib.Core.Path.{◌≡◌, refl, sym, ◌∙◌, ap}
use mathlib.Core.List.{List, [], ◌++◌, append_assoc, append-nil}
use lib.ListN.{length, take}
use Rattle.std.specs.Prelude.{Result, Ok, Err}
use Rattle.refusals.specs.Numbers.{number_of}
use Rattle.text.specs.declared.Refused.{Refused}
use Rattle.text.specs.Read.{read_of, refused, kept}
use Rattle.text.specs.Told.{told, ReadDid}
use lib.Seq.{take_at}
use Rattle.frames.specs.Edition.{is_wide, extra, frame_bytes, most_segments}
use Rattle.network.specs.Network.{head_of, edition_of, segments_of, is_network}
use Rattle.digits.specs.Steps.Scan.{spelled}
use Rattle.digits.proofs.DigitLaws.{length_spelled}
use Rattle.network.proofs.NetworkLaws.{passed}
use Rattle.levels.specs.Levels.{most_input, most_lines, level_line, level_lines, refused_line, levels_room, levels_of}
use Rattle.text.proofs.KeptText.{text_kept, was_refused}
use Rattle.text.proofs.ReadTheorems.{kept_front}

pub no_lines : (net : List ℕ) (a : ℕ) → level_lines net a 0 ≡ []
unfolding level_lines
no_lines net a = refl

lines_then : (net : List ℕ) (a k : ℕ) → level_lines net a (suc k) ≡ level_lines net a k ++ level_line net (a + k)
unfolding level_lines
lines_then net a zero = rw (add-zero a) (append-nil (level_line net a))
lines_then net a (suc k) =
    ap (λ (l : List ℕ). level_line net a ++ l) (lines_then net (a + 1) k)
    ∙ sym (append_assoc (level_line net a) (level_lines net (a + 1) k) (level_line net (a + 1 + k)))
    ∙ ap (λ (n : ℕ). level_line net a ++ level_lines net (a + 1) k ++ level_line net n) shift
  where
    shift : a + 1 + k ≡ a + suc k
    shift = omega arith

-- one line more
pub lines_more : (net : List ℕ) (s : ℕ) {before after : List ℕ} → before ≡ level_lines net 0 s → after ≡ before ++ level_line net s
    → after ≡ level_lines net 0 (s + 1)
lines_more net s b a = rw (add-one s, lines_then net 0 s, zero-add s) (a ∙ ap (λ (l : List ℕ). l ++ level_line net s) b)

-- a page has room for the lines of a network whose text was read: by edition 03 a line of the text has 65 bytes, and by the others no network has more
-- segments than a town
few_lines : (e s : ℕ) → s ≤ most_segments e → 15 + (2 * frame_bytes e + 1) * s ≤ most_input → s ≤ most_lines
unfolding most_segments frame_bytes extra
few_lines e s few short = go (is_wide e) few short
  where
    go : (wide : Bool) → s ≤ cond wide 8000 1000 → 15 + (2 * (30 + cond wide 2 0) + 1) * s ≤ most_input → s ≤ most_lines
    go true l m = omega arith
    go false l m = omega arith

page_enough : (text net : List ℕ) (room : ℕ) → length text ≤ most_input → is_network net ≡ true → read_of text room ≡ kept net
    → segments_of net ≤ most_lines
page_enough text net room short is e =
    let k = text_kept text room net e in
    let head : head_of net ≡ spelled 7 text = ap (take 7) k.bytes ∙ take_at (spelled 7 text) _ 7 (length_spelled 7 text) in
    let long : 15 + (2 * frame_bytes (edition_of net) + 1) * segments_of net ≤ length text =
    rw (head, sym k.e_is, sym k.s_is) k.long in
    few_lines (edition_of net) (segments_of net) (passed net is).limits.segments_most (omega (arith, long))

-- ---- what Read told
module _ {text net₀ net : List ℕ} {r : Result ℕ Refused} (D : ReadDid text net₀ net r) (n : length net₀ ≡ levels_room) where
  -- a refusal prints its line
  pub prints_refusal : {why : Refused} → r ≡ Err why → refused_line (number_of why.refusal) why.line ≡ levels_of text
  unfolding levels_of
  prints_refusal {why} e =
      let reading = was_refused (read_of text (length net₀)) why (sym (ap told e) ∙ D.answer) in
      let same : read_of text levels_room ≡ refused (number_of why.refusal) why.line = rw (sym n) reading in
      rw same refl

  -- an acceptance prints the lines of its network
  module _ {count : ℕ} (e : r ≡ Ok count) where
    pub enough : length text ≤ most_input → segments_of (take count net) ≤ most_lines
    enough short = let k = kept_front e D in page_enough text (take count net) (length net₀) short k.0 k.2

    pub prints_levels : level_lines (take count net) 0 (segments_of (take count net)) ≡ levels_of text
    unfolding levels_of
    prints_levels =
        let same : read_of text levels_room ≡ kept (take count net) = rw (sym n) (kept_front e D).2 in
        rw same refl

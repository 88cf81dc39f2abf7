-- The loop that writes a moved network: over the output stand the head and the frames so far, and one frame more is written behind them.
-- Assumes nothing.
use Prim.Native.Nat.{ℕ, ◌+◌, ◌*◌, ◌-◌, ◌≤◌, ◌<◌}
use mathlib.Core.Path.{◌≡◌, refl, sym, ap, ap₂, ◌∙◌}
use mathlib.Core.List.{List, ◌++◌, append_assoc, append-nil}
use native.Mathlib.Omega.{arith}
use native.Mathlib.Nat.{mul-le-mul_left}
use native.Mathlib.Numerals.{add-one}
use lib.ListN.{length, take, drop, length-append, length-take, length-drop}
use lib.Seq.{drop-drop}
use Rattle.lists.specs.Placed.{placed}
use Rattle.lists.proofs.Lists.{times_next}
use Rattle.lists.proofs.PlacedLaws.{placed_then}
use Rattle.frames.specs.Edition.{frame_bytes}
use Rattle.network.specs.Network.{edition_of, segments_of}
use Rattle.network.proofs.NetworkLaws.{frame_at}
use Rattle.network.proofs.FramesChecked.{part}
use Rattle.moves.specs.Moved.{head_in, frame_in, frames_in, moved}
use Rattle.moves.proofs.MovedBytes.{frame_long, frames_long, frames_next}
use Rattle.moves.proofs.HeadLaws.{head_long}
use Rattle.moves.proofs.LengthLaws.{part_fits}

-- The head and so many frames.
abbrev pub written : ℕ → ℕ → List ℕ → ℕ → List ℕ
written e d net s = head_in d (take 7 net) ++ frames_in e d s (drop 7 net)

-- The bytes of a head and m frames of edition e, and an output with room for as many of edition d.
pub record Room (e d : ℕ) (net out : List ℕ) (m : ℕ) : Type 0 where
  pub long : length net ≡ 7 + frame_bytes e * m
  pub fits : 7 + frame_bytes d * m ≤ length out

module _ {e d : ℕ} {net out : List ℕ} {m : ℕ} (w : Room e d net out m) where
  pub begins : {head : List ℕ} → head ≡ head_in d (take 7 net) → head ++ drop 7 out ≡ placed 0 (written e d net 0) out
  unfolding frames_in
  begins h = rw (h, append-nil (head_in d (take 7 net)), head_long d (take 7 net)) refl

  so_far : (s : ℕ) → s ≤ m → length (written e d net s) ≡ 7 + frame_bytes d * s
  so_far s h =
      let p : frame_bytes e * s ≤ frame_bytes e * m = mul-le-mul_left (frame_bytes e) h in
      let rest : frame_bytes e * s ≤ length (drop 7 net) = omega (arith, p, length-drop 7 net, w.long) in
      length-append (head_in d (take 7 net)) (frames_in e d s (drop 7 net))
      ∙ omega (arith, head_long d (take 7 net), frames_long e d s (drop 7 net) rest)

  module _ (s : ℕ) (h : s < m) where
    pub from_fits : 7 + frame_bytes e * s + frame_bytes e ≤ length net
    from_fits = part_fits e d net m w.long s h

    pub to_fits : 7 + frame_bytes d * s + frame_bytes d ≤ length out
    to_fits =
        let p : frame_bytes d * (s + 1) ≤ frame_bytes d * m = mul-le-mul_left (frame_bytes d) (omega arith) in
        omega (arith, p, w.fits, times_next (frame_bytes d) s)

    cut : part net (frame_bytes e) s ≡ frame_at e (drop 7 net) s
    cut =
        let l : 7 + frame_bytes e * s + frame_bytes e - (7 + frame_bytes e * s) ≡ frame_bytes e = omega arith in
        rw (l, drop-drop (frame_bytes e * s) 7 net) refl

    -- one frame more, cut out and written as the code does it, with sizes p and q
    pub goes_on : {here ys : List ℕ} {p q : ℕ} → p ≡ frame_bytes e → q ≡ frame_bytes d → here ≡ placed 0 (written e d net s) out
        → ys ≡ frame_in e d (take (7 + p * s + p - (7 + p * s)) (drop (7 + p * s) net))
        → take (7 + q * s) here ++ (ys ++ drop (7 + q * s + q - (7 + q * s)) (drop (7 + q * s) here)) ≡ placed 0 (written e d net (s + 1)) out
    goes_on {here} {ys} {p} {q} k j so y =
        let size = frame_bytes d in
        let place = 7 + size * s in
        let frame : ys ≡ frame_in e d (frame_at e (drop 7 net) s) =
        y ∙ ap (λ (n : ℕ). frame_in e d (take (7 + n * s + n - (7 + n * s)) (drop (7 + n * s) net))) k ∙ ap (frame_in e d) cut in
        let long : length ys ≡ size = ap length frame ∙ frame_long e d (frame_at e (drop 7 net) s) cut_long in
        let at : length (written e d net s) ≡ place = so_far s (omega arith) in
        let behind : drop (place + size - place) (drop place here) ≡ drop (place + length ys) here =
        drop-drop (place + size - place) place here ∙ ap (λ (i : ℕ). drop i here) (omega (arith, long)) in
        let next : written e d net s ++ ys ≡ written e d net (s + 1) =
        append_assoc (head_in d (take 7 net)) (frames_in e d s (drop 7 net)) ys
        ∙ ap (λ (l : List ℕ). head_in d (take 7 net) ++ l)
        (ap (λ (l : List ℕ). frames_in e d s (drop 7 net) ++ l) frame ∙ sym (frames_next e d s (drop 7 net))
        ∙ ap (λ (i : ℕ). frames_in e d i (drop 7 net)) (sym (add-one s))) in
        ap (λ (n : ℕ). take (7 + n * s) here ++ (ys ++ drop (7 + n * s + n - (7 + n * s)) (drop (7 + n * s) here))) j
        ∙ ap (λ (l : List ℕ). take place here ++ (ys ++ l)) behind
        ∙ ap₂ (λ (p : ℕ) (l : List ℕ). placed p ys l) (omega (arith, at)) so
        ∙ placed_then 0 (written e d net s) out (omega (arith, at, to_fits)) ys
        ∙ ap (λ (l : List ℕ). placed 0 l out) next
      where
        cut_long : length (frame_at e (drop 7 net) s) ≡ frame_bytes e
        cut_long = length-take (frame_bytes e) _ ∙ omega (arith, length-drop (frame_bytes e * s) (drop 7 net), length-drop 7 net, from_fits)

  -- the whole network
  pub ends : (s : ℕ) {here : List ℕ} → s ≤ m → m ≤ s → edition_of net ≡ e → segments_of net ≡ m → here ≡ placed 0 (written e d net s) out
      → here ≡ moved d net ++ drop (7 + frame_bytes d * m) out
  unfolding moved
  ends s {here} low high edition segments so =
      let same : s ≡ m = omega arith in
      let front : 0 + length (written e d net m) ≡ 7 + frame_bytes d * m = omega (arith, so_far m (omega arith)) in
      so ∙ rw (same, front, edition, segments) refl

-- The bytes of a moved network, frame by frame: a frame has the new edition's length; so many frames have so many times that; one frame more is put behind
-- those before it, and stands there when the frames are cut again.
-- Assumes nothing.
use Prim.Native.Nat.{ℕ, zero, suc, ◌+◌, ◌*◌, ◌≤◌, ◌<◌}
use mathlib.Core.Path.{◌≡◌, sym, ap, ◌∙◌}
use mathlib.Core.List.{List, ◌++◌, append_assoc, append-nil}
use native.Mathlib.Omega.{arith}
use native.Mathlib.Nat.{mul-zero, le_of_suc-le-suc}
use lib.ListN.{length, take, drop, replicate, length-append, length-take, length-drop, length-replicate}
use lib.Seq.{take_at, drop_at}
use Rattle.lists.proofs.Lists.{times_suc}
use Rattle.frames.specs.Edition.{extra, frame_bytes}
use Rattle.frames.proofs.EditionLaws.{frame_extra}
use Rattle.network.proofs.NetworkLaws.{frame_at, first_frame, next_frame}
use Rattle.moves.specs.Moved.{frame_in, frames_in}

module _ (e d : ℕ) where
  pub frame_long : (f : List ℕ) → length f ≡ frame_bytes e → length (frame_in e d f) ≡ frame_bytes d
  unfolding frame_in
  frame_long f size =
      omega (
        arith,
        length-append (take 7 f) (replicate (extra d) 0 ++ drop (7 + extra e) f),
        length-append (replicate (extra d) 0) (drop (7 + extra e) f),
        length-replicate {A = ℕ} (extra d) 0,
        length-take 7 f,
        length-drop (7 + extra e) f,
        size,
        frame_extra e,
        frame_extra d,
      )

  -- so many frames stand at the front of the bytes
  pub cut_long : (left : ℕ) (bytes : List ℕ) → frame_bytes e * suc left ≤ length bytes → length (take (frame_bytes e) bytes) ≡ frame_bytes e
  cut_long left bytes h = omega (arith, length-take (frame_bytes e) bytes, times_suc (frame_bytes e) left)

  pub rest_long : (left : ℕ) (bytes : List ℕ) → frame_bytes e * suc left ≤ length bytes → frame_bytes e * left ≤ length (drop (frame_bytes e) bytes)
  rest_long left bytes h = omega (arith, length-drop (frame_bytes e) bytes, times_suc (frame_bytes e) left)

  pub frames_long : (left : ℕ) (bytes : List ℕ) → frame_bytes e * left ≤ length bytes → length (frames_in e d left bytes) ≡ frame_bytes d * left
  unfolding frames_in
  frames_long zero bytes h = sym (mul-zero (frame_bytes d))
  frames_long (suc left) bytes h =
      omega (
        arith,
        length-append (frame_in e d (take (frame_bytes e) bytes)) (frames_in e d left (drop (frame_bytes e) bytes)),
        frame_long (take (frame_bytes e) bytes) (cut_long left bytes h),
        frames_long left (drop (frame_bytes e) bytes) (rest_long left bytes h),
        times_suc (frame_bytes d) left,
      )

  -- one frame more comes behind those before it
  pub frames_next : (s : ℕ) (bytes : List ℕ) → frames_in e d (suc s) bytes ≡ frames_in e d s bytes ++ frame_in e d (frame_at e bytes s)
  unfolding frames_in
  frames_next zero bytes = append-nil _ ∙ ap (frame_in e d) (first_frame e bytes)
  frames_next (suc s) bytes =
      let f = frame_in e d (take (frame_bytes e) bytes) in
      let rest = drop (frame_bytes e) bytes in
      ap (λ (u : List ℕ). f ++ u) (frames_next s rest)
      ∙ sym (append_assoc f (frames_in e d s rest) (frame_in e d (frame_at e rest s)))
      ∙ ap (λ (u : List ℕ). (f ++ frames_in e d s rest) ++ frame_in e d u) (next_frame e bytes s)

  -- the first frame, and those after it, cut from the moved frames
  module _ (left : ℕ) (bytes : List ℕ) (h : frame_bytes e * suc left ≤ length bytes) where
    pub first_moved : take (frame_bytes d) (frames_in e d (suc left) bytes) ≡ frame_in e d (take (frame_bytes e) bytes)
    unfolding frames_in
    first_moved = take_at _ _ (frame_bytes d) (frame_long (take (frame_bytes e) bytes) (cut_long left bytes h))

    pub others_moved : drop (frame_bytes d) (frames_in e d (suc left) bytes) ≡ frames_in e d left (drop (frame_bytes e) bytes)
    unfolding frames_in
    others_moved = drop_at _ _ (frame_bytes d) (frame_long (take (frame_bytes e) bytes) (cut_long left bytes h))

  pub frame_moved : (left : ℕ) (bytes : List ℕ) → frame_bytes e * left ≤ length bytes → (s : ℕ) → s < left
      → frame_at d (frames_in e d left bytes) s ≡ frame_in e d (frame_at e bytes s)
  frame_moved zero bytes h s l = absurd (omega arith)
  frame_moved (suc left) bytes h zero l =
      sym (first_frame d (frames_in e d (suc left) bytes)) ∙ first_moved left bytes h ∙ ap (frame_in e d) (first_frame e bytes)
  frame_moved (suc left) bytes h (suc s) l =
      sym (next_frame d (frames_in e d (suc left) bytes) s)
      ∙ ap (λ (u : List ℕ). frame_at d u s) (others_moved left bytes h)
      ∙ frame_moved left (drop (frame_bytes e) bytes) (rest_long left bytes h) s (le_of_suc-le-suc l)
      ∙ ap (frame_in e d) (next_frame e bytes s)

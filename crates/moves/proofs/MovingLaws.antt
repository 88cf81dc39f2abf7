-- What each test of a move decides, in its order; and the size of a moved network.
-- Assumes nothing.
use Prim.Native.Nat.{ℕ, ◌+◌, ◌*◌, ◌≤◌, ◌<◌}
use mathlib.Core.Bool.{Bool, true, false}
use mathlib.Core.Path.{◌≡◌, refl, sym, ap, ◌∙◌}
use mathlib.Core.List.{List, ◌++◌}
use native.Mathlib.Omega.{arith}
use lib.ListN.{length, drop, length-append, length-drop}
use borrow.Author.Tests.{eq-eqb, ne_eqb, eqb-true, le-leb, lt-leb, leb-true}
use Rattle.std.specs.Prelude.{Ok, Err, eqb, leb}
use Rattle.refusals.specs.declared.Refusal.TheVariants.{NotANetwork, NoSuchMove, AboveLimits, TooShortForMove}
use Rattle.refusals.specs.Numbers.{unless}
use Rattle.frames.specs.declared.Head.{Head}
use Rattle.frames.specs.Edition.{frame_bytes}
use Rattle.frames.specs.Decoded.{head_fields}
use Rattle.network.specs.Network.{head_of, edition_of, segments_of, is_network}
use Rattle.network.proofs.NetworkLaws.{network_length}
use Rattle.moves.specs.Moved.{head_in, frames_in, moved}
use Rattle.moves.specs.Moving.{within_limits, move_refusal, refused, written, told_by, output_by, MoveDid}
use Rattle.moves.proofs.HeadLaws.{head_long}
use Rattle.moves.proofs.MovedBytes.{frames_long}

-- an answer is a refusal or a number of bytes, and not both
pub written_only : {count number : ℕ} → written count ≡ refused number → ⊥
written_only e = cc

pub same_count : {count count' : ℕ} → written count ≡ written count' → count ≡ count'
same_count e = cc

module _ (net : List ℕ) (is : is_network net ≡ true) where
  after_head : frame_bytes (edition_of net) * segments_of net ≤ length (drop 7 net)
  after_head = omega (arith, length-drop 7 net, network_length net is)

  pub moved_long : (d : ℕ) → length (moved d net) ≡ 7 + frame_bytes d * segments_of net
  unfolding moved
  moved_long d =
      length-append (head_in d (head_of net)) (frames_in (edition_of net) d (segments_of net) (drop 7 net))
      ∙ omega (arith, head_long d (head_of net), frames_long (edition_of net) d (segments_of net) (drop 7 net) after_head)

  -- the same as the code counts it, from what the head says
  pub size_is : (d : ℕ) {head : Head} {size : ℕ} → head ≡ head_fields (head_of net) → size ≡ 7 + frame_bytes d * head.segments
      → length (moved d net) ≡ size
  size_is d e h = moved_long d ∙ sym (h ∙ ap (λ (x : Head). 7 + frame_bytes d * x.segments) e)

module _ {from to : ℕ} {net out : List ℕ} where
  pub no_network : is_network net ≡ false → MoveDid from to net out out (Err NotANetwork)
  unfolding move_refusal
  no_network none = record { answer = rw none refl; output = rw none refl }

  module _ (is : is_network net ≡ true) where
    pub no_move : (edition_of net ≡ from → ⊥) → MoveDid from to net out out (Err NoSuchMove)
    unfolding move_refusal
    no_move other = let e = ne_eqb (edition_of net) from other in record { answer = rw (is, e) refl; output = rw (is, e) refl }

    module _ (same : edition_of net ≡ from) where
      pub above : within_limits to net ≡ false → MoveDid from to net out out (Err AboveLimits)
      unfolding move_refusal
      above high =
          let e = eq-eqb (edition_of net) from same in record { answer = rw (is, e, high) refl; output = rw (is, e, high) refl }

      module _ (fits : within_limits to net ≡ true) where
        pub too_short : length out < length (moved to net) → MoveDid from to net out out (Err TooShortForMove)
        unfolding move_refusal
        too_short less =
            let e = eq-eqb (edition_of net) from same in
            let l = lt-leb (length (moved to net)) (length out) less in
            record { answer = rw (is, e, fits, l) refl; output = rw (is, e, fits, l) refl }

        pub does : {size : ℕ} {after : List ℕ} → length (moved to net) ≡ size → size ≤ length out → after ≡ moved to net ++ drop size out
            → MoveDid from to net out after (Ok size)
        unfolding move_refusal
        does {size} {after} long room writes =
            let e = eq-eqb (edition_of net) from same in
            let l = le-leb size (length out) room in
            record { answer = rw (is, e, fits, long, l) refl; output = rw (is, e, fits, long, l) (rw long writes) }

-- ---- what an answer that is no refusal says
pub record Did (from to : ℕ) (net before after : List ℕ) (count : ℕ) : Type 0 where
  pub accepted : is_network net ≡ true
  pub edition : edition_of net ≡ from
  pub limits : within_limits to net ≡ true
  pub counted : count ≡ length (moved to net)
  pub room : count ≤ length before
  pub output : after ≡ moved to net ++ drop count before

pub did : {from to : ℕ} {net before after : List ℕ} {count : ℕ} → MoveDid from to net before after (Ok count) → Did from to net before after count
unfolding move_refusal
did {from} {to} {net} {before} {after} {count} D =
    go (is_network net) refl (eqb (edition_of net) from) refl (within_limits to net) refl (leb (length (moved to net)) (length before)) refl D.answer D.output
  where
    go : (a : Bool) → is_network net ≡ a → (b : Bool) → eqb (edition_of net) from ≡ b → (x : Bool) → within_limits to net ≡ x
        → (y : Bool) → leb (length (moved to net)) (length before) ≡ y
        → written count ≡ told_by (unless a NotANetwork (unless b NoSuchMove (unless x AboveLimits (unless y TooShortForMove 0)))) (length (moved to net))
        → after ≡ output_by (unless a NotANetwork (unless b NoSuchMove (unless x AboveLimits (unless y TooShortForMove 0)))) (moved to net) before
        → Did from to net before after count
    go false p b q x r y s e o = let z : written count ≡ refused 8 = e in absurd (written_only z)
    go true p false q x r y s e o = let z : written count ≡ refused 16 = e in absurd (written_only z)
    go true p true q false r y s e o = let z : written count ≡ refused 17 = e in absurd (written_only z)
    go true p true q true r false s e o = let z : written count ≡ refused 18 = e in absurd (written_only z)
    go true p true q true r true s e o =
        let n : count ≡ length (moved to net) = same_count e in
        record {
          accepted = p;
          edition = eqb-true _ _ q;
          limits = r;
          counted = n;
          room = omega (arith, n, leb-true _ _ s);
          output = o ∙ ap (λ (i : ℕ). moved to net ++ drop i before) (sym n);
        }

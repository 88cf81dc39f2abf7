-- Document 02, Note 7: the two moves, each test in its order, and what they promise. Up is the move from edition 2 to 3, back the one from 3 to 2.
-- Assumes nothing.
use Rattle.std.specs.Prelude.{ℕ, zero, suc, Bool, true, ◌&&◌, ◌≡◌, List, ◌++◌, Result, Ok, Err, eqb, leb, length, take, drop}
use Rattle.refusals.specs.declared.Refusal.{Refusal}
use Rattle.refusals.specs.declared.Refusal.TheVariants.{NotANetwork, NoSuchMove, AboveLimits, TooShortForMove}
use Rattle.refusals.specs.Numbers.{number_of, unless}
use Rattle.frames.specs.Edition.{frame_bytes, most_nodes, most_segments, most_feet}
use Rattle.frames.specs.Frame.{feet, head_bytes}
use Rattle.network.specs.Network.{edition_of, nodes_of, segments_of, is_network}
use Rattle.moves.specs.Moved.{moved}

-- The lengths of so many frames of edition e are within the limit of edition d.
unfoldable pub lengths_ok : ℕ → ℕ → ℕ → List ℕ → Bool
lengths_ok e d zero bytes = true
lengths_ok e d (suc left) bytes = leb (feet e (take (frame_bytes e) bytes)) (most_feet d) && lengths_ok e d left (drop (frame_bytes e) bytes)

-- No count and no length of the network is above the limits of edition d.
unfoldable pub within_limits : ℕ → List ℕ → Bool
within_limits d net =
    leb (nodes_of net) (most_nodes d) && leb (segments_of net) (most_segments d)
    && lengths_ok (edition_of net) d (segments_of net) (drop head_bytes net)

-- The refusal's number, 0 for none: 8 the bytes are no network that Read could keep; 16 a network of another edition; 17 a count or length above the limits;
-- 18 an output shorter than the moved network. `room` is the output's length.
unfoldable pub move_refusal : ℕ → ℕ → List ℕ → ℕ → ℕ
move_refusal from to net room =
    unless (is_network net) NotANetwork
    (unless (eqb (edition_of net) from) NoSuchMove
    (unless (within_limits to net) AboveLimits (unless (leb (length (moved to net)) room) TooShortForMove 0)))

-- What a move tells: a refusal its number, else the number of bytes written.
pub data MoveTold : Type 0 where
  refused : ℕ → MoveTold
  written : ℕ → MoveTold

abbrev pub told_move : Result ℕ Refusal → MoveTold
told_move (Err why) = refused (number_of why)
told_move (Ok count) = written count

-- What the move from one edition to another tells, of these bytes and an output of this length.
abbrev pub told_by : ℕ → ℕ → MoveTold
told_by zero count = written count
told_by (suc number) count = refused (suc number)

abbrev pub move_told : ℕ → ℕ → List ℕ → ℕ → MoveTold
move_told from to net room = told_by (move_refusal from to net room) (length (moved to net))

-- The output after it: as it came where the move is refused; otherwise the moved network stands at the front, and the bytes past it stay.
abbrev pub output_by : ℕ → List ℕ → List ℕ → List ℕ
output_by zero bytes before = bytes ++ drop (length bytes) before
output_by (suc number) bytes before = before

abbrev pub move_output : ℕ → ℕ → List ℕ → List ℕ → List ℕ
move_output from to net before = output_by (move_refusal from to net (length before)) (moved to net) before

-- What a move promises, for every lent bytes and every lent output.
pub record MoveDid (from to : ℕ) (net before after : List ℕ) (r : Result ℕ Refusal) : Type 0 where
  pub answer : told_move r ≡ move_told from to net (length before)
  pub output : after ≡ move_output from to net before

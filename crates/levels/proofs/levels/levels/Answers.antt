-- A refusal prints its line; an acceptance has its network at the front of the room, and prints its lines.
use Rattle.std.proofs.Common.{◌∙◌, refl}
use Rattle.text.proofs.ReadTheorems.{kept_front}
use Rattle.levels.proofs.Printing.{prints_refusal, enough, prints_levels}
use Rattle.levels.proofs.levels.levels.Goals as goal

pub slice_bounds-net-end : goal.slice_bounds-net-end
slice_bounds-net-end c = (kept_front c.in-Ok.is c.read.ensures).1

pub of-net-requires : goal.of-net-requires
of-net-requires c = (kept_front c.in-Ok.is c.read.ensures).0

pub put_levels-requires : goal.put_levels-requires
put_levels-requires c = (c.clear.ensures, rw c.of-net.ensures (enough c.read.ensures refl c.in-Ok.is c.requires))

pub returns-in-Err : goal.returns-in-Err
returns-in-Err c = c.put_refusal.ensures ∙ prints_refusal c.read.ensures refl c.in-Err.is

pub returns-in-Ok : goal.returns-in-Ok
returns-in-Ok c = c.put_levels.ensures ∙ rw c.of-net.ensures (prints_levels c.read.ensures refl c.in-Ok.is)

-- The head is written, then each frame; after the last the output has them all, and its later bytes are as they were.
use native.Mathlib.Omega.{arith}
use Rattle.moves.proofs.Writing.{Room, begins, goes_on, ends}
use Rattle.moves.proofs.moved.write_moved.Goals as goal

pub loop-s-init : goal.loop-s-init
loop-s-init g c = begins (record { long = c.requires.0; fits = c.requires.1 }) c.write_head.ensures

pub loop-s-preserved : goal.loop-s-preserved
loop-s-preserved g c =
    let w : Room g.row.FROM g.row.TO c.args.net.now c.args.output.now c.args.segments = record { long = c.requires.0; fits = c.requires.1 } in
    goes_on w c.loop-s.s (omega arith) c.frame_bytes-from.ensures.is c.frame_bytes-to.ensures.is c.loop-s.invariant c.write_frame.ensures

pub returns : goal.returns
returns g c = ends (record { long = c.requires.0; fits = c.requires.1 }) c.loop-s.s (omega arith) (omega arith) c.requires.2 c.requires.3 c.loop-s.invariant

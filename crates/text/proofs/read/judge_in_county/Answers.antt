-- A head in order says no more nodes than a county has.
use native.Mathlib.Omega.{arith}
use Rattle.frames.proofs.FrameLaws.{head_limits}
use Rattle.text.proofs.read.judge_in_county.Goals as goal

pub judge_in-requires : goal.judge_in-requires
judge_in-requires c =
    ((head_limits c.args.first.now.bytes c.args.first.now.good).few_nodes, omega arith)

-- The head's line was read, so the lines after it begin where it ends; its fields and the room for the network decide.
use mathlib.Core.Path.{◌≡◌}
use native.Mathlib.Omega.{arith}
use Rattle.frames.specs.Faults.{framed, head_fault}
use Rattle.frames.proofs.FrameLaws.{framed_has, framed_good}
use Rattle.digits.proofs.DigitLaws.{line_after}
use Rattle.text.specs.Read.{read_of}
use Rattle.text.specs.Steps.Lines.{line_bytes}
use Rattle.text.proofs.LineLaws.{some_text}
use Rattle.text.proofs.read.judge_head.Goals as goal

pub returns : goal.returns
unfolding read_of head_fault
returns c =
    let good : framed 1 7 (line_bytes c.args.text.now) 0 ≡ 0 = grind arith in
    let after = line_after c.args.text.now 7 (omega arith) (framed_has 1 7 _ 0 good).long in
    grind (arith, framed_good, some_text)

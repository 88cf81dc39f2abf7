-- The head's two tests are `head_fault`; where they hold, the length and the frames are the rest of `is_network`.
use mathlib.Core.Bool.{true, ◌&&◌}
use mathlib.Core.Path.{◌≡◌, ◌∙◌}
use native.Mathlib.Omega.{arith}
use lib.Dec.{eqb}
use Rattle.std.proofs.lemmas.Grind.{common_steps}
use Rattle.frames.specs.Ranges.{head_ok}
use Rattle.frames.specs.Faults.{framed}
use Rattle.network.specs.Network.{head_of}
use Rattle.network.proofs.FramesChecked.{kept_is, by_frames}
use Rattle.network.proofs.kept.is_network_in.Goals as goal

pub returns-clause-checked : goal.returns-clause-checked
returns-clause-checked g c =
    let net = c.args.net.now in
    let good : (eqb (framed 1 7 (head_of net) 0) 0 && head_ok (head_of net)) ≡ true = grind (arith, common_steps) in
    by_frames good c.head_of-head.ensures (c.if-net-kept_bytes.false ∙ kept_is net c.head_of-head.ensures c.kept_bytes.ensures) c.frames_ok.ensures

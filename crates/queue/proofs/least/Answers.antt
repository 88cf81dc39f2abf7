-- The answer is what the root tells, the least key (../Root.antt).
use Rattle.queue.proofs.Root.{root_small, root_front}
use Rattle.queue.proofs.least.Goals as goal

pub overflow_sub-result : goal.overflow_sub-result
overflow_sub-result c =
    root_small _ _ c.requires

pub returns : goal.returns
returns c =
    root_front _ _ c.requires

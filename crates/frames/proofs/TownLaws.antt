-- A town has no more nodes, and no more segments, than its size.
-- Assumes nothing.
use Prim.Native.Nat.{ℕ, ◌≤◌}
use mathlib.Core.Bool.{true}
use mathlib.Core.Path.{◌≡◌}
use lib.Dec.{leb}
use borrow.Author.Tests.{leb-true}
use Rattle.lists.proofs.Facts.{and_true}
use Rattle.frames.specs.Steps.Sizes.{town_size, is_town}

pub town_nodes : (nodes segments : ℕ) → is_town nodes segments ≡ true → nodes ≤ town_size
unfolding is_town
town_nodes nodes segments t = leb-true _ _ (and_true (leb nodes town_size) (leb segments town_size) t).0

pub town_segments : (nodes segments : ℕ) → is_town nodes segments ≡ true → segments ≤ town_size
unfolding is_town
town_segments nodes segments t = leb-true _ _ (and_true (leb nodes town_size) (leb segments town_size) t).1

-- Each test decides in its order; where none fails, the whole network is written.
use Prim.Native.Nat.{ℕ}
use mathlib.Core.Path.{sym, ap, ◌∙◌}
use mathlib.Core.List.{◌++◌}
use native.Mathlib.Omega.{arith}
use lib.ListN.{drop}
use Rattle.frames.specs.declared.Head.{Head}
use Rattle.moves.specs.Moved.{moved}
use Rattle.moves.proofs.MovingLaws.{no_network, no_move, above, size_is, too_short, does}
use Rattle.moves.proofs.moving.move_to.Goals as goal

pub returns-then-not-is_kept : goal.returns-then-not-is_kept
returns-then-not-is_kept g c = no_network (sym c.is_kept.ensures ∙ c.if-not-is_kept.true)

pub returns-then-head : goal.returns-then-head
returns-then-head g c =
    no_move (sym c.is_kept.ensures ∙ c.if-not-is_kept.false) (λ e. c.if-head.true (ap (λ (h : Head). h.edition) c.head_of-head.ensures ∙ e))

pub returns-then-not-within_limits : goal.returns-then-not-within_limits
returns-then-not-within_limits g c =
    above (sym c.is_kept.ensures ∙ c.if-not-is_kept.false) (sym (ap (λ (h : Head). h.edition) c.head_of-head.ensures) ∙ c.if-head.false)
    (sym c.within_limits.ensures ∙ c.if-not-within_limits.true)

pub returns-then-output-size : goal.returns-then-output-size
returns-then-output-size g c =
    let is = sym c.is_kept.ensures ∙ c.if-not-is_kept.false in
    let size = size_is c.args.net.now is g.row.TO c.head_of-head.ensures c.kept_bytes-size.ensures in
    too_short is (sym (ap (λ (h : Head). h.edition) c.head_of-head.ensures) ∙ c.if-head.false)
    (sym c.within_limits.ensures ∙ c.if-not-within_limits.false) (omega (arith, size))

pub returns : goal.returns
returns g c =
    let is = sym c.is_kept.ensures ∙ c.if-not-is_kept.false in
    let size = size_is c.args.net.now is g.row.TO c.head_of-head.ensures c.kept_bytes-size.ensures in
    does is (sym (ap (λ (h : Head). h.edition) c.head_of-head.ensures) ∙ c.if-head.false)
    (sym c.within_limits.ensures ∙ c.if-not-within_limits.false) size c.if-output-size.false
    (c.write_moved.ensures ∙ ap (λ (n : ℕ). moved g.row.TO c.args.net.now ++ drop n c.args.output.now) (sym c.kept_bytes-size.ensures))

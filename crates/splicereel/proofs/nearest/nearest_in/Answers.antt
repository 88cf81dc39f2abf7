-- A refusal of the tests is passed on.
use Rattle.std.proofs.lemmas.Result.{err_from_is_err_and}
use mathlib.Core.Bool.{true}
use mathlib.Core.Path.{◌≡◌, refl, sym}
use borrow.Author.Rules.{rules}
use lib.Dec.{leb}
use lib.ListN.{length}
use Prim.Native.Nat.{◌*◌}
use Rattle.network.specs.Network.{nodes_of}
use Rattle.search_relaxing.specs.Steps.Counted.{network_in}
use Rattle.splicereel.proofs.Asking.{nearest_answers}
use Rattle.splicereel.proofs.nearest.nearest_in.Goals as goal

pub returns-in_err-ask : goal.returns-in_err-ask
returns-in_err-ask g c =
    let p = err_from_is_err_and c.from_residual.result c.from_residual.ensures.1 in
    rw (p.1, p.2) (record { refusal = c.in_err-ask.ensures 1 _; holds = refl })

pub returns-in_err-check_entries : goal.returns-in_err-check_entries
returns-in_err-check_entries g c =
    rw (← c.in_ok-ask.ensures.network) (search rules)

pub returns : goal.returns
returns g c =
    let A = c.in_ok-ask.ensures in
    let marks = c.args.marks.now in
    let fits : leb (1 * nodes_of (network_in c.in_ok-ask.ask)) (length marks) ≡ true = search (rules, c.in_ok-check_entries.ensures.0) in
    rw (← A.network) (nearest_answers c.nearest.result (sym (rw fits at (A.last_test 1 (length marks)))) (rw (A.start, A.within) at c.nearest.ensures))

-- A refusal of the tests is passed on; and the memory is what the search asks.
use Rattle.std.proofs.lemmas.Result.{err_from_is_err_and}
use Rattle.splicereel.proofs.MemoryLaws.{unmarked}
use mathlib.Core.Path.{refl}
use borrow.Author.Rules.{rules}
use Rattle.splicereel.proofs.reach_map.reach_map_in.Goals as goal

pub returns-in_err-ask : goal.returns-in_err-ask
returns-in_err-ask g c =
    let p = err_from_is_err_and c.from_residual.result c.from_residual.ensures.1 in
    rw (p.1, p.2) (record { refusal = c.in_err-ask.ensures 2 _; holds = refl })

pub reach-requires : goal.reach-requires
reach-requires g c =
    let A = c.in_ok-ask.ensures in
    (A.asked, A.scratch, unmarked c.in_ok-ask.ask.streets.net.kept A.network c.requires.1 c.unknown-goals.ensures, search rules)

pub returns-in_err-check_entries : goal.returns-in_err-check_entries
returns-in_err-check_entries g c =
    rw (← c.in_ok-ask.ensures.network) (search rules)

pub returns : goal.returns
returns g c =
    rw (← c.in_ok-ask.ensures.network) (search rules)

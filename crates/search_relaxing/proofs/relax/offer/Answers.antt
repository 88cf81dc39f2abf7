-- The legs that were chosen are offered in turn. Every edge to a run without a label leads onto one behind one of their entries: after the last every edge
-- is relaxed.
use mathlib.Core.Path.{◌≡◌}
use Rattle.search_labels.proofs.Exits.{offered_more, offered_all, offer_as}
use native.Mathlib.Omega.{arith}
use Rattle.search_relaxing.proofs.relax.offer.Goals as goal

pub relax_leg-requires : goal.relax_leg-requires
relax_leg-requires c = grind (arith, c.requires.1.ways _ c.loop-k-test.true)

pub loop-k-preserved : goal.loop-k-preserved
loop-k-preserved c =
    let W = c.requires.1.ways _ c.loop-k-test.true in
    let S = c.requires.0.settling in
    (offered_more c.loop-k.invariant.0 W.inside S.long S.long' (offer_as W.leads c.relax_leg.ensures.offered), c.relax_leg.ensures.settling)

pub returns : goal.returns
returns c =
    let i = c.loop-k.invariant in
    let e : c.loop-k.k ≡ c.args.choice.count = omega arith in
    record { relaxed = offered_all (c.requires.1.every _ c.requires.0.right) (rw e at i.0); settling = i.1 }

use Rattle.std.proofs.Common.{◌≡◌, ◌<◌, ℕ, below_more, length, sym}
use Rattle.std.specs.Prelude.{slice_index}
use Rattle.std.proofs.lemmas.Bool.{eqb-true}
use Rattle.isomorphisms.proofs.comparing.alone.Goals as goal

pub loop-x-preserved : goal.loop-x-preserved
loop-x-preserved c =
    let colours = c.args.colours.now in
    let others = c.args.others.now in
    let m = c.if-not-contains.ensures.cases in
    below_more
    (λ k. (y : ℕ) × (y < length others) × (slice_index colours k ≡ slice_index others y))
    c.loop-x.x c.loop-x.invariant (m.0, m.1, sym (eqb-true _ _ (m.2 0)))

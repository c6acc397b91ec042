use Rattle.std.proofs.Common.{ap, sym, ◌∙◌, fold}
use Rattle.std.specs.Hash as fed
use Rattle.element_sets.specs.Same.{lanes_of}
use Rattle.element_sets.specs.LaneLaws.{lanes_of-set_of}
use Rattle.element_sets.proofs.LaneSetHash.hash.Goals as goal

pub returns : goal.returns
returns g c =
    c.hash.ensures ∙ ap (λ ls. fold g.H.Hasher.write c.args.state.now (fed.slice fed.u64 ls))
    (sym (lanes_of-set_of g.row.LANES _ c.self.told c.self.invariant.fits) ∙ ap (lanes_of g.row.LANES) c.self.view_is)

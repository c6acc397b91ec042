use Rattle.std.proofs.Common.{rules, ◌*◌, arith, ◌∙◌, sym, subst, ap}
use Rattle.element_sets.specs.Translation.{translated, CanTranslate}
use Rattle.element_sets.proofs.HitLaws.{no_image, lane_more, lane_can, so_far}
use Rattle.element_sets.proofs.LaneSet.translate.Goals as goal

pub loop-i-init : goal.loop-i-init
loop-i-init g c = no_image c.new-all.result c.self.inside.lanes c.args.row.now c.new-all.ensures

pub add_lane-requires : goal.add_lane-requires
add_lane-requires g c = (
  search rules,
  lane_can (64 * g.row.LANES) c.self.inside.lanes c.args.row.now c.loop-i.i
      (subst (λ s. CanTranslate (64 * g.row.LANES) s c.args.row.now) (sym c.self.view_is) c.requires),
)

pub loop-i-preserved : goal.loop-i-preserved
loop-i-preserved g c =
    lane_more c.loop-i.all c.add_lane.new.all c.self.inside.lanes c.loop-i.i c.args.row.now
    c.loop-i.invariant c.add_lane.ensures

pub returns : goal.returns
returns g c =
    let count = c.self.invariant.length_is in
    let can =
    subst (λ s. CanTranslate (64 * g.row.LANES) s c.args.row.now) (sym c.self.view_is) c.requires in
    so_far (64 * g.row.LANES) c.loop-i.all c.self.inside.lanes c.args.row.now c.loop-i.i can
    c.loop-i.invariant (λ more. omega (arith, more))
    ∙ ap (λ s. translated s c.args.row.now) c.self.view_is

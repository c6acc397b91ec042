use Rattle.std.proofs.Common.{length, ◌≤◌, ◌∙◌, ap, subst, sym, arith}
use Rattle.presentations.specs.declared.TheConstants.{LETTERS}
use Rattle.presented_claims.specs.Led.{weight_of}
use Rattle.class_tables.specs.Leads.{Led}
use Rattle.class_tables.specs.Tables.{ClassLists}
use Rattle.class_tables.specs.Separated.{AreLowered}
use Rattle.class_tables.proofs.Lowering.{lowered-by}
use Rattle.class_tables.proofs.separating.lowers.Goals as goal

pub returns : goal.returns
returns g c = λ t few few_folds.
    let v : ClassLists = record {
      base = c.l.inside.base.items;
      tops = c.l.inside.tops.items;
      folds = c.l.inside.folds.items;
      images = c.l.inside.images;
      classes = c.l.inside.classes;
      labels = c.l.inside.labels;
    } in
    let base_is = c.as_slice-base.ensures.value ∙ ap (λ (v : ClassLists). v.base) c.l.view_is in
    let folds_is = c.as_slice-folds.ensures.value ∙ ap (λ (v : ClassLists). v.folds) c.l.view_is in
    let base_few = subst (λ v. length v ≤ LETTERS) (sym base_is) few in
    let folds_few = subst (λ v. length v ≤ LETTERS) (sym folds_is) few_folds in
    let first = ap (λ (v : Led). weight_of c.args.weights.now v.to) c.one.view_is in
    let second = ap (λ (v : Led). weight_of c.args.weights.now v.to) c.other.view_is in
    subst (λ (v : ClassLists). AreLowered c.args.p.now v c.args.weights.now c.args.x c.args.y c.args.w) c.l.view_is
    (lowered-by c.args.p.now v c.args.weights.now c.args.x c.args.y c.args.w c.as_slice-base.result.now
    c.as_slice-folds.result.now c.in_ok-a.a.now c.in_ok-b.b.now c.in_ok-z.z.now c.in_ok-one.one c.in_ok-other.other
    c.as_slice-base.ensures.value c.as_slice-folds.ensures.value c.in_ok-a.ensures c.in_ok-b.ensures c.in_ok-z.ensures
    (c.in_ok-one.ensures base_few folds_few) (c.in_ok-other.ensures base_few folds_few) (grind (arith, first, second))
    (c.differ.ensures t folds_few))

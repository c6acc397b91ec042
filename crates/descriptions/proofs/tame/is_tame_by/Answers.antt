use Rattle.std.proofs.Common.{◌≡◌, ◌<◌, ℕ, true, ap, subst, sym, ◌∙◌}
use Rattle.monoid_table.specs.Grids.{times_in}
use Rattle.descriptions.specs.Tame.{is_in_group}
use Rattle.descriptions.proofs.tame.is_tame_by.Goals as goal

pub returns-then-is_portion : goal.returns-then-is_portion
returns-then-is_portion c =
    let same = c.requires.table in (
      λ all. record {
        a_in = c.requires.a_in;
        e_in = c.requires.e_in;
        a_other = c.if-a-eq0.false;
        e_other = c.if-e-eq0.false;
        apart = c.if-a-e.false;
        square =
            subst (λ t. times_in t c.args.a c.args.a ≡ 0) same
            (sym c.times.ensures.value ∙ c.if-times-ne0.false);
        moves = λ e. c.if-times-e.false (c.times-else-times-ne0.ensures.value
            ∙ ap (λ t. times_in t c.args.a c.args.e) same ∙ e);
        portion = c.is_portion.ensures.0 c.if-is_portion.true;
        group =
            subst (λ t. (x : ℕ) → x < t.order → is_in_group t c.args.a c.args.e x ≡ true) same
            (c.are_in_group.ensures.0 all);
      },
      λ t. c.are_in_group.ensures.1
          (subst (λ g. (x : ℕ) → x < g.order → is_in_group g c.args.a c.args.e x ≡ true) (sym same)
          t.group),
    )

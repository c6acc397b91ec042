-- What is written is what the turn of a product leaves, by Turned. A refused growth leaves all as
-- it was.
use Rattle.std.proofs.Common.{◌+◌, ◌<◌, ◌∙◌, sym, ap, subst, arith, rules, length, refl}
use Rattle.pair_closure.specs.Turns.{State, KeepsNext, Multiplies}
use Rattle.pair_closure.specs.ClosureViews.{moved}
use Rattle.pair_closure.proofs.Machine.{of_run, members_tell}
use Rattle.pair_closure.specs.OverSets.{Held}
use Rattle.pair_closure.specs.Turns.{blank_held}
use Rattle.std.proofs.lemmas.List.{get_or_default}
use Rattle.pair_closure.proofs.Fit.{members_fit}
use Rattle.pair_closure.proofs.Kept.{kept}
use Rattle.pair_closure.proofs.Runs.{spent_fits}
use Rattle.pair_closure.proofs.Turned.{read_by, read_held, read_generator, product_keeps, product_next, product_turned}
use Rattle.pair_closure.proofs.closure.Closure.multiply.Goals as goal

pub index-generator-requires : goal.index-generator-requires
index-generator-requires g c = let l =
    read_by _ _ _ (subst (λ z. Multiplies z.state c.args.at) (sym c.self.view_is) c.requires)
    c.index-member.ensures in search rules

pub overflow_add-multiplied : goal.overflow_add-multiplied
overflow_add-multiplied g c =
    let l : c.index-member.result.now.by < length c.self.inside.generators.items =
    read_by _ _ _ (subst (λ z. Multiplies z.state c.args.at) (sym c.self.view_is) c.requires)
    c.index-member.ensures in
    search rules

pub returns-in_err-anew-clause-keeps : goal.returns-in_err-anew-clause-keeps
returns-in_err-anew-clause-keeps g c = λ _.
    subst (λ z. KeepsNext z.state) c.self.view_is
    (product_keeps _ c.args.at c.index-member.result.now c.index-generator.result.now
    c.times-product.result
    (subst (λ z. Multiplies z.state c.args.at) (sym c.self.view_is) c.requires)
    c.index-member.ensures c.index-generator.ensures c.times-product.ensures
    (c.in_err-anew.ensures.keeps refl))

pub overflow_add-self : goal.overflow_add-self
overflow_add-self g c = let fits = spent_fits _ c.self.invariant.0 in omega arith

pub invariant_of-self-2 : goal.invariant_of-self-2
invariant_of-self-2 g c =
    let next =
    product_next _ _ _ c.args.at c.index-member.result.now c.index-generator.result.now c.times-product.result
    c.in_ok-anew.anew _ c.self.invariant.0 (record {
      turns = subst (λ z. Multiplies z.state c.args.at) (sym c.self.view_is) c.requires;
      member = c.index-member.ensures;
      generator = c.index-generator.ensures;
      product = c.times-product.ensures;
      members_are = c.in_ok-anew.ensures.members;
      held_are = c.in_ok-anew.ensures.held;
    }) (λ e. c.in_ok-anew.ensures.before (search rules)) c.begin-self-inside.ensures in
    (next.0, next.1, c.self.invariant.2, c.self.invariant.3)

pub returns-clause-ok : goal.returns-clause-ok
returns-clause-ok g c =
    ap (λ (t : State).
    record { state = t; spent = c.self.inside.spent + 1; failed = c.self.inside.failed })
    (product_turned _ _ _ c.args.at c.index-member.result.now c.index-generator.result.now
    c.times-product.result (record {
      turns = subst (λ z. Multiplies z.state c.args.at) (sym c.self.view_is) c.requires;
      member = c.index-member.ensures;
      generator = c.index-generator.ensures;
      product = c.times-product.ensures;
      members_are = c.in_ok-anew.ensures.members;
      held_are = c.in_ok-anew.ensures.held;
    }))
    ∙ ap moved c.self.view_is

pub times-product-requires : goal.times-product-requires
times-product-requires g c =
    let few = c.self.invariant.3 in (
      omega arith,
      (
        omega arith,
        (
          read_held _ _ _ (of_run _ c.self.invariant.0)
              (subst (λ z. Multiplies z.state c.args.at) (sym c.self.view_is) c.requires) c.index-member.ensures,
          read_generator _ _ _ (of_run _ c.self.invariant.0)
              (read_by _ _ _ (subst (λ z. Multiplies z.state c.args.at) (sym c.self.view_is) c.requires)
              c.index-member.ensures) c.index-generator.ensures,
        ),
      ),
    )

pub settle_product-requires : goal.settle_product-requires
settle_product-requires g c =
    let few = c.self.invariant.3 in
    let turns = subst (λ z. Multiplies z.state c.args.at) (sym c.self.view_is) c.requires in
    let within = turns.within in (
      members_fit g.row.LANES g.row.A g.A.Allocator g.met.A.SmallAllocator.small,
      (
        omega arith,
        (
          within,
          (
            ap (λ (m : Held). m.pair)
                (c.index-member.ensures
                ∙ get_or_default c.self.inside.held.items c.args.at _ blank_held within),
            members_tell _ (of_run _ c.self.invariant.0) _,
          ),
        ),
      ),
    )

pub invariant_of-self : goal.invariant_of-self
invariant_of-self g c =
    let j = c.self.inside in
    let i = c.self.invariant in
    let same =
    kept j.table j.heaps.items j.limit j.members c.settle_product.new.members j.held.items c.settle_product.new.held.items j.generators.items j.generators.items j.next
    j.spent j.from j.failed c.in_err-anew.ensures.err_members c.in_err-anew.ensures.err_held refl (i.0, i.1) in
    (same.0, same.1, i.2, i.3)

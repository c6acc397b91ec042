use Rattle.std.proofs.Common.{◌≡◌, ◌≢◌, ◌∙◌, ℕ, ◌≤◌, ◌+◌, ◌^◌, ap, sym, subst, refl, true, false}
use Rattle.std.specs.Prelude.{IfSome, IfNone}
use Rattle.monoid_table.specs.Grids.{times_in}
use Rattle.descriptions.specs.Tame.IsTame.{First}
use Rattle.descriptions.proofs.Tameness.{first-only, no-group, by-order}
use Rattle.descriptions.proofs.tame.tame.Goals as goal

pub returns-then-is_first : goal.returns-then-is_first
returns-then-is_first c =
    let C = c.args.certified.now in
    let order_is =
    sym (c.order.ensures.value ∙ ap (λ x. x.order) c.cert.ensures.same) ∙ c.if-order-eq2.true in
    let p = c.if-is_first.ensures.0 refl in
    First order_is (subst (λ t. times_in t 1 1 ≡ 0) c.requires p.0) p.1

pub returns-else-is_first : goal.returns-else-is_first
returns-else-is_first c = λ n t.
    let C = c.args.certified.now in
    let order_is =
    sym (c.order.ensures.value ∙ ap (λ x. x.order) c.cert.ensures.same) ∙ c.if-order-eq2.true in
    let p = first-only C n order_is t in
    let wrong = c.if-is_first.ensures.1 (rw c.requires p.0, p.1) in cc

pub returns-then-not-has_group : goal.returns-then-not-has_group
returns-then-not-has_group c = λ n t.
    let C = c.args.certified.now in
    let order_is = c.order.ensures.value ∙ ap (λ x. x.order) c.cert.ensures.same in
    no-group C (λ e. c.if-order-eq2.false (order_is ∙ e))
    (λ a e by. let wrong : false ≡ true = c.if-not-has_group.ensures.1 (a, e, by) in cc) n t

pub returns : goal.returns
returns c =
    let C = c.args.certified.now in
    let order_is = c.order.ensures.value ∙ ap (λ x. x.order) c.cert.ensures.same in
    let order2_is = c.order-2.ensures.value ∙ ap (λ x. x.order) c.cert-2.ensures.same in
    let g = c.if-not-has_group.ensures.0 refl in
    by-order C g.0 g.1 c.exponent.result (λ e. c.if-order-eq2.false (order_is ∙ e)) g.2
    (subst (λ q. IfSome c.exponent.result (λ n. (2 ≤ n) × (q ≡ 2 ^ n + 2))) order2_is
    c.exponent.ensures.some)
    (subst (λ q. IfNone c.exponent.result ((n : ℕ) → 2 ≤ n → q ≢ 2 ^ n + 2)) order2_is
    c.exponent.ensures.none)

use Rattle.std.proofs.Common.{◌≡◌, ◌∙◌, sym, subst}
use Rattle.std.specs.Prelude.{IfOk, IfErr}
use Rattle.answers.specs.InfiniteRefusals.{refused}
use Rattle.presented_claims.specs.Presents.{Presents}
use Rattle.presented_checker.specs.Refused.{Fits, IsOrder}
use Rattle.presented_checker.proofs.UnrolledForms.{ranges-made, form-made, accepted-made, refused-made, told-again}
use Rattle.presented_checker.proofs.checking.judged_whole.Goals as goal

pub order_of-order-requires-clause-ranges : goal.order_of-order-requires-clause-ranges
order_of-order-requires-clause-ranges g c =
    let made = rw c.in-Ok-Some.field-0-is at c.in-Ok-Some.ensures.list in
    let few = rw c.in-Ok-Some.field-0-is at c.in-Ok-Some.ensures.few in
    ranges-made c.args.said c.in-Ok-Some.whole.said made c.requires.ranges few

pub order_of-order-requires-clause-in_form : goal.order_of-order-requires-clause-in_form
order_of-order-requires-clause-in_form g c =
    let made = rw c.in-Ok-Some.field-0-is at c.in-Ok-Some.ensures.list in
    form-made c.args.said c.in-Ok-Some.whole.said made c.requires.ranges c.requires.in_form

pub settled-requires-clause-yes : goal.settled-requires-clause-yes
settled-requires-clause-yes g c =
    let whole = c.in-Ok-Some.whole in
    let made = rw c.in-Ok-Some.field-0-is at c.in-Ok-Some.ensures.list in
    let heaps = rw c.in-Ok-Some.field-0-is at c.in-Ok-Some.ensures.heaps in
    let period = rw c.in-Ok-Some.field-0-is at c.in-Ok-Some.ensures.period in
    let words = rw c.in-Ok-Some.field-0-is at c.in-Ok-Some.ensures.words in
    let again : c.roll.result ≡ c.args.said =
    c.roll.ensures
    ∙ told-again c.args.said whole.said whole.heaps whole.period whole.words.items made heaps period words in
    subst (λ v. IfOk c.order_of-order.result (λ q. Presents v × IsOrder v q)) (sym again)
    (accepted-made c.args.said whole.said made c.requires.ranges c.requires.whole c.order_of-order.result
    c.order_of-order.ensures.yes)

pub settled-requires-clause-no : goal.settled-requires-clause-no
settled-requires-clause-no g c =
    let whole = c.in-Ok-Some.whole in
    let made = rw c.in-Ok-Some.field-0-is at c.in-Ok-Some.ensures.list in
    let heaps = rw c.in-Ok-Some.field-0-is at c.in-Ok-Some.ensures.heaps in
    let period = rw c.in-Ok-Some.field-0-is at c.in-Ok-Some.ensures.period in
    let words = rw c.in-Ok-Some.field-0-is at c.in-Ok-Some.ensures.words in
    let again : c.roll.result ≡ c.args.said =
    c.roll.ensures
    ∙ told-again c.args.said whole.said whole.heaps whole.period whole.words.items made heaps period words in
    subst (λ v. IfErr c.order_of-order.result (λ r. Fits v (refused r))) (sym again)
    (refused-made c.args.said whole.said made c.requires.ranges refused c.order_of-order.result
    c.order_of-order.ensures.no)

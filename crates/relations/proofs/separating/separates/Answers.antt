use Rattle.std.proofs.Common.{◌≡◌, ◌<◌, ◌∙◌, ℕ, All, length, arith, refl, subst, sym}
use Rattle.relations.proofs.Separated.{related-same}
use Rattle.relations.proofs.separating.separates.Goals as goal

pub returns : goal.returns
returns g c = λ t r.
    let table = c.args.quotient.now.table in
    let elements = c.as_slice-elements.result.now in
    let long : length elements ≡ c.args.letters =
    omega (arith, c.if-elements-letters.false, c.as_slice-elements.ensures.len)
    in
    let within : All (λ e. e < table.order) elements =
    subst (λ (n : ℕ). All (λ e. e < n) elements) c.order.ensures.value
    (c.if-not-are_below.ensures refl)
    in
    let same =
    related-same table elements c.args.others.now c.args.relation.now.left
    c.args.relation.now.right c.order.ensures.monoid within (c.if-not-hold.ensures refl)
    (rw long r)
    in
    let equal : c.value-left.result ≡ c.value-right.result =
    c.value-left.ensures.value ∙ same ∙ sym c.value-right.ensures.value
    in
    c.if-left-right.false equal

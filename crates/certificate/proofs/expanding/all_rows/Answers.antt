use Rattle.std.proofs.Common.{◌≡◌, ◌<◌, ◌≤◌, ◌+◌, ◌-◌, ℕ, List, length, sym, ap, ◌∙◌, subst}
use Rattle.std.specs.List.{concat}
use Rattle.compact_certificates.specs.Rows.{firsts_of}
use Rattle.certificate.specs.Fields.{Fields, HasFirstRows}
use Rattle.certificate.proofs.MadeRows.{rows_made, next_row}
use Rattle.certificate.proofs.expanding.all_rows.Given.{Over}
use Rattle.certificate.proofs.expanding.all_rows.Goals as goal
use Rattle.certificate.proofs.expanding.all_rows.Goals.{After-at-heap}

-- the key is one behind those of the first elements
low : (g : Over) (c : goal.After-at-heap g) → firsts_of c.fields.inside.words.items ≤ c.loop-i.i
low g c =
    subst (λ (n : ℕ). n ≤ c.loop-i.i)
    (c.firsts-i.ensures.value ∙ ap firsts_of c.deref-2.ensures.value) c.loop-i.auto.i

high : (g : Over) (c : goal.After-at-heap g) → c.loop-i.i < length c.fields.inside.words.items
high g c =
    subst (λ (n : ℕ). c.loop-i.i < n)
    (c.len-i-end.ensures ∙ sym c.deref-2.ensures.len
    ∙ ap (λ (ks : List (ℕ × ℕ)). length ks) c.deref-2.ensures.value) c.loop-i-test.true

pub push_product-requires-clause-x_there : goal.push_product-requires-clause-x_there
push_product-requires-clause-x_there g c =
    let here = (goal.at.push_product-requires-clause-x_there g c).After-at-heap in
    (next_row _ (subst HasFirstRows (sym c.fields.view_is) c.requires) c.loop-i.i
    c.key.inside.element c.key.inside.heap (low g here) (high g here) c.index-key.result.now
    c.key.view_is c.index-key.ensures c.at-heap.result c.at-heap.ensures c.loop-i.rows.items
    (subst
    (λ (f : Fields). c.loop-i.rows.items ≡ concat (rows_made f (c.loop-i.i - firsts_of f.words)))
    (sym c.fields.view_is) c.loop-i.invariant)).element

pub push_product-requires-clause-y_there : goal.push_product-requires-clause-y_there
push_product-requires-clause-y_there g c =
    let here = (goal.at.push_product-requires-clause-y_there g c).After-at-heap in
    (next_row _ (subst HasFirstRows (sym c.fields.view_is) c.requires) c.loop-i.i
    c.key.inside.element c.key.inside.heap (low g here) (high g here) c.index-key.result.now
    c.key.view_is c.index-key.ensures c.at-heap.result c.at-heap.ensures c.loop-i.rows.items
    (subst
    (λ (f : Fields). c.loop-i.rows.items ≡ concat (rows_made f (c.loop-i.i - firsts_of f.words)))
    (sym c.fields.view_is) c.loop-i.invariant)).heap

pub push_product-requires-clause-below : goal.push_product-requires-clause-below
push_product-requires-clause-below g c =
    let here = (goal.at.push_product-requires-clause-below g c).After-at-heap in
    (next_row _ (subst HasFirstRows (sym c.fields.view_is) c.requires) c.loop-i.i
    c.key.inside.element c.key.inside.heap (low g here) (high g here) c.index-key.result.now
    c.key.view_is c.index-key.ensures c.at-heap.result c.at-heap.ensures c.loop-i.rows.items
    (subst
    (λ (f : Fields). c.loop-i.rows.items ≡ concat (rows_made f (c.loop-i.i - firsts_of f.words)))
    (sym c.fields.view_is) c.loop-i.invariant)).below

pub loop-i-preserved : goal.loop-i-preserved
loop-i-preserved g c =
    let here = (goal.at.loop-i-preserved g c).After-at-heap in
    subst
    (λ (f : Fields). c.push_product.new.rows.items
    ≡ concat (rows_made f (c.loop-i.i + 1 - firsts_of f.words))) c.fields.view_is
    (c.in_ok-push_product.ensures.ok
    ∙ (next_row _ (subst HasFirstRows (sym c.fields.view_is) c.requires) c.loop-i.i
    c.key.inside.element c.key.inside.heap (low g here) (high g here) c.index-key.result.now
    c.key.view_is c.index-key.ensures c.at-heap.result c.at-heap.ensures c.loop-i.rows.items
    (subst
    (λ (f : Fields). c.loop-i.rows.items ≡ concat (rows_made f (c.loop-i.i - firsts_of f.words)))
    (sym c.fields.view_is) c.loop-i.invariant)).joined)

use Rattle.std.proofs.Common.{◌≡◌, ◌+◌, [], ◌∷◌, ◌++◌, IfOk, map, take, sym, ap, ap₂, subst, ◌∙◌}
use Rattle.std.proofs.lemmas.List.{map-append, take_more, take_all}
use Rattle.serde_json.specs.View.{view, items_of}
use Rattle.catalogue.specs.Texts.{entry_data, file_data}
use Rattle.catalogue.proofs.store.Catalogue.value.Goals as goal

pub loop-certified-preserved : goal.loop-certified-preserved
loop-certified-preserved c =
    let items = c.entries-certified-items.result.now in
    let i = c.loop-certified.certified-index in
    let v = c.certified-item.result in
    let more : take (i + 1) items ≡ take i items ++ v ∷ [] =
    take_more items i v c.loop-certified-test.true ∙ ap (λ x. take i items ++ x ∷ [])
    (sym c.certified-item.is) in
    ap (map view) c.in_ok-push.ensures.items ∙ map-append view c.loop-certified.entries.items
    (c.in_ok-entry.entry ∷ [])
    ∙ ap₂ (λ xs x. xs ++ x ∷ []) c.loop-certified.invariant
    (c.in_ok-entry.ensures ∙ ap entry_data c.cert.ensures.same)
    ∙ sym (ap (map entry_data) more ∙ map-append entry_data (take i items) (v ∷ []))

pub returns : goal.returns
returns c =
    let items = c.entries-certified-items.result.now in
    let same =
    c.loop-certified.invariant
    ∙ ap (map entry_data)
    (take_all c.loop-certified.certified-index items c.loop-certified-test.false
    ∙ c.entries-certified-items.ensures.all) in
    subst (λ ds. IfOk c.file_value.result (λ v. view v ≡ file_data (items_of ds))) same
    c.file_value.ensures

use Rattle.std.proofs.Common.{◌≡◌, [], ◌∷◌, ◌++◌, false, string_bytes, ap, ◌∙◌}
use Rattle.serde_json.specs.View.{view}
use Rattle.serde_json.specs.Written.{has_float, compact_text}
use Rattle.catalogue.proofs.TextLemmas.{no_float}
use Rattle.catalogue.proofs.store.Catalogue.text.Goals as goal

pub returns : goal.returns
unfolding lib.Utf8.encode
returns c =
    let plain : has_float (view c.in_ok-value.value) ≡ false =
    ap has_float c.in_ok-value.ensures ∙ no_float c.args.self.now in
    let written : string_bytes c.in_ok-text.text ≡ compact_text (view c.in_ok-value.value) =
    c.in_ok-text.ensures.text plain in
    c.in_ok-push.ensures.bytes
    ∙ ap (λ s. s ++ 10 ∷ []) (written ∙ ap compact_text c.in_ok-value.ensures)

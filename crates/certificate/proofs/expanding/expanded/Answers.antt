use Rattle.std.proofs.Common.{◌≡◌, ◌*◌, ◌<◌, All, sym, ap, ◌∙◌, subst}
use Rattle.compact_certificates.specs.Compact.{expanded}
use Rattle.compact_certificates.specs.Lanes.{claim_in}
use Rattle.compact_certificates.specs.Separators.{separators_of}
use Rattle.certificate.specs.Fields.{Fields, IsWhole, certificate_of, compact_of}
use Rattle.certificate.proofs.MadeRows.{table_long, table_below, separators_made, is_whole, is_expanded}
use Rattle.certificate.proofs.expanding.expanded.Given.{Over}
use Rattle.certificate.proofs.expanding.expanded.Goals as goal
use Rattle.certificate.proofs.expanding.expanded.Goals.{After-least_separators}

pub least_separators-requires-clause-rows_there : goal.least_separators-requires-clause-rows_there
least_separators-requires-clause-rows_there g c =
    table_long _ c.requires _ (c.deref-2.ensures.value ∙ c.in_ok-rows.ensures)
    ∙ ap (λ (f : Fields). f.order * f.order) (sym c.fields.view_is)

pub least_separators-requires-clause-below : goal.least_separators-requires-clause-below
least_separators-requires-clause-below g c =
    subst (λ (f : Fields). All (λ z. z < f.order) c.deref-2.result.now) (sym c.fields.view_is)
    (table_below _ c.requires _ (c.deref-2.ensures.value ∙ c.in_ok-rows.ensures))

-- the separators are those of the certificate
apart : (g : Over) (c : goal.After-least_separators g)
    → separators_of (claim_in c.fields.inside.order c.deref-2.result.now c.deref-3.result.now)
    ≡ (expanded (compact_of c.args.fields)).apart
apart g c =
    separators_made _ c.requires
    (λ inside portion. c.flat_tables_have_the_same_separators.ensures
    (expanded (compact_of c.args.fields)) inside (c.certificates_in_ranges_have_tables.ensures
    (expanded (compact_of c.args.fields)) c.requires.writable.in_ranges) portion)
    _ _ _ _ _ (ap (λ (f : Fields). f.order) c.fields.view_is)
    (c.deref-2.ensures.value ∙ c.in_ok-rows.ensures)
    (c.deref.ensures.value ∙ ap (λ (f : Fields). f.portion) c.fields.view_is)
    c.deref-3.ensures.value c.in_ok-inside.ensures.marked

pub from_fields-requires : goal.from_fields-requires
from_fields-requires g c =
    subst IsWhole
    (ap
    (λ (f : Fields). record f { rows = c.in_ok-rows.rows.items; apart = c.in_ok-apart.apart.items })
    (sym c.fields.view_is))
    (is_whole _ c.requires _ _ c.in_ok-rows.ensures
    (c.in_ok-apart.ensures ∙ apart g (goal.at.from_fields-requires g c).After-least_separators))

pub returns : goal.returns
returns g c =
    c.from_fields.ensures
    ∙ ap
    (λ (f : Fields). certificate_of
    (record f { rows = c.in_ok-rows.rows.items; apart = c.in_ok-apart.apart.items }))
    c.fields.view_is
    ∙ is_expanded _ c.requires _ _ c.in_ok-rows.ensures
    (c.in_ok-apart.ensures ∙ apart g (goal.at.returns g c).After-least_separators)

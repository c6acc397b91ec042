use Rattle.std.proofs.Common.{subst, sym, ◌≡◌, true, false}
use Rattle.monoid_table.specs.Grids.{IsShaped}
use Rattle.certificate.specs.Fields.{certificate_of}
use Rattle.checker.proofs.laws.Laws.new.Goals as goal

pub unreachable-requires : goal.unreachable-requires
unreachable-requires g c =
    let whole = c.into_fields.ensures.whole in
    let shaped =
    subst (IsShaped c.into_fields.result.order) whole.rows_joined
    (c.claims_agree.ensures.shaped (certificate_of c.into_fields.result) whole.writable.in_ranges) in
    let inside = subst (λ p. IsShaped p.order p.rows) (sym c.code.view_is) shaped in
    let b : false ≡ true = c.in_default.ensures.ok.1 inside in
    cc

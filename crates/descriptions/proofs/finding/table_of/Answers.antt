use Rattle.std.proofs.Common.{◌≡◌, ◌∙◌, sym, ap, subst, true, false, rules}
use Rattle.std.specs.List.{concat}
use Rattle.monoid_table.specs.Grids.{IsTable}
use Rattle.descriptions.proofs.Tables.{table-is}
use Rattle.descriptions.proofs.finding.table_of.Goals as goal

pub unreachable-requires : goal.unreachable-requires
unreachable-requires c =
    let C = c.args.certified.now in
    let a = c.cert-cert.ensures.accepted in
    let same = c.cert-cert.ensures.same in
    let copied : c.in_ok-rows.rows.items ≡ c.rows.result.now = search rules in
    let order_is : c.order.result ≡ C.order =
    c.order.ensures.value ∙ ap (λ x. x.order) same
    in
    let rows_are : c.in_ok-rows.rows.items ≡ concat C.rows =
    copied ∙ c.rows.ensures ∙ ap (λ x. concat x.rows) same
    in
    let t = table-is C (c.claims_agree.ensures.shaped C a.in_ranges)
    (c.claims_agree.ensures.agrees C a.in_ranges) a.represents.monoid
    in
    let wrong : false ≡ true =
    c.in-Err.ensures.ok.1
    (subst (λ q. IsTable q c.in_ok-rows.rows.items) (sym order_is)
    (subst (λ r. IsTable C.order r) (sym rows_are) t))
    in
    cc

use Rattle.std.proofs.Common.{refl, arith}
use Rattle.std.specs.List.{concat}
use Rattle.misere_theory.specs.Certificates.{claim_of}
use Rattle.compact_certificates.specs.Lanes.{claim_in}
use Rattle.compact_certificates.proofs.FlatRows.{flat_entry}
use Rattle.compact_certificates.proofs.Least.{same_separators}
use Rattle.compact_certificates.proofs.separators.flat_tables_have_the_same_separators.Goals as goal

pub returns : goal.returns
returns g c inside t portion =
    same_separators (claim_in c.order (concat c.rows) inside) (claim_of c) refl
    (λ x y l b.
    flat_entry c.order c.rows x y (λ k d m. (t.rows.1 k d m).0)
    (let n = t.rows.0 in omega arith) b) portion

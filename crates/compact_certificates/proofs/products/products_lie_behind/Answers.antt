use Rattle.compact_certificates.proofs.FlatRows.{product_lies}
use Rattle.compact_certificates.proofs.products.products_lie_behind.Goals as goal

pub returns-clause-behind : goal.returns-clause-behind
returns-clause-behind g order phi rows key h l m = product_lies order phi rows key h l m

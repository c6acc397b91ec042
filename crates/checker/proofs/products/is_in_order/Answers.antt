use Rattle.std.proofs.Common.{rules}
use Rattle.checker.proofs.products.is_in_order.Goals as goal

pub returns-else-product-eq0-clause-in_order : goal.returns-else-product-eq0-clause-in_order
returns-else-product-eq0-clause-in_order g c = search rules

pub returns-else-product-eq0-clause-same : goal.returns-else-product-eq0-clause-same
returns-else-product-eq0-clause-same g c = search rules

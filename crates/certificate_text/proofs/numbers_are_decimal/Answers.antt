use Rattle.certificate_text.proofs.Digits.{is_decimal, decimal_is}
use Rattle.certificate_text.proofs.numbers_are_decimal.Goals as goal

pub returns-clause-one : goal.returns-clause-one
returns-clause-one g ds n fits h = is_decimal h fits

pub returns-clause-is : goal.returns-clause-is
returns-clause-is g = decimal_is

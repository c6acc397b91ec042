use Rattle.compact_certificates.proofs.Least.{separator_is, separator_none}
use Rattle.compact_certificates.proofs.separators_are_the_least.Goals as goal

pub returns-clause-least : goal.returns-clause-least
returns-clause-least g c p z h = separator_is c p z h

pub returns-clause-none : goal.returns-clause-none
returns-clause-none g c p h = separator_none c p h

-- The map has nothing at the name, and what it had at every other.
use Rattle.std.proofs.Common.{arith}
use Rattle.std.proofs.lemmas.Map.Text.{text_keys}
use Rattle.streams.proofs.memory_folder.MemoryFolder.forget.Goals as goal

pub returns-clause-lost : goal.returns-clause-lost
returns-clause-lost c = (grind (arith, text_keys), λ other differs. grind (arith, text_keys))

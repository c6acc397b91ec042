-- The map has the bytes at the name, and what it had at every other.
use Rattle.std.proofs.Common.{arith}
use Rattle.std.proofs.lemmas.Map.Text.{text_keys}
use Rattle.streams.proofs.memory_folder.MemoryFolder.put.Goals as goal

pub returns-clause-put : goal.returns-clause-put
returns-clause-put c = (grind (arith, text_keys), λ other differs. grind (arith, text_keys))

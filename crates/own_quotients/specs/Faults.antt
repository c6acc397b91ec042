-- Why bytes are not read as a table. This project's own.
use Rattle.std.specs.Prelude.{ℕ, List}
use Rattle.own_quotients.specs.Tables.{Own}
use Rattle.own_quotients.specs.Texts.{SpellsTable}
use Rattle.own_quotients.specs.declared.reading.TableFault.{TableFault}
use Rattle.own_quotients.specs.declared.reading.TableFault.TheVariants.{Text, Memory}

-- no table is spelled so; want of memory says nothing of the bytes
abbrev pub SpellsNone : List ℕ → TableFault → Type 0
SpellsNone bytes (Text line) = (o : Own) → SpellsTable bytes o → ⊥
SpellsNone bytes Memory = Unit {0}

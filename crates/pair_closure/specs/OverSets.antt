-- Members whose sets are seen as finite sets, however many lanes they have.
use Rattle.std.specs.Ordering.{nat_cmp}
use Rattle.std.specs.FinSet as set
use Rattle.pair_closure.specs.declared.members.Member as members
use Rattle.pair_closure.specs.declared.settle.Held as helds
use Rattle.pair_closure.specs.declared.settle.Generator as generators

abbrev pub Member : Type 0
Member = members.Member (set.FinSet nat_cmp)

abbrev pub Held : Type 0
Held = helds.Held (set.FinSet nat_cmp)

abbrev pub Generator : Type 0
Generator = generators.Generator (set.FinSet nat_cmp)

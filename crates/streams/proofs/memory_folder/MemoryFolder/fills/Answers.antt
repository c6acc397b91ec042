use Rattle.std.proofs.Common.{◌≡◌, ◌∙◌, Bool, true, false, ℕ, List, Option, Some, option_map}
use Rattle.std.specs.BTreeMap.{get_by_text}
use Rattle.streams.specs.Files.{Replaces}
use Rattle.streams.specs.Disks.{Spares}
use Rattle.streams.specs.declared.memory_folder.MemoryFolder.{MemoryFolder}
use Rattle.streams.proofs.DiskLemmas.{either_spares}
use Rattle.streams.proofs.memory_folder.MemoryFolder.fills.Goals as goal

abbrev known : MemoryFolder → Option (List ℕ → Option (List ℕ))
known f = Some (λ name. option_map (λ v. v.items) (get_by_text f.files name))

-- what a call that puts the bytes there or doesn't does to the others
others : (before after : MemoryFolder) (puts : Bool) (name bytes : List ℕ)
    → (puts ≡ true → Replaces (known before) (known after) name bytes)
    → (puts ≡ false → known after ≡ known before) → Spares (known before) (known after) name
others before after puts name bytes put kept =
    either_spares (known before) (known after) puts name bytes put kept

pub returns-then-not-puts-clause-spared : goal.returns-then-not-puts-clause-spared
returns-then-not-puts-clause-spared c =
    others c.args.self.now c.puts.new.self c.puts.result c.args.name.now _ c.puts.ensures.put
    c.puts.ensures.kept

pub returns-clause-spared : goal.returns-clause-spared
returns-clause-spared c other differs =
    others c.puts.new.self c.puts-2.new.self c.puts-2.result c.args.name.now _ c.puts-2.ensures.put
    c.puts-2.ensures.kept other differs
    ∙ others c.args.self.now c.puts.new.self c.puts.result c.args.name.now _ c.puts.ensures.put
    c.puts.ensures.kept other differs

-- What goes out on standard output and standard error. This project's own.
use Rattle.std.specs.Prelude.{◌≡◌, ◌<◌, ◌⊎◌, ℕ, List, Option}
use Rattle.std.specs.Io.KnownBytes.{Appends}
use Rattle.streams.specs.Stream.{AppendsSome}

-- Standard output or standard error: the bytes that it took, where they are known, and how often it
-- failed.
pub record Printer : Type 0 where
  pub taken : Option (List ℕ)
  pub failures : ℕ

abbrev pub printer : Option (List ℕ) → ℕ → Printer
printer taken failures = record { taken = taken; failures = failures }

-- all of the text went out
abbrev pub Prints : Printer → Printer → List ℕ → Type 0
Prints before after text = Appends before.taken after.taken text

-- a beginning of the text went out, and then the printer failed
abbrev pub PrintsSome : Printer → Printer → List ℕ → Type 0
PrintsSome before after text = AppendsSome before.taken after.taken text
    × (before.failures < after.failures)

-- the line went out, and the printer didn't fail; or a beginning of it did, and the printer failed
abbrev pub PrintsLine : Printer → Printer → List ℕ → Type 0
PrintsLine before after line =
    (Prints before after line × (after.failures ≡ before.failures)) ⊎ PrintsSome before after line

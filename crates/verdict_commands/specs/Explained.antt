-- What `explain` prints. This project's own.
use Rattle.std.specs.Prelude.{◌≡◌, ◌<◌, ◌≤◌, ◌⊎◌, Bool, true, false, ℕ, List, codes, length}
use Rattle.misere_theory.specs.Certificates.{Certificate as MqcSaid}
use Rattle.certificate_text.specs.Spelling.{Spells}
use Rattle.dominance_text.specs.Said.{DominanceSaid}
use Rattle.dominance_text.specs.Spelling.{SpellsDominance}
use Rattle.presented_text.specs.Said.{PresentedSaid}
use Rattle.presented_text.specs.Spelling.{SpellsPresented}
use Rattle.own_quotients.specs.Tables.{Own}
use Rattle.own_quotients.specs.Texts.{SpellsTable}
use Rattle.verdict_texts.specs.declared.stream.TheConstants.{MOST_BYTES}
use Rattle.verdict_commands.specs.declared.kinds.Kind.{Kind}
use Rattle.verdict_commands.specs.declared.kinds.Kind.TheVariants.{Certificate, Whole, Presented, Table}
use Rattle.verdict_commands.specs.declared.kinds.Seen.{Seen}
use Rattle.verdict_commands.specs.declared.kinds.Seen.TheVariants.{Is, Not}

-- The bytes are a text of this kind.
abbrev pub SpellsKind : Kind → List ℕ → Type 0
SpellsKind Certificate bytes = (c : MqcSaid) × Spells bytes c
SpellsKind Whole bytes = (c : DominanceSaid) × SpellsDominance bytes c
SpellsKind Presented bytes = (c : PresentedSaid) × SpellsPresented bytes c
SpellsKind Table bytes = (o : Own) × SpellsTable bytes o

-- whether they are
abbrev pub IsAnswerOf : Kind → List ℕ → Bool → Type 0
IsAnswerOf kind bytes true = SpellsKind kind bytes
IsAnswerOf kind bytes false = SpellsKind kind bytes → ⊥

-- what kind they are, or that they are of none
abbrev pub IsSeen : List ℕ → Seen → Type 0
IsSeen bytes (Is kind) = SpellsKind kind bytes
IsSeen bytes (Not furthest) = (kind : Kind) → SpellsKind kind bytes → ⊥

-- The line that names a kind, and the command that reads it.
abbrev pub kind_line : Kind → List ℕ
kind_line Certificate = codes "a certificate's text\n"
kind_line Whole = codes "the text of a whole game: misere infinite checks it\n"
kind_line Presented = codes "the text of a presentation: misere verify checks it\n"
kind_line Table = codes "the text of a table: misere certify reads it\n"

-- The bytes are more than are read, and so no certificate's text.
abbrev pub IsLong : List ℕ → List ℕ → Type 0
IsLong bytes text =
    (MOST_BYTES < length bytes) × (SpellsKind Certificate bytes → ⊥)
    × (text ≡ codes "more than 4194304 bytes\n")

-- The bytes are a text of the kind that the line names; or they are a text of no kind, and why is only
-- tested; or there are more of them than are read.
abbrev pub Explains : List ℕ → List ℕ → Bool → Type 0
Explains bytes text true =
    (length bytes ≤ MOST_BYTES) × ((kind : Kind) × SpellsKind kind bytes × (text ≡ kind_line kind))
Explains bytes text false =
    ((length bytes ≤ MOST_BYTES) × ((kind : Kind) → SpellsKind kind bytes → ⊥)) ⊎ IsLong bytes text

-- the same of the bytes that are given
abbrev pub ExplainsGiven : (List ℕ → Type 0) → List ℕ → Bool → Type 0
ExplainsGiven Are text succeeds = (bytes : List ℕ) × Are bytes × Explains bytes text succeeds

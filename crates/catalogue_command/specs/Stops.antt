-- Why an action ends without an answer. This project's own.
use Rattle.std.specs.Prelude.{◌≡◌, ◌<◌, ◌⊎◌, ⊤, ℕ, Bool, false, List}
use Rattle.octal_code.specs.Text.{IsCodeText}
use Rattle.command_results.specs.declared.stop.Stop.{Stop}
use Rattle.command_results.specs.declared.stop.Stop.TheVariants.{Read, Write, Memory, NotACode}

-- How often reads and writes of a folder have failed.
pub record Failed : Type 0 where
  pub reads : ℕ
  pub writes : ℕ

abbrev pub failed : ℕ → ℕ → Failed
failed reads writes = record { reads = reads; writes = writes }

-- Why an action stops that reads such files, and may write, and may need a code: a read of such a
-- file failed, or a write did, or no device failed and memory was wanting, or there is no code.
abbrev pub IsStop : (List ℕ → Type 0) → Type 0 → Type 0 → Failed → Failed → Stop → Type 0
IsStop Reads MayWrite LacksCode before after (Read name) =
    Reads name.now × (before.reads < after.reads)
IsStop Reads MayWrite LacksCode before after Write = MayWrite × (before.writes < after.writes)
IsStop Reads MayWrite LacksCode before after Memory = (after.reads ≡ before.reads)
    × (after.writes ≡ before.writes)
IsStop Reads MayWrite LacksCode before after NotACode = LacksCode
IsStop Reads MayWrite LacksCode before after _ = ⊥

-- the text isn't a code's
abbrev pub IsNoCode : List ℕ → Type 0
IsNoCode text = (digits : List ℕ) → IsCodeText text digits → ⊥

-- a listing reads the file
abbrev pub StopsList : List ℕ → Failed → Failed → Stop → Type 0
StopsList file = IsStop (λ name. name ≡ file) ⊥ ⊥

-- whoever gets an entry reads the file, and needs a code
abbrev pub StopsGet : List ℕ → List ℕ → Failed → Failed → Stop → Type 0
StopsGet file code = IsStop (λ name. name ≡ file) ⊥ (IsNoCode code)

-- what is made is written only
abbrev pub StopsCreate : Failed → Failed → Stop → Type 0
StopsCreate = IsStop (λ name. ⊥) ⊤ ⊥

-- an addition reads the certificate, and the file unless it begins with an empty catalogue, and
-- writes
abbrev pub StopsAdd : Bool → List ℕ → List ℕ → Failed → Failed → Stop → Type 0
StopsAdd fresh file certificate =
    IsStop (λ name. ((fresh ≡ false) × (name ≡ file)) ⊎ (name ≡ certificate)) ⊤ ⊥

-- a salvage and a migration read the file and write it
abbrev pub StopsSalvage : List ℕ → Failed → Failed → Stop → Type 0
StopsSalvage file = IsStop (λ name. name ≡ file) ⊤ ⊥

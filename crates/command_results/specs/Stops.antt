-- What stops a command before anything is printed: the status, the line on standard error, and when
-- it is answered. This project's own.
use Rattle.std.specs.Prelude.{◌≡◌, ◌<◌, ⊤, ℕ, List, ◌++◌, codes}
use Rattle.command_results.specs.declared.stop.Stop.{Stop}
use Rattle.command_results.specs.declared.stop.Stop.TheVariants.{Read, Write, Memory, NotAPosition, NotACode, NotUtf8}

-- a word that can't be read is a fault of usage
abbrev pub stop_status : Stop → ℕ
stop_status (Read name) = 3
stop_status Write = 3
stop_status Memory = 3
stop_status NotAPosition = 2
stop_status NotACode = 2
stop_status NotUtf8 = 2

-- what is told of a stop
abbrev pub stop_line : Stop → List ℕ
stop_line (Read name) = codes "misere: cannot read " ++ (name.now ++ codes "\n")
stop_line Write = codes "misere: cannot write\n"
stop_line Memory = codes "misere: out of memory\n"
stop_line NotAPosition = codes "misere: not a position\n"
stop_line NotACode = codes "misere: not a code\n"
stop_line NotUtf8 = codes "misere: a word isn't UTF-8\n"

-- memory was wanting, and no device failed
abbrev pub IsMemory : Stop → Type 0
IsMemory Memory = ⊤
IsMemory _ = ⊥

-- a read of this file failed, or none did and memory was wanting
abbrev pub IsFileCause : List ℕ → ℕ → ℕ → Stop → Type 0
IsFileCause file before after (Read name) = (name.now ≡ file) × (before < after)
IsFileCause file before after Memory = after ≡ before
IsFileCause file before after _ = ⊥

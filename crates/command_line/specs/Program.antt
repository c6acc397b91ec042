-- The program's commands and their arguments, in the words of `clap`. This project's own.
use Rattle.std.specs.Prelude.{List, [], ◌∷◌, Some, true, codes, fold}
use Rattle.clap.specs.Lexer.{usize_max}
use Rattle.clap.specs.Words.{App, Rule, Text, new_app, new_rule, with_subcommand}
use Rattle.clap.specs.declared.builder.action.ArgAction.TheVariants.{Set, SetTrue}

-- an argument that may be left out, told by its place
abbrev pub optional : Text → Rule
optional id = record (new_rule id) { value_names = 1 }

-- one that is needed
abbrev pub needed : Text → Rule
needed id = record (new_rule id) { value_names = 1; required = true }

-- one or more that are needed
abbrev pub several : Text → Rule
several id = record (needed id) {
  range = Some (record { start_inclusive = 1; end_inclusive = usize_max });
}

-- an option with a value
abbrev pub option : Text → Rule
option id = record (new_rule id) { long = Some id; action = Some Set; value_names = 1 }

-- an option without one
abbrev pub flag : Text → Rule
flag id = record (new_rule id) { long = Some id; action = Some SetTrue }

-- a command with these arguments
abbrev pub command : Text → List Rule → App
command name rules = record (new_app name) { top = record (new_app name).top { rules = rules } }

-- check [FILE] [--limit N]
abbrev pub check : App
check = command (codes "check") (optional (codes "file") ∷ option (codes "limit") ∷ [])

-- verify [FILE] [--limit N]
abbrev pub verify : App
verify = command (codes "verify") (optional (codes "file") ∷ option (codes "limit") ∷ [])

-- solve CODE.. [--limit N] [--rounds R] [--heaps M] [--deep] [--any] [--partial M] [--furthest Q]
-- [--order Q] [--why] [--infinite] [--presented]
abbrev pub solve : App
solve = command (codes "solve")
    (several (codes "code") ∷ option (codes "limit") ∷ option (codes "rounds")
    ∷ option (codes "heaps") ∷ flag (codes "deep") ∷ flag (codes "any")
    ∷ option (codes "partial") ∷ option (codes "furthest") ∷ option (codes "order")
    ∷ flag (codes "why") ∷ flag (codes "infinite") ∷ flag (codes "presented") ∷ [])

-- series CODE [--order Q] [--heaps M] [--limit N]
abbrev pub series : App
series = command (codes "series")
    (needed (codes "code") ∷ option (codes "order") ∷ option (codes "heaps")
    ∷ option (codes "limit") ∷ [])

-- show FILE [--limit N]
abbrev pub show : App
show = command (codes "show") (needed (codes "file") ∷ option (codes "limit") ∷ [])

-- describe [FILE] [--latex] [--basis] [--relations] [--json] [--singular] [--gap] [--gap-table]
-- [--structure] [--presentation] [--limit N]
abbrev pub describe : App
describe = command (codes "describe")
    (optional (codes "file") ∷ flag (codes "latex") ∷ flag (codes "basis")
    ∷ flag (codes "relations") ∷ flag (codes "json") ∷ flag (codes "singular")
    ∷ flag (codes "gap") ∷ flag (codes "gap-table") ∷ flag (codes "structure")
    ∷ flag (codes "presentation") ∷ option (codes "limit") ∷ [])

-- play FILE POSITION [--all] [--limit N]
abbrev pub play : App
play = command (codes "play")
    (needed (codes "file") ∷ needed (codes "position") ∷ flag (codes "all")
    ∷ option (codes "limit") ∷ [])

-- value FILE POSITION [--limit N]
abbrev pub value : App
value = command (codes "value")
    (needed (codes "file") ∷ needed (codes "position") ∷ option (codes "limit") ∷ [])

-- apart FILE POSITION POSITION [--limit N]
abbrev pub apart : App
apart = command (codes "apart")
    (needed (codes "file") ∷ needed (codes "first") ∷ needed (codes "second")
    ∷ option (codes "limit") ∷ [])

-- compare FILE FILE [--limit N]
abbrev pub compare : App
compare = command (codes "compare")
    (needed (codes "first") ∷ needed (codes "second") ∷ option (codes "limit") ∷ [])

-- certify FILE [--limit N]
abbrev pub certify : App
certify = command (codes "certify") (needed (codes "file") ∷ option (codes "limit") ∷ [])

-- explain [FILE] [--code WORD] [--position WORD]
abbrev pub explain : App
explain = command (codes "explain")
    (optional (codes "file") ∷ option (codes "code") ∷ option (codes "position") ∷ [])

-- present TEXT
abbrev pub present : App
present = command (codes "present") (needed (codes "text") ∷ [])

-- catalogue FILE [--new] [--add CERTIFICATE] [--get CODE] [--heaps M] [--salvage] [--migrate]
-- [--table] [--json] [--limit N]
abbrev pub catalogue : App
catalogue = command (codes "catalogue")
    (needed (codes "file") ∷ flag (codes "new") ∷ option (codes "add") ∷ option (codes "get")
    ∷ option (codes "heaps") ∷ flag (codes "salvage") ∷ flag (codes "migrate")
    ∷ flag (codes "table") ∷ flag (codes "json") ∷ option (codes "limit") ∷ [])

-- desk SCRIPT
abbrev pub desk : App
desk = command (codes "desk") (needed (codes "script") ∷ [])

-- infinite FILE [POSITION] [--show] [--latex] [--json]
abbrev pub infinite : App
infinite = command (codes "infinite")
    (needed (codes "file") ∷ optional (codes "position") ∷ flag (codes "show")
    ∷ flag (codes "latex") ∷ flag (codes "json") ∷ [])

-- tail FILE [--limit N]
abbrev pub tail : App
tail = command (codes "tail") (needed (codes "file") ∷ option (codes "limit") ∷ [])

-- the program's name, which has a version
abbrev pub misere : App
misere = record (new_app (codes "misere")) {
  top = record (new_app (codes "misere")).top { has_version = true };
}

abbrev pub commands : List App
commands =
    check ∷ solve ∷ series ∷ show ∷ describe ∷ play ∷ compare ∷ certify ∷ explain ∷ present
    ∷ catalogue ∷ desk ∷ infinite ∷ tail ∷ verify ∷ value ∷ apart ∷ []

-- the whole command line
abbrev pub program : App
program = fold (λ above c. with_subcommand above c.top) misere commands

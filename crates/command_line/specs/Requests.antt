-- What the words of a command line ask for, as a function. This project's own, over the words of
-- `clap`.
use Rattle.std.specs.Prelude.{ℕ, Bool, true, false, not, ◌&&◌, ◌||◌, List, [], ◌∷◌, Option, Some, None, codes, find, if◌then◌else◌, is_some, unwrap_or}
use Rattle.std.specs.Prelude.{option_map, option_and_then}
use Rattle.std.specs.Option.{option_map_or}
use Rattle.std.specs.Str.{bytes_eq}
use Rattle.clap.specs.Words.{App, Kinds, Row, Text, all_of, first_of, fault_of, found_of, rows_of}
use Rattle.clap.specs.Words.{subcommand_of}
use Rattle.clap.specs.declared.parser.matches.ArgMatches.{ArgMatches}
use Rattle.command_line.specs.Numbers.{bounds_of, number_in, number_of}
use Rattle.command_line.specs.Program
use Rattle.command_line.specs.Program.{program}
use Rattle.command_line.specs.declared.faults.Exclusion.{Exclusion}
use Rattle.command_line.specs.declared.faults.Exclusion.TheVariants as exclusion
use Rattle.command_line.specs.declared.wanted.ExplainedWord.{ExplainedWord}
use Rattle.command_line.specs.declared.wanted.ExplainedWord.TheVariants as wanted
use Rattle.command_line.specs.declared.numbers.Quantity.{Quantity}
use Rattle.command_line.specs.declared.numbers.Quantity.TheVariants.{Limit, Rounds, Heaps, Order, Part, DeepOrder, Last, PartOrder, Furthest, SeriesLast}
use Rattle.requests.specs.Requests.{CatalogueRequest, Request}
use Rattle.requests.specs.Requests.CatalogueRequest.{Print, Table, New, Add, NewWith, Get, Salvage, Migrate}
use Rattle.requests.specs.Requests.Request.{Check, Solve, SolveMany, SolveLines, Show, Describe, Play, PlayLines, Present, Catalogue, Desk}
use Rattle.requests.specs.Requests.Request.{SolveInfinite, Series, Tail, Compare, Certify, Explain, Infinite, ShowInfinite, PlayInfinite}
use Rattle.requests.specs.Requests.Request.{PlayInfiniteLines, Verify, Wins, Value, Apart}
use Rattle.requests.specs.declared.plans.Aim.{Aim}
use Rattle.requests.specs.declared.plans.Aim.TheVariants as aim
use Rattle.requests.specs.declared.plans.SolveBounds.{SolveBounds}
use Rattle.requests.specs.declared.plans.Layout.{Layout}
use Rattle.requests.specs.declared.plans.Layout.TheVariants as layout
use Rattle.requests.specs.declared.plans.Output.{Output}
use Rattle.requests.specs.declared.plans.Output.TheVariants.{Description, Latex, Json, Relations, Singular, Gap, GapTable, Structure, Presentation}

-- ---- what each command asks for with its arguments

-- A word that is explained by itself. No file is read for it.
pub data WordRequest : Type 0 where
  ExplainCode : Text → WordRequest
  ExplainPosition : Text → WordRequest

abbrev pub word_request_of : ExplainedWord → WordRequest
word_request_of (wanted.Code code) = ExplainCode code.now
word_request_of (wanted.Position position) = ExplainPosition position.now

-- the arguments of a command
abbrev pub arguments_of : ArgMatches → List Row
arguments_of given = rows_of (found_of given)

-- the file that a word names, and none where there is no word or it stands for standard input
abbrev pub named_by : Option Text → Option Text
named_by None = None
named_by (Some word) = if bytes_eq word (codes "-") then None else Some word

abbrev pub check_request : List Row → Option Request
check_request rows = option_map (λ limit. Check (named_by (first_of (codes "file") rows)) limit)
    (number_of Limit rows)

abbrev pub verify_request : List Row → Option Request
verify_request rows = option_map (λ limit. Verify (named_by (first_of (codes "file") rows)) limit)
    (number_of Limit rows)

abbrev pub show_with : Option Text → Option ℕ → Option Request
show_with (Some file) (Some limit) = Some (Show (named_by (Some file)) limit)
show_with _ _ = None

abbrev pub show_request : List Row → Option Request
show_request rows = show_with (first_of (codes "file") rows) (number_of Limit rows)

abbrev pub tail_with : Option Text → Option ℕ → Option Request
tail_with (Some file) (Some limit) = Some (Tail (named_by (Some file)) limit)
tail_with _ _ = None

abbrev pub tail_request : List Row → Option Request
tail_request rows = tail_with (first_of (codes "file") rows) (number_of Limit rows)

-- a flag was given
abbrev pub is_set : Text → List Row → Bool
is_set flag rows = option_map_or (λ text. bytes_eq text (codes "true")) (first_of flag rows) false

-- an option was given
abbrev pub is_given : Text → List Row → Bool
is_given name rows = is_some (first_of name rows)

-- what the flags --latex, --relations, --json, --singular and --gap ask for together
abbrev pub output_of : (latex relations json singular gap : Bool) → Option Output
output_of false false false false false = Some Description
output_of true false false false false = Some Latex
output_of false true false false false = Some Relations
output_of false false true false false = Some Json
output_of false false false true false = Some Singular
output_of false false false false true = Some Gap
output_of _ _ _ _ _ = None

abbrev pub relational_in : List Row → Option Output
relational_in rows = output_of (is_set (codes "latex") rows) (is_set (codes "relations") rows)
    (is_set (codes "json") rows) (is_set (codes "singular") rows) (is_set (codes "gap") rows)

-- one of them is given
abbrev pub is_relational : List Row → Bool
is_relational rows =
    is_set (codes "latex") rows || is_set (codes "relations") rows || is_set (codes "json") rows
    || is_set (codes "singular") rows || is_set (codes "gap") rows

-- what --gap-table, --structure and --presentation ask for beside one of the others or none, and what is asked for
-- without the three
abbrev pub output_by : (table structure presentation relational : Bool) → Option Output → Option Output
output_by false false false relational output = output
output_by true false false false output = Some GapTable
output_by false true false false output = Some Structure
output_by false false true false output = Some Presentation
output_by _ _ _ _ output = None

abbrev pub output_in : List Row → Option Output
output_in rows = output_by (is_set (codes "gap-table") rows) (is_set (codes "structure") rows)
    (is_set (codes "presentation") rows) (is_relational rows) (relational_in rows)

-- two of the flags for relations stand together
abbrev pub relational_conflicts : List Row → Bool
relational_conflicts rows =
    let latex = is_set (codes "latex") rows in
    let relations = is_set (codes "relations") rows in
    let json = is_set (codes "json") rows in
    let singular = is_set (codes "singular") rows in
    let gap = is_set (codes "gap") rows in
    (latex && (relations || json || singular || gap))
    || (relations && (json || singular || gap)) || (json && (singular || gap))
    || (singular && gap)

-- two of all of them
abbrev pub describe_conflicts : List Row → Bool
describe_conflicts rows =
    let table = is_set (codes "gap-table") rows in
    let structure = is_set (codes "structure") rows in
    let presentation = is_set (codes "presentation") rows in
    if table || structure || presentation
    then (table && structure) || (table && presentation) || (structure && presentation) || is_relational rows
    else relational_conflicts rows

-- by which of the two faults it is told that they do
abbrev pub describe_exclusion : List Row → Option Exclusion
describe_exclusion rows =
    if is_set (codes "gap-table") rows || is_set (codes "structure") rows
    || is_set (codes "presentation") rows || is_set (codes "json") rows || is_set (codes "singular") rows || is_set (codes "gap") rows
    then Some exclusion.Outputs
    else Some exclusion.Description

abbrev pub describe_with : Option Text → Option Output → Bool → Option ℕ → Option Request
describe_with file (Some output) basis (Some limit) =
    Some (Describe (named_by file) output basis limit)
describe_with _ _ _ _ = None

abbrev pub describe_request : List Row → Option Request
describe_request rows =
    describe_with (first_of (codes "file") rows) (output_in rows) (is_set (codes "basis") rows)
    (number_of Limit rows)

-- the heaps that --heaps, --deep, --any, --partial and --furthest aim at together, where a furthest
-- search has no --order
abbrev pub aim_of : (heaps : Option Text) (deep any : Bool) (partial furthest order : Option Text)
    → Option Aim
aim_of heaps false false None None order =
    option_map (λ n. aim.Whole n) (number_in (bounds_of Heaps) heaps)
aim_of None true false None None order = Some aim.Deep
aim_of None false true None None order = Some aim.Any
aim_of None false false (Some last) None order =
    option_map (λ n. aim.Part n) (number_in (bounds_of Last) (Some last))
aim_of None false false None (Some most) None = Some aim.Furthest
aim_of _ _ _ _ _ _ = None

abbrev pub aim_in : List Row → Option Aim
aim_in rows = aim_of (first_of (codes "heaps") rows) (is_set (codes "deep") rows)
    (is_set (codes "any") rows) (first_of (codes "partial") rows)
    (first_of (codes "furthest") rows) (first_of (codes "order") rows)

-- which number says how many elements are allowed
abbrev pub order_by : (deep : Bool) (partial furthest : Option Text) → Quantity
order_by deep partial (Some most) = Furthest
order_by deep (Some last) None = PartOrder
order_by true None None = DeepOrder
order_by false None None = Order

-- a search looks at so many heaps: --deep or --any was given
abbrev pub is_deep : List Row → Bool
is_deep rows = is_set (codes "deep") rows || is_set (codes "any") rows

abbrev pub order_in : List Row → Option ℕ
order_in rows = number_of
    (order_by (is_deep rows) (first_of (codes "partial") rows) (first_of (codes "furthest") rows))
    rows

-- two of --heaps, --deep, --any, --partial and --furthest stand together, or --furthest and --order
abbrev pub search_conflicts : List Row → Bool
search_conflicts rows =
    let heaps = is_given (codes "heaps") rows in
    let deep = is_set (codes "deep") rows in
    let any = is_set (codes "any") rows in
    let partial = is_given (codes "partial") rows in
    let furthest = is_given (codes "furthest") rows in
    (heaps && (deep || any || partial || furthest)) || (deep && (any || partial || furthest))
    || (any && (partial || furthest)) || (partial && furthest)
    || (furthest && is_given (codes "order") rows)

-- how far the search goes
abbrev pub bounds_with : Option ℕ → Option ℕ → Option ℕ → Option Aim → Bool → Option SolveBounds
bounds_with (Some n) (Some most) (Some largest) (Some aimed) why =
    Some (record { limit = n; rounds = most; order = largest; aim = aimed; tells_why = why })
bounds_with _ _ _ _ _ = None

abbrev pub bounds_in : List Row → Option SolveBounds
bounds_in rows = bounds_with (number_of Limit rows) (number_of Rounds rows) (order_in rows)
    (aim_in rows) (is_set (codes "why") rows)

-- the codes that are given
abbrev pub codes_in : List Row → List Text
codes_in rows = unwrap_or (all_of (codes "code") rows) []

-- one code is searched for, or in its place those of standard input; or several in turn
abbrev pub solve_with : List Text → Option SolveBounds → Option Request
solve_with (code ∷ []) (Some bounds) =
    if bytes_eq code (codes "-") then Some (SolveLines bounds) else Some (Solve code bounds)
solve_with (code ∷ next ∷ more) (Some bounds) = Some (SolveMany (code ∷ next ∷ more) bounds)
solve_with _ _ = None

abbrev pub search_request : List Row → Option Request
search_request rows = solve_with (codes_in rows) (bounds_in rows)

-- the word stands for standard input
abbrev pub is_input : Option Text → Bool
is_input word = option_map_or (λ text. bytes_eq text (codes "-")) word false

-- more than one code is given
abbrev pub has_several : Option (List Text) → Bool
has_several (Some (code ∷ next ∷ more)) = true
has_several _ = false

-- one of the options is given that a search for finite quotients takes alone
abbrev pub asks_for_finite : List Row → Bool
asks_for_finite rows =
    is_set (codes "deep") rows || is_set (codes "any") rows
    || is_given (codes "partial") rows || is_given (codes "furthest") rows
    || is_given (codes "rounds") rows || is_given (codes "order") rows
    || is_given (codes "limit") rows

-- a search for an infinite quotient is meant: --infinite says it, and --presented stands with it alone
abbrev pub asks_for_infinite : List Row → Bool
asks_for_infinite rows = is_set (codes "infinite") rows || is_set (codes "presented") rows

-- --infinite stands with several codes, with those of standard input, or with another option than
-- --heaps, --presented and --why; or --presented stands without it
abbrev pub infinite_search_conflicts : List Row → Bool
infinite_search_conflicts rows =
    not (is_set (codes "infinite") rows) || is_input (first_of (codes "code") rows) || has_several (all_of (codes "code") rows)
    || asks_for_finite rows

abbrev pub infinite_search_with : Bool → Option Text → Option ℕ → Option Request
infinite_search_with presented (Some code) (Some last) = Some (SolveInfinite code last presented)
infinite_search_with _ _ _ = None

-- an infinite quotient is searched for
abbrev pub infinite_search_request : List Row → Option Request
infinite_search_request rows =
    if infinite_search_conflicts rows then None
    else infinite_search_with (is_set (codes "presented") rows) (first_of (codes "code") rows)
    (number_of SeriesLast rows)

-- the series of a code
abbrev pub series_with : Option Text → Option ℕ → Option ℕ → Option ℕ → Option Request
series_with (Some code) (Some n) (Some largest) (Some last) =
    Some (Series code (record { limit = n; order = largest; heaps = last }))
series_with _ _ _ _ = None

abbrev pub series_request : List Row → Option Request
series_request rows = series_with (first_of (codes "code") rows) (number_of Limit rows)
    (number_of DeepOrder rows) (number_of SeriesLast rows)

-- positions on standard input are played by a file's certificate
abbrev pub play_lines_with : Option Text → ℕ → Option Request
play_lines_with None limit = None
play_lines_with (Some file) limit = Some (PlayLines file limit)

abbrev pub play_with : Option Text → Option Text → (all : Bool) → Option ℕ → Option Request
play_with (Some file) (Some position) false (Some limit) =
    if bytes_eq position (codes "-")
    then play_lines_with (named_by (Some file)) limit
    else Some (Play (named_by (Some file)) position limit)
play_with (Some file) (Some position) true (Some limit) =
    if bytes_eq position (codes "-")
    then None
    else Some (Wins (named_by (Some file)) position limit)
play_with _ _ _ _ = None

abbrev pub play_request : List Row → Option Request
play_request rows = play_with (first_of (codes "file") rows) (first_of (codes "position") rows)
    (is_set (codes "all") rows) (number_of Limit rows)

-- the certificate and the positions both stand on standard input
abbrev pub play_conflicts : List Row → Bool
play_conflicts rows =
    is_input (first_of (codes "file") rows) && is_input (first_of (codes "position") rows)

-- the same, or all winning moves are asked for in each of the positions on standard input
abbrev pub all_conflicts : List Row → Bool
all_conflicts rows =
    (is_set (codes "all") rows && is_input (first_of (codes "position") rows))
    || play_conflicts rows

-- by which of the two faults it is told
abbrev pub all_exclusion : List Row → Option Exclusion
all_exclusion rows = if is_set (codes "all") rows then Some exclusion.All else Some exclusion.Play

abbrev pub value_with : Option Text → Option Text → Option ℕ → Option Request
value_with (Some file) (Some position) (Some limit) =
    Some (Value (named_by (Some file)) position limit)
value_with _ _ _ = None

abbrev pub value_request : List Row → Option Request
value_request rows = value_with (first_of (codes "file") rows) (first_of (codes "position") rows)
    (number_of Limit rows)

abbrev pub apart_with : Option Text → Option Text → Option Text → Option ℕ → Option Request
apart_with (Some file) (Some first) (Some second) (Some limit) =
    Some (Apart (named_by (Some file)) first second limit)
apart_with _ _ _ _ = None

abbrev pub apart_request : List Row → Option Request
apart_request rows = apart_with (first_of (codes "file") rows) (first_of (codes "first") rows)
    (first_of (codes "second") rows) (number_of Limit rows)

-- one of two certificates may stand on standard input
abbrev pub compare_with : Option Text → Option Text → Option ℕ → Option Request
compare_with (Some first) (Some second) (Some limit) =
    if bytes_eq first (codes "-") && bytes_eq second (codes "-")
    then None
    else Some (Compare (named_by (Some first)) (named_by (Some second)) limit)
compare_with _ _ _ = None

abbrev pub compare_request : List Row → Option Request
compare_request rows = compare_with (first_of (codes "first") rows)
    (first_of (codes "second") rows) (number_of Limit rows)

-- the two certificates both stand on standard input
abbrev pub compare_conflicts : List Row → Bool
compare_conflicts rows =
    is_input (first_of (codes "first") rows) && is_input (first_of (codes "second") rows)

abbrev pub certify_with : Option Text → Option ℕ → Option Request
certify_with (Some file) (Some limit) = Some (Certify (named_by (Some file)) limit)
certify_with _ _ = None

abbrev pub certify_request : List Row → Option Request
certify_request rows = certify_with (first_of (codes "file") rows) (number_of Limit rows)

-- a code or a position is given, so that no file is explained
abbrev pub explain_conflicts : List Row → Bool
explain_conflicts rows = is_given (codes "code") rows || is_given (codes "position") rows

abbrev pub explain_request : List Row → Option Request
explain_request rows =
    if explain_conflicts rows then None
    else Some (Explain (named_by (first_of (codes "file") rows)))

-- the code or the position that is explained, if one of them is given, and no file
abbrev pub word_with : (file code position : Option Text) → Option WordRequest
word_with None (Some code) None = Some (ExplainCode code)
word_with None None (Some position) = Some (ExplainPosition position)
word_with _ _ _ = None

abbrev pub word_given : List Row → Option WordRequest
word_given rows = word_with (first_of (codes "file") rows) (first_of (codes "code") rows)
    (first_of (codes "position") rows)

abbrev pub present_request : List Row → Option Request
present_request rows = option_map Present (first_of (codes "text") rows)

-- what the flags --new, --salvage and --migrate and the options --add, --get and --heaps ask for
-- together
abbrev pub task_of : (new salvage migrate : Bool) → (add get heaps : Option Text)
    → Option CatalogueRequest
task_of false false false None None None = Some Print
task_of true false false None None None = Some New
task_of false false false (Some certificate) None None = Some (Add certificate)
task_of true false false (Some certificate) None None = Some (NewWith certificate)
task_of false false false None (Some code) heaps =
    option_map (λ n. Get code n) (number_in (bounds_of Part) heaps)
task_of false true false None None None = Some Salvage
task_of false false true None None None = Some Migrate
task_of _ _ _ _ _ _ = None

-- one of these options is given
abbrev pub asks_for_more : List Row → Bool
asks_for_more rows =
    is_set (codes "new") rows || is_set (codes "salvage") rows || is_set (codes "migrate") rows
    || is_given (codes "add") rows || is_given (codes "get") rows || is_given (codes "heaps") rows

-- what is asked of a catalogue: a table, where no other of these options is given; or what they ask
-- for, without --json
abbrev pub task_in : List Row → Option CatalogueRequest
task_in rows =
    if is_set (codes "table") rows
    then (if asks_for_more rows then None else Some (Table (is_set (codes "json") rows)))
    else (if is_set (codes "json") rows
    then None
    else task_of (is_set (codes "new") rows) (is_set (codes "salvage") rows)
    (is_set (codes "migrate") rows) (first_of (codes "add") rows)
    (first_of (codes "get") rows) (first_of (codes "heaps") rows))

-- --get stands with --new or --add, --heaps without --get, or --salvage or --migrate with another
-- option
abbrev pub task_conflicts : List Row → Bool
task_conflicts rows =
    let new = is_set (codes "new") rows in
    let add = is_given (codes "add") rows in
    let get = is_given (codes "get") rows in
    let heaps = is_given (codes "heaps") rows in
    let salvage = is_set (codes "salvage") rows in
    let migrate = is_set (codes "migrate") rows in
    (get && (new || add)) || (heaps && not get)
    || ((salvage || migrate) && (new || add || get || heaps)) || (salvage && migrate)

-- --table stands with one of the others; or --json without it, or the others as they can't
abbrev pub catalogue_conflicts : List Row → Bool
catalogue_conflicts rows =
    if is_set (codes "table") rows then asks_for_more rows
    else (is_set (codes "json") rows || task_conflicts rows)

abbrev pub catalogue_with : Option Text → Option CatalogueRequest → Option ℕ → Option Request
catalogue_with (Some file) (Some task) (Some limit) = Some (Catalogue file task limit)
catalogue_with _ _ _ = None

abbrev pub catalogue_request : List Row → Option Request
catalogue_request rows = catalogue_with (first_of (codes "file") rows) (task_in rows)
    (number_of Limit rows)

abbrev pub desk_request : List Row → Option Request
desk_request rows = option_map Desk (first_of (codes "script") rows)

-- positions on standard input are played by a file's certificate of an infinite quotient
abbrev pub infinite_lines_with : Option Text → Option Request
infinite_lines_with None = None
infinite_lines_with (Some file) = Some (PlayInfiniteLines file)

-- what the flags --show, --latex and --json ask for together: nothing, or that the quotient is shown
abbrev pub layout_of : (show latex json : Bool) → Option (Option Layout)
layout_of false false false = Some None
layout_of true false false = Some (Some layout.Lines)
layout_of true true false = Some (Some layout.Latex)
layout_of true false true = Some (Some layout.Json)
layout_of _ _ _ = None

abbrev pub layout_in : List Row → Option (Option Layout)
layout_in rows = layout_of (is_set (codes "show") rows) (is_set (codes "latex") rows)
    (is_set (codes "json") rows)

-- --latex or --json stands without --show, or both stand together
abbrev pub layout_conflicts : List Row → Bool
layout_conflicts rows =
    let latex = is_set (codes "latex") rows in
    let json = is_set (codes "json") rows in
    (latex && json) || (not (is_set (codes "show") rows) && (latex || json))

-- without a position the certificate is checked, or its quotient is shown
abbrev pub infinite_with : Option Text → Option (Option Layout) → (position : Option Text)
    → Option Request
infinite_with (Some file) (Some None) None = Some (Infinite (named_by (Some file)))
infinite_with (Some file) (Some (Some layout)) None =
    Some (ShowInfinite (named_by (Some file)) layout)
infinite_with (Some file) (Some None) (Some position) =
    if bytes_eq position (codes "-") then infinite_lines_with (named_by (Some file))
    else Some (PlayInfinite (named_by (Some file)) position)
infinite_with _ _ _ = None

abbrev pub infinite_request : List Row → Option Request
infinite_request rows =
    infinite_with (first_of (codes "file") rows) (layout_in rows) (first_of (codes "position") rows)

-- --latex and --json stand as they can't, --show stands with a position, or the certificate and the
-- positions both stand on standard input
abbrev pub infinite_conflicts : List Row → Bool
infinite_conflicts rows =
    layout_conflicts rows || (is_set (codes "show") rows && is_given (codes "position") rows)
    || play_conflicts rows

-- by which of the three faults it is told that they do
abbrev pub infinite_exclusion : List Row → Option Exclusion
infinite_exclusion rows =
    if layout_conflicts rows then Some exclusion.Layout
    else (if is_set (codes "show") rows then Some exclusion.Infinite else Some exclusion.Play)

-- ---- the commands

-- a command: what it is to `clap`, and with the arguments that are given what it asks for, the numbers
-- that it takes, whether options exclude each other, and by which fault that is told, if they do
pub record Asking : Type 0 where
  pub app : App
  pub request : List Row → Option Request
  pub numbers : List Row → List Quantity
  pub conflicts : List Row → Bool
  pub exclusion : List Row → Option Exclusion

-- no options exclude each other
abbrev pub never : List Row → Bool
never rows = false

abbrev pub untold : List Row → Option Exclusion
untold rows = None

abbrev pub check : Asking
check = record { app = Program.check; request = check_request; numbers = λ rows. Limit ∷ []; conflicts = never; exclusion = untold }

-- `solve` that looks for finite quotients
abbrev pub search : Asking
search = record {
  app = Program.solve;
  request = search_request;
  numbers = λ rows.
      Limit ∷ Rounds ∷ Heaps ∷ Order ∷ DeepOrder ∷ Last ∷ PartOrder ∷ Furthest ∷ [];
  conflicts = search_conflicts;
  exclusion = λ rows. Some exclusion.Solve;
}

-- `solve` that looks for an infinite one
abbrev pub infinite_search : Asking
infinite_search = record {
  app = Program.solve;
  request = infinite_search_request;
  numbers = λ rows. SeriesLast ∷ [];
  conflicts = infinite_search_conflicts;
  exclusion = λ rows. Some exclusion.SolveInfinite;
}

-- which of the two is meant
abbrev pub search_meant : List Row → Asking
search_meant rows = if asks_for_infinite rows then infinite_search else search

abbrev pub solve : Asking
solve = record {
  app = Program.solve;
  request = λ rows. (search_meant rows).request rows;
  numbers = λ rows. (search_meant rows).numbers rows;
  conflicts = λ rows. (search_meant rows).conflicts rows;
  exclusion = λ rows. (search_meant rows).exclusion rows;
}

abbrev pub series : Asking
series = record {
  app = Program.series;
  request = series_request;
  numbers = λ rows. Limit ∷ DeepOrder ∷ SeriesLast ∷ [];
  conflicts = never;
  exclusion = untold;
}

abbrev pub show : Asking
show = record { app = Program.show; request = show_request; numbers = λ rows. Limit ∷ []; conflicts = never; exclusion = untold }

abbrev pub describe : Asking
describe = record {
  app = Program.describe;
  request = describe_request;
  numbers = λ rows. Limit ∷ [];
  conflicts = describe_conflicts;
  exclusion = describe_exclusion;
}

abbrev pub play : Asking
play = record {
  app = Program.play;
  request = play_request;
  numbers = λ rows. Limit ∷ [];
  conflicts = all_conflicts;
  exclusion = all_exclusion;
}

abbrev pub compare : Asking
compare = record {
  app = Program.compare;
  request = compare_request;
  numbers = λ rows. Limit ∷ [];
  conflicts = compare_conflicts;
  exclusion = λ rows. Some exclusion.Compare;
}

abbrev pub certify : Asking
certify = record { app = Program.certify; request = certify_request; numbers = λ rows. Limit ∷ []; conflicts = never; exclusion = untold }

abbrev pub explain : Asking
explain = record {
  app = Program.explain;
  request = explain_request;
  numbers = λ rows. [];
  conflicts = explain_conflicts;
  exclusion = λ rows. Some exclusion.Explain;
}

abbrev pub present : Asking
present = record { app = Program.present; request = present_request; numbers = λ rows. []; conflicts = never; exclusion = untold }

abbrev pub catalogue : Asking
catalogue = record {
  app = Program.catalogue;
  request = catalogue_request;
  numbers = λ rows. Part ∷ Limit ∷ [];
  conflicts = catalogue_conflicts;
  exclusion = λ rows. Some exclusion.Catalogue;
}

abbrev pub desk : Asking
desk = record { app = Program.desk; request = desk_request; numbers = λ rows. []; conflicts = never; exclusion = untold }

abbrev pub infinite : Asking
infinite = record {
  app = Program.infinite;
  request = infinite_request;
  numbers = λ rows. [];
  conflicts = infinite_conflicts;
  exclusion = infinite_exclusion;
}

abbrev pub tail : Asking
tail = record { app = Program.tail; request = tail_request; numbers = λ rows. Limit ∷ []; conflicts = never; exclusion = untold }

abbrev pub verify : Asking
verify = record { app = Program.verify; request = verify_request; numbers = λ rows. Limit ∷ []; conflicts = never; exclusion = untold }

abbrev pub value : Asking
value = record { app = Program.value; request = value_request; numbers = λ rows. Limit ∷ []; conflicts = never; exclusion = untold }

abbrev pub apart : Asking
apart = record { app = Program.apart; request = apart_request; numbers = λ rows. Limit ∷ []; conflicts = never; exclusion = untold }

abbrev pub commands : List Asking
commands =
    check ∷ solve ∷ series ∷ show ∷ describe ∷ play ∷ compare ∷ certify ∷ explain ∷ present
    ∷ catalogue ∷ desk ∷ infinite ∷ tail ∷ verify ∷ value ∷ apart ∷ []

abbrev pub command_named : Text → Option Asking
command_named name = find (λ c. bytes_eq c.app.top.name name) commands

-- what a command with its arguments asks for
abbrev pub request_in : Option (Text × List Row) → Option Request
request_in found =
    option_and_then (λ f. option_and_then (λ c. c.request f.1) (command_named f.0)) found

-- the word that a command explains with its arguments
abbrev pub word_of_command : Text × List Row → Option WordRequest
word_of_command found = if bytes_eq found.0 (codes "explain") then word_given found.1 else None

abbrev pub word_in : Option (Text × List Row) → Option WordRequest
word_in found = option_and_then word_of_command found

-- what is asked for where no kind of error is met
abbrev pub unless_refused : {X : Type 0} → Kinds → Option X → Option X
unless_refused [] request = request
unless_refused (kind ∷ kinds) request = None

-- what the words ask for, the program's name first; they ask for nothing where the command line
-- doesn't take them
unfoldable pub plan_of : List Text → Option Request
plan_of words = unless_refused (fault_of program words) (request_in (subcommand_of program words))

-- the word that the words ask to explain, the program's name first
unfoldable pub word_of : List Text → Option WordRequest
word_of words = unless_refused (fault_of program words) (word_in (subcommand_of program words))

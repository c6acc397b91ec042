-- Words that are taken ask for what the command that they name asks for, and others for nothing.
use Rattle.std.proofs.Common.{◌≡◌, ap, ap₂, sym, refl, List, [], ◌∷◌, Option, Some, None}
use Rattle.std.proofs.Common.{option_map}
use Rattle.std.specs.Box.{box_value}
use Rattle.clap.specs.Words.{IsAmong, Kinds, Row, Text, fault_of, found_of, rows_of}
use Rattle.clap.specs.Words.{subcommand_name_of, subcommand_of, subcommand_rows_of}
use Rattle.clap.specs.declared.error.kind.ErrorKind.{ErrorKind}
use Rattle.clap.specs.declared.parser.matches.ArgMatches.{ArgMatches}
use Rattle.clap.specs.declared.parser.matches.ArgMatches.TheViews.{out-ArgMatches, out-SubCommand}
use Rattle.command_line.specs.Program.{program}
use Rattle.command_line.specs.Requests.{plan_of, request_in, unless_refused, word_in, word_of}

-- words that are taken ask for what their command asks for
pub plan_of-taken : (words : List Text) → fault_of program words ≡ []
    → plan_of words ≡ request_in (subcommand_of program words)
unfolding plan_of
plan_of-taken words e =
    ap (λ (kinds : Kinds). unless_refused kinds (request_in (subcommand_of program words))) e

-- and to explain what their command explains
pub word_of-taken : (words : List Text) → fault_of program words ≡ []
    → word_of words ≡ word_in (subcommand_of program words)
unfolding word_of
word_of-taken words e =
    ap (λ (kinds : Kinds). unless_refused kinds (word_in (subcommand_of program words))) e

nothing_refused : {X : Type 0} (kind : ErrorKind) (kinds : Kinds) (request : Option X)
    → IsAmong kind kinds → unless_refused kinds request ≡ None
nothing_refused kind [] request h = absurd h
nothing_refused kind (k ∷ ks) request h = refl

-- words that are refused ask for nothing
pub plan_of-refused : (words : List Text) (kind : ErrorKind) → IsAmong kind (fault_of program words)
    → plan_of words ≡ None
unfolding plan_of
plan_of-refused words kind h =
    nothing_refused kind (fault_of program words) (request_in (subcommand_of program words)) h

pub word_of-refused : (words : List Text) (kind : ErrorKind) → IsAmong kind (fault_of program words)
    → word_of words ≡ None
unfolding word_of
word_of-refused words kind h =
    nothing_refused kind (fault_of program words) (word_in (subcommand_of program words)) h

-- what is known of a name and of its rows, together
together : {B : Type 0} (o : Option B) (name : B → Text) (rows : B → List Row) (n : Text)
    (r : List Row) → Some n ≡ option_map {U = Text} name o
    → Some r ≡ option_map {U = List Row} (λ p. p.1)
    (option_map {U = Text × List Row} (λ b. (name b, rows b)) o)
    → option_map {U = Text × List Row} (λ b. (name b, rows b)) o ≡ Some (n, r)
together None name rows n r e f = cc
together (Some b) name rows n r e f =
    let same_name : n ≡ name b = cc in
    let same_rows : r ≡ rows b = cc in
    ap₂ (λ (x : Text) (y : List Row). let pair : Text × List Row = (x, y) in Some pair)
    (sym same_name) (sym same_rows)

-- the command that was entered, with its arguments
pub entered : (m : ArgMatches) (n : Text) (r : List Row) → Some n ≡ subcommand_name_of m
    → Some r ≡ option_map {U = List Row} (λ p. p.1) (subcommand_rows_of m)
    → subcommand_rows_of m ≡ Some (n, r)
entered m n r e f = together (out-ArgMatches m).subcommand
    (λ b. (out-SubCommand (box_value b)).name.now)
    (λ b. rows_of (found_of (out-SubCommand (box_value b)).matches)) n r e f

none_left : (o : Option (Text × List Row)) → None ≡ option_map {U = List Row} (λ p. p.1) o
    → o ≡ None
none_left None e = refl
none_left (Some p) e = cc

-- no command was entered
pub none_entered : (m : ArgMatches)
    → None ≡ option_map {U = List Row} (λ p. p.1) (subcommand_rows_of m)
    → subcommand_rows_of m ≡ None
none_entered m e = none_left (subcommand_rows_of m) e

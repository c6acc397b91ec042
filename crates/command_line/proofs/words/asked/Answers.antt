use Rattle.std.proofs.Common.{◌∙◌, ap, sym, Bor, ℕ, List}
use Rattle.std.proofs.Common.{map}
use Rattle.clap.specs.Words.{found_of, rows_of}
use Rattle.command_line.specs.Requests.{request_in, word_in}
use Rattle.command_line.proofs.Reading.{entered, none_entered, plan_of-taken, word_of-taken}
use Rattle.command_line.proofs.AskedFor.{asked_of, nothing_of}
use Rattle.command_line.proofs.words.asked.Goals as goal

pub returns-in-Some-clause-asked : goal.returns-in-Some-clause-asked
returns-in-Some-clause-asked c =
    let words = map (λ (w : Bor (List ℕ)). w.now) c.args.words.now in
    let found = sym c.in_ok-matches.ensures.found
    ∙ entered c.in_ok-matches.matches c.in-Some.name.now (rows_of (found_of c.in-Some.given.now))
    c.in-Some.ensures.name c.in-Some.ensures.rows in
    asked_of words _ found (plan_of-taken words c.in_ok-matches.ensures.taken)
    (word_of-taken words c.in_ok-matches.ensures.taken) c.command_asked.result
    c.command_asked.ensures.asked

pub returns-in-Some-clause-nothing : goal.returns-in-Some-clause-nothing
returns-in-Some-clause-nothing c =
    let words = map (λ (w : Bor (List ℕ)). w.now) c.args.words.now in
    let found = sym c.in_ok-matches.ensures.found
    ∙ entered c.in_ok-matches.matches c.in-Some.name.now (rows_of (found_of c.in-Some.given.now))
    c.in-Some.ensures.name c.in-Some.ensures.rows in
    nothing_of words _ found (plan_of-taken words c.in_ok-matches.ensures.taken)
    (word_of-taken words c.in_ok-matches.ensures.taken) c.command_asked.result
    c.command_asked.ensures.nothing

pub returns-clause-nothing : goal.returns-clause-nothing
returns-clause-nothing c = λ other.
    let words = map (λ (w : Bor (List ℕ)). w.now) c.args.words.now in
    let found = sym c.in_ok-matches.ensures.found
    ∙ none_entered c.in_ok-matches.matches c.in-None.ensures.rows in (
      plan_of-taken words c.in_ok-matches.ensures.taken ∙ ap request_in found,
      word_of-taken words c.in_ok-matches.ensures.taken ∙ ap word_in found,
    )

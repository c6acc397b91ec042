use Rattle.std.proofs.Common.{rules, refl, arith, Bor, ℕ, List, map}
use Rattle.requests.specs.Requests.{request_of}
use Rattle.command_line.specs.declared.faults.UsageFault.TheVariants.{Help, Words, Number, Exclusive, Incomplete}
use Rattle.command_line.specs.Requests.{word_request_of}
use Rattle.command_line.specs.declared.wanted.Asked.TheVariants.{Plan, Word}
use Rattle.commands.specs.Ends.Ends.{Asked, Explained, Helped, Refused}
use Rattle.commands.proofs.Outcomes.{asked_as, known_as, no_request}
use Rattle.commands.proofs.whole_run.run_words.Goals as goal

pub returns-in-Ok-Plan-clause-ends : goal.returns-in-Ok-Plan-clause-ends
returns-in-Ok-Plan-clause-ends g c =
    Asked (request_of c.in-Ok-Plan.plan)
    (asked_as (map (λ (w : Bor (List ℕ)). w.now) c.args.words.now) c.in-Ok-Plan.field-0
    (Plan c.in-Ok-Plan.plan) c.in-Ok-Plan.field-0-is c.in-Ok-Plan.ensures.asked).0
    c.run_plan.ensures.obeys

pub returns-in-Ok-clause-ends : goal.returns-in-Ok-clause-ends
returns-in-Ok-clause-ends g c =
    let asks = asked_as (map (λ (w : Bor (List ℕ)). w.now) c.args.words.now) c.in-Ok-Word.field-0
    (Word c.in-Ok-Word.word) c.in-Ok-Word.field-0-is c.in-Ok-Word.ensures.asked in
    Explained (word_request_of c.in-Ok-Word.word) asks.0 asks.1 c.in-Ok.said.text.items
    c.in-Ok.said.succeeds c.in-Ok.ensures refl c.print.ensures.printed

pub returns-in-Err-Help-clause-ends : goal.returns-in-Err-Help-clause-ends
returns-in-Err-Help-clause-ends g c =
    Helped (known_as (map (λ (w : Bor (List ℕ)). w.now) c.args.words.now) c.in-Err-Help.field-0
    (Help c.in-Err-Help.text) c.in-Err-Help.field-0-is c.in-Err-Help.ensures.fault)
    (no_request (map (λ (w : Bor (List ℕ)). w.now) c.args.words.now) c.in-Err-Help.field-0
    (Help c.in-Err-Help.text) c.in-Err-Help.field-0-is (λ e. omega (arith, e))
    c.in-Err-Help.ensures.nothing)
    c.as_bytes.result.now refl c.print-in-Err-Help.ensures.printed

pub returns-in-Err-Words-clause-ends : goal.returns-in-Err-Words-clause-ends
returns-in-Err-Words-clause-ends g c =
    Refused (Words c.in-Err-Words.text) refl
    (known_as (map (λ (w : Bor (List ℕ)). w.now) c.args.words.now) c.in-Err-Words.field-0
    (Words c.in-Err-Words.text) c.in-Err-Words.field-0-is c.in-Err-Words.ensures.fault)
    (no_request (map (λ (w : Bor (List ℕ)). w.now) c.args.words.now) c.in-Err-Words.field-0
    (Words c.in-Err-Words.text) c.in-Err-Words.field-0-is (λ e. omega (arith, e))
    c.in-Err-Words.ensures.nothing)
    refl (search rules, refl, search rules)

pub returns-in-Err-Number-clause-ends : goal.returns-in-Err-Number-clause-ends
returns-in-Err-Number-clause-ends g c =
    Refused (Number c.in-Err-Number.quantity) refl
    (known_as (map (λ (w : Bor (List ℕ)). w.now) c.args.words.now) c.in-Err-Number.field-0
    (Number c.in-Err-Number.quantity) c.in-Err-Number.field-0-is c.in-Err-Number.ensures.fault)
    (no_request (map (λ (w : Bor (List ℕ)). w.now) c.args.words.now) c.in-Err-Number.field-0
    (Number c.in-Err-Number.quantity) c.in-Err-Number.field-0-is (λ e. omega (arith, e))
    c.in-Err-Number.ensures.nothing)
    refl (search rules, refl, search rules)

pub returns-in-Err-Exclusive-clause-ends : goal.returns-in-Err-Exclusive-clause-ends
returns-in-Err-Exclusive-clause-ends g c =
    Refused (Exclusive c.in-Err-Exclusive.exclusion) refl
    (known_as (map (λ (w : Bor (List ℕ)). w.now) c.args.words.now) c.in-Err-Exclusive.field-0
    (Exclusive c.in-Err-Exclusive.exclusion) c.in-Err-Exclusive.field-0-is
    c.in-Err-Exclusive.ensures.fault)
    (no_request (map (λ (w : Bor (List ℕ)). w.now) c.args.words.now) c.in-Err-Exclusive.field-0
    (Exclusive c.in-Err-Exclusive.exclusion) c.in-Err-Exclusive.field-0-is (λ e. omega (arith, e))
    c.in-Err-Exclusive.ensures.nothing)
    refl (search rules, refl, search rules)

pub returns-in-Err-Incomplete-clause-ends : goal.returns-in-Err-Incomplete-clause-ends
returns-in-Err-Incomplete-clause-ends g c =
    Refused Incomplete refl
    (known_as (map (λ (w : Bor (List ℕ)). w.now) c.args.words.now) c.in-Err-Incomplete.field-0
    Incomplete c.in-Err-Incomplete.field-0-is c.in-Err-Incomplete.ensures.fault)
    (no_request (map (λ (w : Bor (List ℕ)). w.now) c.args.words.now) c.in-Err-Incomplete.field-0
    Incomplete c.in-Err-Incomplete.field-0-is (λ e. omega (arith, e))
    c.in-Err-Incomplete.ensures.nothing)
    refl (search rules, refl, search rules)

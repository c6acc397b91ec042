use Rattle.std.proofs.Common.{◌≡◌, ◌∷◌, ◌∙◌, length, Some, None, ap, arith}
use Rattle.json.specs.Reads.{token_of}
use Rattle.catalogue.specs.Reading.{EntriesAre}
use Rattle.catalogue.proofs.ReadLemmas.{no_start, array_read, array_unread, passed_over}
use Rattle.catalogue.proofs.frame.entries.Goals as goal

pub returns-in_default-clause-err : goal.returns-in_default-clause-err
returns-in_default-clause-err c = no_start c.args.depth c.args.reader.now (grind arith)

pub returns-in-BeginArray-clause-read : goal.returns-in-BeginArray-clause-read
returns-in-BeginArray-clause-read c =
    let first : c.args.reader.now ≡ token_of c.in-Some.token ∷ c.next.new.self = grind arith in
    array_read c.args.depth c.next.new.self c.args.reader.now (omega arith)
    c.items.result c.items.new.reader (λ es d. EntriesAre es (Some d))
    (first ∙ ap (λ k. token_of k ∷ c.next.new.self) c.in-BeginArray.is) c.items.ensures.read

pub returns-in-BeginArray-clause-err : goal.returns-in-BeginArray-clause-err
returns-in-BeginArray-clause-err c =
    let first : c.args.reader.now ≡ token_of c.in-Some.token ∷ c.next.new.self = grind arith in
    array_unread c.args.depth c.next.new.self c.args.reader.now (omega arith)
    c.items.result
    (first ∙ ap (λ k. token_of k ∷ c.next.new.self) c.in-BeginArray.is) c.items.ensures.err

pub returns : goal.returns
returns c =
    let first : c.args.reader.now ≡ token_of c.in-Some.token ∷ c.next.new.self = grind arith in
    record {
      read = passed_over c.next.new.self (λ d. EntriesAre None (Some d)) c.in-Some.token
          (λ e ms ds es w i. cc) (λ e ds. absurd (c.in_default-token.not-BeginArray e))
          (λ s e ds es w i. cc) (λ s e n q ds es w i. cc) (λ b ds es w i. cc) (λ ds es w i. cc)
          c.args.depth c.args.reader.now c.pass_from.new.reader first
          c.in_ok-pass_from.ensures.passed;
      shorter = omega (arith, ap length first, c.in_ok-pass_from.ensures.shorter);
      err = tt;
    }

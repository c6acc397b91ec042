use Rattle.std.proofs.Common.{◌≡◌, ◌∷◌, ◌∙◌, length, None, refl, ap, arith}
use Rattle.std.specs.Option.{ok_or}
use Rattle.json.specs.Reads.{token_of}
use Rattle.catalogue.specs.Reading.{whole_of}
use Rattle.catalogue.specs.declared.fault.LoadFault.TheVariants.{Json}
use Rattle.catalogue.proofs.ReadLemmas.{no_start, passed_over, whole_read}
use Rattle.catalogue.proofs.fields.whole_number.Goals as goal

pub returns-in_default-clause-err : goal.returns-in_default-clause-err
returns-in_default-clause-err c = no_start c.args.depth c.args.reader.now (grind arith)

pub returns-in-Number-clause-read : goal.returns-in-Number-clause-read
returns-in-Number-clause-read c =
    let first : c.args.reader.now ≡ token_of c.in-Some.token ∷ c.next.new.self = grind arith in
    rw (first, c.in-Number.is)
    (whole_read c.args.depth c.next.new.self c.in-Number.text.now c.ok_or.result
    (c.ok_or.ensures.value ∙ ap (λ o. ok_or o Json) c.whole.ensures)).0

pub returns-in-Number-clause-err : goal.returns-in-Number-clause-err
returns-in-Number-clause-err c =
    let first : c.args.reader.now ≡ token_of c.in-Some.token ∷ c.next.new.self = grind arith in
    rw (first, c.in-Number.is)
    (whole_read c.args.depth c.next.new.self c.in-Number.text.now c.ok_or.result
    (c.ok_or.ensures.value ∙ ap (λ o. ok_or o Json) c.whole.ensures)).1

pub returns : goal.returns
returns c =
    let first : c.args.reader.now ≡ token_of c.in-Some.token ∷ c.next.new.self = grind arith in
    record {
      read = passed_over c.next.new.self (λ d. None ≡ whole_of d) c.in-Some.token (λ e ms. refl)
          (λ e ds. refl) (λ s e. refl) (λ s e n q. absurd (c.in_default-token.not-Number s e))
          (λ b. refl) refl c.args.depth c.args.reader.now c.pass_from.new.reader first
          c.in_ok-pass_from.ensures.passed;
      shorter = omega (arith, ap length first, c.in_ok-pass_from.ensures.shorter);
      err = tt;
    }

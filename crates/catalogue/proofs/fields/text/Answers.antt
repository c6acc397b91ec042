use Rattle.std.proofs.Common.{◌≡◌, ◌∷◌, length, None, refl, ap, arith}
use Rattle.json.specs.Reads.{token_of}
use Rattle.json.specs.Token.{Token}
use Rattle.serde_json.specs.Data.{string}
use Rattle.serde_json.specs.Find.{as_str}
use Rattle.catalogue.proofs.ReadLemmas.{begun, no_start, passed_over}
use Rattle.catalogue.proofs.fields.text.Goals as goal

pub returns-in_default-clause-err : goal.returns-in_default-clause-err
returns-in_default-clause-err c = no_start c.args.depth c.args.reader.now (grind arith)

pub returns-in-String-clause-read : goal.returns-in-String-clause-read
returns-in-String-clause-read c =
    let first : c.args.reader.now ≡ token_of c.in-Some.token ∷ c.next.new.self = grind arith in
    let s = c.in-String.text.now in
    rw (first, c.in-String.is)
    (string s, begun c.args.depth (Token.string s ∷ c.next.new.self) _ (λ a o. refl), refl)

pub returns : goal.returns
returns c =
    let first : c.args.reader.now ≡ token_of c.in-Some.token ∷ c.next.new.self = grind arith in
    record {
      read = passed_over c.next.new.self (λ d. None ≡ as_str d) c.in-Some.token (λ e ms. refl)
          (λ e ds. refl) (λ s e. absurd (c.in_default-token.not-String s e)) (λ s e n q. refl)
          (λ b. refl) refl c.args.depth c.args.reader.now c.pass_from.new.reader first
          c.in_ok-pass_from.ensures.passed;
      shorter = omega (arith, ap length first, c.in_ok-pass_from.ensures.shorter);
      err = tt;
    }

use Rattle.std.proofs.Common.{◌≡◌, ℕ, ◌∷◌, ◌∙◌, None, ap, arith}
use Rattle.json.specs.Reads.{token_of}
use Rattle.catalogue.specs.Reading.{FileIs}
use Rattle.catalogue.proofs.ReadLemmas.{no_start, object_read, object_unread, passed_over}
use Rattle.catalogue.proofs.frame.file.Goals as goal

pub returns-in_default-clause-err : goal.returns-in_default-clause-err
returns-in_default-clause-err c = no_start c.args.depth c.args.reader.now (grind arith)

pub returns-in-BeginObject-clause-read : goal.returns-in-BeginObject-clause-read
returns-in-BeginObject-clause-read c =
    let first : c.args.reader.now ≡ token_of c.in-Some.token ∷ c.next.new.self = grind arith in
    object_read c.args.depth c.next.new.self c.args.reader.now (omega arith)
    c.members.result c.members.new.reader (λ es d. FileIs es d)
    (first ∙ ap (λ k. token_of k ∷ c.next.new.self) c.in-BeginObject.is) c.members.ensures.read

pub returns-in-BeginObject-clause-err : goal.returns-in-BeginObject-clause-err
returns-in-BeginObject-clause-err c =
    let first : c.args.reader.now ≡ token_of c.in-Some.token ∷ c.next.new.self = grind arith in
    object_unread c.args.depth c.next.new.self c.args.reader.now (omega arith)
    c.members.result
    (first ∙ ap (λ k. token_of k ∷ c.next.new.self) c.in-BeginObject.is) c.members.ensures.err

pub returns : goal.returns
returns c =
    let first : c.args.reader.now ≡ token_of c.in-Some.token ∷ c.next.new.self = grind arith in
    record {
      read = passed_over c.next.new.self (FileIs None) c.in-Some.token
          (λ e ms. absurd (c.in_default-token.not-BeginObject e))
          (λ e ds w i. never i.frame.count) (λ s e w i. never i.frame.count)
          (λ s e n q w i. never i.frame.count) (λ b w i. never i.frame.count)
          (λ w i. never i.frame.count) c.args.depth c.args.reader.now c.pass_from.new.reader first
          c.in_ok-pass_from.ensures.passed;
      err = tt;
    }
  where
    never : ◌≡◌ {A = ℕ} 0 2 → ⊥
    never e = omega (arith, e)

use Rattle.std.proofs.Common.{◌≡◌, ℕ, ◌∷◌, ◌∙◌, length, Option, Some, None, refl, ap, arith}
use Rattle.json.specs.Reads.{token_of}
use Rattle.serde_json.specs.Data.{Data, null, boolean, number, string, array}
use Rattle.catalogue.specs.Files.{member_count, NamesHeaps}
use Rattle.catalogue.specs.Reading.{EntryIs}
use Rattle.catalogue.proofs.ReadLemmas.{no_start, object_read, object_unread, passed_over}
use Rattle.catalogue.proofs.fields.entry.Goals as goal

pub returns-in_default-clause-err : goal.returns-in_default-clause-err
returns-in_default-clause-err c = no_start c.args.depth c.args.reader.now (grind arith)

pub returns-in-BeginObject-clause-read : goal.returns-in-BeginObject-clause-read
returns-in-BeginObject-clause-read c =
    let first : c.args.reader.now ≡ token_of c.in-Some.token ∷ c.next.new.self = grind arith in
    object_read c.args.depth c.next.new.self c.args.reader.now (omega arith)
    c.members.result c.members.new.reader (λ e d. EntryIs e d)
    (first ∙ ap (λ k. token_of k ∷ c.next.new.self) c.in-BeginObject.is) c.members.ensures.read

pub returns-in-BeginObject-clause-err : goal.returns-in-BeginObject-clause-err
returns-in-BeginObject-clause-err c =
    let first : c.args.reader.now ≡ token_of c.in-Some.token ∷ c.next.new.self = grind arith in
    object_unread c.args.depth c.next.new.self c.args.reader.now (omega arith)
    c.members.result
    (first ∙ ap (λ k. token_of k ∷ c.next.new.self) c.in-BeginObject.is) c.members.ensures.err

pub returns : goal.returns
returns c =
    let first : c.args.reader.now ≡ token_of c.in-Some.token ∷ c.next.new.self = grind arith in
    record {
      read = passed_over c.next.new.self (EntryIs None) c.in-Some.token
          (λ e ms. absurd (c.in_default-token.not-BeginObject e))
          (λ e ds w i. never (array ds) refl w.heaps i.heaps)
          (λ s e w i. never (string s.now) refl w.heaps i.heaps)
          (λ s e n q w i. never (number n) refl w.heaps i.heaps)
          (λ b w i. never (boolean b) refl w.heaps i.heaps) (λ w i. never null refl w.heaps i.heaps)
          c.args.depth c.args.reader.now c.pass_from.new.reader first
          c.in_ok-pass_from.ensures.passed;
      shorter = omega (arith, ap length first, c.in_ok-pass_from.ensures.shorter);
      err = tt;
    }
  where
    never : (d : Data) → member_count d ≡ 0 → (o : Option ℕ) → NamesHeaps d o → ⊥
    never d none None h = omega arith
    never d none (Some n) h = let l = h.0 in omega arith

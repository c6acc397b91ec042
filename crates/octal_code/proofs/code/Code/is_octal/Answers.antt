use Rattle.std.proofs.Common.{rules, ◌≡◌, ◌↔◌, ◌<◌, Bool, true, false, IsTrue, All, refl, sym}
use Rattle.std.proofs.lemmas.Bool.{true≢false}
use Rattle.misere_theory.proofs.Codes.{octal_exactly}
use Rattle.octal_code.proofs.code.Code.is_octal.Goals as goal

both : (a b : Bool) (P : Type 0) → (IsTrue a ↔ P) → ((b ≡ true) ↔ P) → a ≡ b
both true true P f g = refl
both true false P f g = absurd (true≢false (sym (g.1 (f.0 refl))))
both false true P f g = absurd (true≢false (sym (f.1 (g.0 refl))))
both false false P f g = refl

pub returns : goal.returns
returns c =
    let below : IsTrue c.all.result ↔ All (λ d. d < 8) c.args.self.now = search rules in
    both _ _ (All (λ d. d < 8) c.args.self.now) below (octal_exactly c.args.self.now)

-- What is said of the front of a text is said of all of it.
use Rattle.std.proofs.Common.{◌≤◌, ◌<◌, ℕ, Bool, true, false, List, arith, inl, inr, length}
use Rattle.misere_theory.specs.Certificates.{Certificate as MqcSaid}
use Rattle.certificate_text.specs.Spelling.{Spells}
use Rattle.verdict_texts.specs.declared.stream.TheConstants.{MOST_BYTES}
use Rattle.given_quotients.specs.Checks.{IsFrontOf}
use Rattle.given_quotients.proofs.Given.{of_all}
use Rattle.verdict_commands.specs.Explained.{Explains, ExplainsGiven, SpellsKind}
use Rattle.verdict_commands.specs.declared.kinds.Kind.TheVariants.{Certificate}

abbrev pub AreShort : Type 0
AreShort = (bytes : List ℕ) (c : MqcSaid) → Spells bytes c → length bytes ≤ MOST_BYTES

no_certificate : AreShort → (bytes : List ℕ) → MOST_BYTES < length bytes
    → SpellsKind Certificate bytes → ⊥
no_certificate short bytes long s =
    let few = short bytes s.0 s.1 in omega (arith, long, few)

long_explains : AreShort → (front bytes text : List ℕ) (succeeds : Bool) → MOST_BYTES < length front
    → MOST_BYTES < length bytes → Explains front text succeeds → Explains bytes text succeeds
long_explains short front bytes text true long more h = absurd (omega (arith, long, h.0))
long_explains short front bytes text false long more (inl h) = absurd (omega (arith, long, h.0))
long_explains short front bytes text false long more (inr h) =
    inr (more, no_certificate short bytes more, h.2)

pub explains_given : AreShort → (Are : List ℕ → Type 0) (front text : List ℕ) (succeeds : Bool)
    → IsFrontOf Are front → Explains front text succeeds → ExplainsGiven Are text succeeds
explains_given short Are front text succeeds (bytes, are, is) h = (
  bytes,
  are,
  of_all (λ (b : List ℕ). Explains b text succeeds) bytes front is (long_explains short front bytes text succeeds) h,
)

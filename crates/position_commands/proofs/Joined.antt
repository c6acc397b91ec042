-- What is said where a quotient speaks of the positions, and where it doesn't.
use Rattle.std.proofs.Common.{◌≡◌, ◌≤◌, ℕ, Bool, true, false, List, Result, Ok, Err, IfOk, arith, eq-zero-or-pos, inl, inr, refl}
use Rattle.misere_theory.specs.Certificates.{Certificate}
use Rattle.command_results.specs.declared.said.Said.{Said}
use Rattle.dominance_text.specs.Said.{DominanceSaid}
use Rattle.given_quotients.specs.declared.giving.Quotient.{Quotient}
use Rattle.given_quotients.specs.declared.giving.Quotient.TheVariants.{Finite, Whole, Presented}
use Rattle.position_commands.specs.PlayLines.{beyond_line}
use Rattle.position_commands.specs.Kinds.{SpeaksIn}
use Rattle.position_commands.specs.Said.{SaysBy, SaysWins}
use Rattle.position_commands.specs.Wins.{TellsWins}

pub well_said : {E : Type 0} (Speaks : Certificate → Type 0) (Tells : Certificate → List ℕ → Type 0)
    (c : Certificate) (r : Result Said E) → Speaks c → IfOk r (λ s. Tells c s.text.items)
    → IfOk r (λ s. s.succeeds ≡ true)
    → IfOk r (λ s. SaysBy Speaks (λ d t b. Tells d t × (b ≡ true)) c s.text.items s.succeeds)
well_said Speaks Tells c (Ok s) speaks tells well = inl (speaks, (tells, well))
well_said Speaks Tells c (Err e) speaks tells well = tt

-- what is said of winning moves where the quotient speaks of the position
pub speaking : {E : Type 0} (q : Quotient) (X : List ℕ) (r : Result Said E) → SpeaksIn q X
    → IfOk r (λ s. TellsWins q X s.text.items s.succeeds)
    → IfOk r (λ s. SaysWins X q s.text.items s.succeeds)
speaking (Finite c) X (Ok s) speaks told = inl (speaks, told)
speaking (Whole c) X (Ok s) speaks told = told
speaking (Presented k) X (Ok s) speaks told = inl (speaks, told)
speaking q X (Err e) speaks told = tt

-- and where it doesn't: no whole game, and no full certificate
pub unspoken : (q : Quotient) (X text : List ℕ) (succeeds : Bool) → (SpeaksIn q X → ⊥)
    → ((c : Certificate) → q ≡ Finite c → 1 ≤ c.period → ⊥) → ((c : DominanceSaid) → q ≡ Whole c → ⊥)
    → text ≡ beyond_line → succeeds ≡ false → SaysWins X q text succeeds
unspoken (Finite c) X text succeeds none partial whole line ill = elim (eq-zero-or-pos c.period) [
  | inl zero ↦ inr (zero, none, line, ill)
  | inr some ↦ absurd (partial c refl (omega (arith, some)))
]
unspoken (Whole c) X text succeeds none partial whole line ill = absurd (whole c refl)
unspoken (Presented k) X text succeeds none partial whole line ill = inr (none, line, ill)

-- What is compared of a quotient. This project's own.
use Rattle.std.specs.Prelude.{◌≡◌, Some, None}
use Rattle.own_quotients.specs.Same.{IsCertificateOf}
use Rattle.given_quotients.specs.declared.giving.Quotient.{Quotient}
use Rattle.given_quotients.specs.declared.giving.Quotient.TheVariants.{Finite, Whole, Presented}
use Rattle.description_commands.specs.declared.operands.Operand.{Operand}
use Rattle.description_commands.specs.declared.operands.Operand.TheVariants.{Certificate, Endless, Unmade}

-- Of a finite quotient the certificate, which of one that is presented is that of the same heaps; or of the latter, that
-- there is none. Of an infinite one that it is infinite, as that of a whole game is; and its presentation, if it has one.
abbrev pub IsOperandOf : Quotient → Operand → Type 0
IsOperandOf (Finite c) (Certificate d) = d ≡ c
IsOperandOf (Finite c) (Endless o) = ⊥
IsOperandOf (Finite c) Unmade = ⊥
IsOperandOf (Whole c) (Certificate d) = ⊥
IsOperandOf (Whole c) (Endless o) = o ≡ None
IsOperandOf (Whole c) Unmade = ⊥
IsOperandOf (Presented k) (Certificate d) = IsCertificateOf d k.said
IsOperandOf (Presented k) (Endless o) = (k.order ≡ None) × (o ≡ Some k)
IsOperandOf (Presented k) Unmade = k.order ≡ None → ⊥

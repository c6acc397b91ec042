-- What is printed of a game that is normal play beyond some heap. This project's own.
use Rattle.std.specs.Prelude.{◌≡◌, ◌≢◌, ◌⊎◌, ℕ, Bool, true, false, List, [], ◌++◌, Option, Some, None, codes, decimal}
use Rattle.misere_theory.specs.Certificates.{Certificate}
use Rattle.octal_code.specs.Text.{code_text}
use Rattle.given_quotients.specs.Checks.{Certifies, Checks}
use Rattle.given_quotients.specs.Says.{SaysGiven}
use Rattle.nim_tails.specs.Tails.{IsTail, IsTailFault, tail_fault_number, tail_fault_name, tail_fault_place}
use Rattle.nim_tails.specs.declared.whole.Tail.{Tail}
use Rattle.nim_tails.specs.declared.fault.TailFault.{TailFault}
use Rattle.nim_tails.specs.declared.fault.TailFault.TheVariants.{Memory}

-- the line of a yes
abbrev pub normal_line : Certificate → Tail → List ℕ
normal_line c t =
    codes "normal " ++ code_text c.code ++ codes " above heap " ++ decimal t.above
    ++ codes " outside " ++ decimal t.outside ++ codes "\n"

-- the heap or the element behind a name, if a fault has one
abbrev pub place_word : Option ℕ → List ℕ
place_word None = []
place_word (Some n) = codes " " ++ decimal n

-- the line of a no: its number, its name, and at what heap or element
abbrev pub tail_fault_line : TailFault → List ℕ
tail_fault_line f =
    codes "no " ++ decimal (tail_fault_number f) ++ codes " " ++ tail_fault_name f
    ++ place_word (tail_fault_place f) ++ codes "\n"

-- The text is that of what is seen of the certificate's game, or of a fault that is there.
abbrev pub IsTailText : Certificate → List ℕ → Bool → Type 0
IsTailText c text succeeds =
    ((t : Tail) × IsTail c t × (text ≡ normal_line c t) × (succeeds ≡ true))
    ⊎ ((f : TailFault) × IsTailFault c f × (f ≢ Memory) × (text ≡ tail_fault_line f)
    × (succeeds ≡ false))

-- the text is that of the certificate that such bytes are under the limit, or of a true no
abbrev pub Tails : (List ℕ → Type 0) → ℕ → List ℕ → Bool → Type 0
Tails Are limit text succeeds =
    SaysGiven IsTailText (Certifies Are limit) (λ t. Checks Are limit t false) text succeeds

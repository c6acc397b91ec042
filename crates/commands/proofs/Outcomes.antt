-- Faults of the words, by what they are.
use Rattle.std.proofs.Common.{◌≡◌, ◌∙◌, sym, subst, ap, ℕ, List, None}
use Rattle.command_line.specs.Refusals.{IsFaultOf}
use Rattle.command_line.specs.Requests.{plan_of, word_of}
use Rattle.command_line.specs.Status.{status_of}
use Rattle.command_line.specs.Wanted.{IsAskedBy}
use Rattle.command_line.specs.declared.faults.UsageFault.{UsageFault}
use Rattle.command_line.specs.declared.faults.UsageFault.TheVariants.{Memory}
use Rattle.command_line.specs.declared.wanted.Asked.{Asked}

-- what a fault says of the words, by what it is
pub known_as : (words : List (List ℕ)) (f fault : UsageFault) → f ≡ fault → IsFaultOf words f
    → IsFaultOf words fault
known_as words f fault is h = subst (λ (x : UsageFault). IsFaultOf words x) is h

-- words with a fault that isn't want of memory are no request
pub no_request : (words : List (List ℕ)) (f fault : UsageFault) → f ≡ fault
    → (status_of fault ≡ 3 → ⊥)
    → ((f ≡ Memory → ⊥) → (plan_of words ≡ None) × (word_of words ≡ None)) → plan_of words ≡ None
no_request words f fault is other h = (h (λ m. other (sym (ap status_of is) ∙ ap status_of m))).0

-- what is asked for, by what it is
pub asked_as : (words : List (List ℕ)) (a asked : Asked) → a ≡ asked → IsAskedBy words a
    → IsAskedBy words asked
asked_as words a asked is h = subst (λ (x : Asked). IsAskedBy words x) is h

-- The bound on turns is that of the certificate which the bytes spell.
use Rattle.std.proofs.Common.{◌≡◌, ℕ, ◌≤◌, List, [], ◌∷◌, Option, Some, None, refl, ap, arith}
use Rattle.misere_theory.specs.Certificates.{Certificate}
use Rattle.certificate_text.specs.Spelling.{Spells}
use Rattle.certificate_text.specs.Reading.{certificate_at}
use Rattle.check_machine.specs.Bounds.{most_turns, AreWithinBound}
use Rattle.check_machine.specs.Turns.{bound_read, bound}

-- what certificate_text tells of what is read whole, and of what is spelled
abbrev pub Takes : Type 0
Takes = (b : List ℕ) (c : Certificate) → certificate_at b ≡ Some (c, []) → Spells b c

abbrev pub ReadsAgain : Type 0
ReadsAgain = (b : List ℕ) (c : Certificate) → Spells b c → certificate_at b ≡ Some (c, [])

module _ (bytes : List ℕ) (limit : ℕ) where
  unspelled : Takes → ((c : Certificate) → Spells bytes c → ⊥)
      → (x : Option (Certificate × List ℕ)) → certificate_at bytes ≡ x
      → bound_read bytes limit x ≤ 16
  unspelled takes none None e = omega arith
  unspelled takes none (Some (c, [])) e = absurd (none c (takes bytes c e))
  unspelled takes none (Some (c, b ∷ rest)) e = omega arith

  pub bound_within : Takes → ReadsAgain → AreWithinBound bytes limit (bound bytes limit)
  bound_within takes again = record {
    spelled = λ c s.
        let e : bound bytes limit ≡ most_turns limit c =
        ap (bound_read bytes limit) (again bytes c s) in
        omega arith;
    unspelled = λ none. unspelled takes none (certificate_at bytes) refl;
  }

  pub fewer_within : (m n : ℕ) → m ≤ n → AreWithinBound bytes limit n
      → AreWithinBound bytes limit m
  fewer_within m n l w = record {
    spelled = λ c s. (let b = w.spelled c s in omega arith);
    unspelled = λ none. (let b = w.unspelled none in omega arith);
  }

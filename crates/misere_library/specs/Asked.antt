-- Why the calls on an opened quotient tell nothing. This project's own.
use Rattle.std.specs.Prelude.{◌≡◌, ◌⊎◌, ℕ, List}
use Rattle.std.specs.declared.option.Option.{Option}
use Rattle.misere_theory.specs.Certificates.{Certificate}
use Rattle.player.specs.Asked.{AreNoEnds, CutInto, IsNoPosition, IsOpened, IsUnopened}
use Rattle.misere_library.specs.Queries.{LeavesOut}

-- Why nothing is told of a position by this certificate.
abbrev pub IsUnanswered : Certificate → List ℕ → ℕ → Type 0
IsUnanswered c heaps status = IsNoPosition heaps status ⊎ ((status ≡ 23) × LeavesOut heaps c)

-- Why nothing is told of a position by what is opened.
abbrev pub IsNoAnswer : Option Certificate → List ℕ → ℕ → Type 0
IsNoAnswer opened heaps status =
    IsUnopened opened status ⊎ IsOpened opened (λ c. IsUnanswered c heaps status)

-- Why nothing is told of the positions by this certificate: the ends don't cut the heaps into them, or
-- they do, and nothing is told of the heaps.
abbrev pub AreUnanswered : Certificate → List ℕ → List ℕ → ℕ → ℕ → Type 0
AreUnanswered c heaps ends room status =
    AreNoEnds heaps ends room status ⊎ (CutInto heaps ends room × IsUnanswered c heaps status)

-- Why nothing is told of the positions by what is opened.
abbrev pub IsNoAnswerToMany : Option Certificate → List ℕ → List ℕ → ℕ → ℕ → Type 0
IsNoAnswerToMany opened heaps ends room status =
    IsUnopened opened status ⊎ IsOpened opened (λ c. AreUnanswered c heaps ends room status)

-- Why no answers are told of the positions by what is opened: as before, or memory was refused.
abbrev pub AreNoAnswers : Option Certificate → List ℕ → List ℕ → ℕ → ℕ → Type 0
AreNoAnswers opened heaps ends room status =
    IsUnopened opened status
    ⊎ IsOpened opened (λ c. AreUnanswered c heaps ends room status ⊎ (status ≡ 9))

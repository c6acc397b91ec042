-- What a catalogue holds: accepted certificates, one for a code and a kind. This project's own.
use Rattle.std.specs.Prelude.{◌≡◌, ◌≢◌, ℕ, List, Contains, AllPairs}
use Rattle.misere_theory.specs.Certificates.{Certificate, kind_of}

-- an entry has the code and the kind
abbrev pub HasEntry : List Certificate → List ℕ → ℕ → Type 0
HasEntry cs code heaps = (c : Certificate) × Contains cs c × (c.code ≡ code) × (kind_of c ≡ heaps)

-- no two entries have one code and one kind
abbrev pub HaveOtherKinds : List Certificate → Type 0
HaveOtherKinds cs = AllPairs (λ c d. c.code ≡ d.code → kind_of c ≢ kind_of d) cs

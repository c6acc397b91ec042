-- What salvage may answer. This project's own.
use Rattle.std.specs.Prelude.{◌≡◌, ◌⊎◌, ℕ, suc, List, [], ◌∷◌, ◌++◌, Vec, Result, Ok, Err}
use Rattle.std.specs.declared.alloc.Global.{Global}
use Rattle.misere_theory.specs.Certificates.{Certificate, kind_of}
use Rattle.serde_json.specs.Data.{Data}
use Rattle.catalogue.specs.Entries.{HasEntry}
use Rattle.catalogue.specs.Files.{IsJson, Written}
use Rattle.catalogue.specs.Loads.{IsCertified, IsFaultOf, Holds, IsShapeless}
use Rattle.catalogue.specs.declared.fault.LoadFault.{LoadFault}
use Rattle.catalogue.specs.declared.fault.LoadFault.TheVariants.{Json, Shape, Entry, Code, Twice, Heaps, Memory}

-- What becomes of the entries from the i-th on, where the certificates `held` were kept before: in
-- their order, each is certified under the limit, has a code and kind that none kept before has,
-- and is kept; or its first fault is listed. In the end cs are kept and the faults are listed.
abbrev pub Salvages : ℕ → List Certificate → ℕ → List Written → List Certificate → List LoadFault
    → Type 0
Salvages limit held i [] cs faults = (cs ≡ held) × (faults ≡ [])
Salvages limit held i (e ∷ es) cs faults =
    ((c : Certificate) × IsCertified limit e c × (HasEntry held c.code (kind_of c) → ⊥)
    × Salvages limit (held ++ c ∷ []) (suc i) es cs faults)
    ⊎ ((fault : LoadFault) × (more : List LoadFault) × (faults ≡ fault ∷ more)
    × IsFaultOf limit held i e fault × Salvages limit held (suc i) es cs more)

-- the bytes are a catalogue file, these certificates are kept of its entries, and these faults are
-- listed
abbrev pub IsKept : List ℕ → ℕ → List Certificate → List LoadFault → Type 0
IsKept bytes limit cs faults = (es : List Written) × Holds bytes es
    × Salvages limit [] 1 es cs faults

-- What may be answered to bytes. Want of memory may be answered at any time.
abbrev pub IsSalvaged : List ℕ → ℕ → Result (List Certificate × Vec LoadFault Global) LoadFault
    → Type 0
IsSalvaged bytes limit (Ok kept) = IsKept bytes limit kept.0 (kept.1).items
IsSalvaged bytes limit (Err Json) = (d : Data) → IsJson bytes d → ⊥
IsSalvaged bytes limit (Err Shape) = IsShapeless bytes
IsSalvaged bytes limit (Err (Entry i refusal)) = ⊥
IsSalvaged bytes limit (Err (Code i)) = ⊥
IsSalvaged bytes limit (Err (Twice i)) = ⊥
IsSalvaged bytes limit (Err (Heaps i)) = ⊥
IsSalvaged bytes limit (Err Memory) = Unit {0}

-- What the parts of loading answer.
use Rattle.std.specs.Prelude.{◌≡◌, ◌⊎◌, ℕ, List, ◌∷◌, ◌++◌, []}
use Rattle.misere_theory.specs.Certificates.{Certificate, kind_of}
use Rattle.serde_json.specs.Data.{Data}
use Rattle.catalogue.specs.Entries.{HasEntry}
use Rattle.catalogue.specs.Files.{IsJson, Written}
use Rattle.catalogue.specs.Loads.{IsCertified, IsFaultOf, IsShapeless}
use Rattle.catalogue.specs.declared.fault.LoadFault.{LoadFault}
use Rattle.catalogue.specs.declared.fault.LoadFault.TheVariants.{Json, Shape, Entry, Code, Twice, Heaps, Memory}

-- the bytes are no JSON, or no catalogue file, or memory was wanting
abbrev pub IsNoFile : List ℕ → LoadFault → Type 0
IsNoFile bytes Json = (d : Data) → IsJson bytes d → ⊥
IsNoFile bytes Shape = IsShapeless bytes
IsNoFile bytes (Entry i refusal) = ⊥
IsNoFile bytes (Code i) = ⊥
IsNoFile bytes (Twice i) = ⊥
IsNoFile bytes (Heaps i) = ⊥
IsNoFile bytes Memory = Unit {0}

-- the entry has this fault, or memory was wanting
abbrev pub IsFaultOrMemory : ℕ → List Certificate → ℕ → Written → LoadFault → Type 0
IsFaultOrMemory limit cs i e fault = (fault ≡ Memory) ⊎ IsFaultOf limit cs i e fault

-- the entry was certified under the limit, its code and kind weren't there, and now it is the last
pub record IsTaken (limit : ℕ) (old : List Certificate) (e : Written) (new : List Certificate) : Type 0 where
  pub certificate : Certificate
  pub certified : IsCertified limit e certificate
  pub absent : HasEntry old certificate.code (kind_of certificate) → ⊥
  pub last : new ≡ old ++ certificate ∷ []

-- What loading may answer. This project's own.
use Rattle.std.specs.Prelude.{◌≡◌, ◌≢◌, ℕ, suc, List, ◌∷◌, ◌++◌, length, Result, Ok, Err}
use Rattle.std.specs.List.{AllZip}
use Rattle.octal_code.specs.Text.{code_text}
use Rattle.certificate_text.specs.Spelling.{Spells}
use Rattle.misere_theory.specs.Certificates.{Certificate, Accepted, kind_of}
use Rattle.serde_json.specs.Data.{Data}
use Rattle.answers.specs.ByteVerdicts.{IsTrueOf, refused}
use Rattle.answers.specs.ByteVerdicts.ByteVerdict.{Yes, Memory as WantOfMemory}
use Rattle.check_machine.specs.Turns.{verdict}
use Rattle.catalogue.specs.Entries.{HasEntry, HaveOtherKinds}
use Rattle.catalogue.specs.Files.{IsJson, IsFile, Written, heaps_named}
use Rattle.catalogue.specs.declared.fault.LoadFault.{LoadFault}
use Rattle.catalogue.specs.declared.fault.LoadFault.TheVariants.{Json, Shape, Entry, Code, Twice, Heaps, Memory}

-- the text is that of a certificate, which is accepted under the limit
abbrev pub IsAcceptedText : ℕ → List ℕ → Certificate → Type 0
IsAcceptedText limit text c = Spells text c × Accepted c × (verdict text limit ≡ Yes c)

-- the certificate text is accepted under the limit, and the code text and the heaps are those of
-- its certificate
pub record IsCertified (limit : ℕ) (e : Written) (c : Certificate) : Type 0 where
  pub certificate : IsAcceptedText limit e.certificate c
  pub code : e.code ≡ code_text c.code
  pub heaps : kind_of c ≡ heaps_named e

-- the entries stand: each is certified, in order, and no two have one code and kind
pub record Stand (limit : ℕ) (es : List Written) (cs : List Certificate) : Type 0 where
  pub certified : AllZip (IsCertified limit) es cs
  pub other_kinds : HaveOtherKinds cs

-- The first fault of the entry e, the i-th, where the entries before gave the certificates cs: its
-- certificate is refused, by the verdict of its text and the limit; else the code isn't that of
-- its certificate; else the heaps aren't; else its code and kind are there already.
abbrev pub IsFaultOf : ℕ → List Certificate → ℕ → Written → LoadFault → Type 0
IsFaultOf limit cs i e Json = ⊥
IsFaultOf limit cs i e Shape = ⊥
IsFaultOf limit cs i e (Entry j refusal) = (j ≡ i) × IsTrueOf e.certificate limit (refused refusal)
    × (refused refusal ≢ WantOfMemory) × (refused refusal ≡ verdict e.certificate limit)
IsFaultOf limit cs i e (Code j) =
    (j ≡ i) × ((c : Certificate) × IsAcceptedText limit e.certificate c × (e.code ≢ code_text c.code))
IsFaultOf limit cs i e (Twice j) =
    (j ≡ i) × ((c : Certificate) × IsCertified limit e c × HasEntry cs c.code (kind_of c))
IsFaultOf limit cs i e (Heaps j) = (j ≡ i) × ((c : Certificate) × IsAcceptedText limit e.certificate c
    × (e.code ≡ code_text c.code) × (kind_of c ≢ heaps_named e))
IsFaultOf limit cs i e Memory = ⊥

-- the first entry at fault, the entries before it, which stand, and its fault; entries count from 1
pub record IsFirstFault (limit : ℕ) (es : List Written) (fault : LoadFault) : Type 0 where
  pub before : List Written
  pub entry : Written
  pub behind : List Written
  pub all : es ≡ before ++ entry ∷ behind
  pub certificates : List Certificate
  pub stand : Stand limit before certificates
  pub fault_is : IsFaultOf limit certificates (suc (length before)) entry fault

-- the bytes are a catalogue file with these entries
abbrev pub Holds : List ℕ → List Written → Type 0
Holds bytes es = (d : Data) × IsJson bytes d × IsFile d es

-- the bytes are JSON, but no catalogue file
abbrev pub IsShapeless : List ℕ → Type 0
IsShapeless bytes = (d : Data) × IsJson bytes d × ((es : List Written) → IsFile d es → ⊥)

-- they are a catalogue file, and this is the first fault of its entries
abbrev pub IsFaulty : List ℕ → ℕ → LoadFault → Type 0
IsFaulty bytes limit fault = (es : List Written) × Holds bytes es × IsFirstFault limit es fault

-- What may be answered to bytes: the certificates of all entries in order, or the fault. Want of
-- memory may be answered at any time.
abbrev pub IsLoaded : List ℕ → ℕ → Result (List Certificate) LoadFault → Type 0
IsLoaded bytes limit (Ok cs) = (es : List Written) × Holds bytes es × Stand limit es cs
IsLoaded bytes limit (Err Json) = (d : Data) → IsJson bytes d → ⊥
IsLoaded bytes limit (Err Shape) = IsShapeless bytes
IsLoaded bytes limit (Err (Entry i refusal)) = IsFaulty bytes limit (Entry i refusal)
IsLoaded bytes limit (Err (Code i)) = IsFaulty bytes limit (Code i)
IsLoaded bytes limit (Err (Twice i)) = IsFaulty bytes limit (Twice i)
IsLoaded bytes limit (Err (Heaps i)) = IsFaulty bytes limit (Heaps i)
IsLoaded bytes limit (Err Memory) = Unit {0}

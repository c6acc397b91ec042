-- The text of a certificate as a relation between bytes and the certificate's numbers, by cases on
-- numbers, words and lines. The format is this project's own.
use Rattle.std.specs.Prelude.{◌≡◌, ◌≢◌, ℕ, ◌+◌, ◌*◌, ◌<◌, List, [], ◌∷◌, ◌++◌, codes}
use Rattle.misere_theory.specs.Certificates.{Certificate, format_of}
use Rattle.octal_code.specs.Text.{IsCodeText}
use Rattle.certificate_text.specs.Spelling.{Line, text, said, IsWritable}

-- The digits of a number, without leading zeros: one digit, or the digits of a number above 0 and
-- one more digit.
pub data IsNumber : List ℕ → ℕ → Type 0 where
  One : (d : ℕ) → d < 10 → IsNumber ((48 + d) ∷ []) d
  More : {ds : List ℕ} {n : ℕ} (d : ℕ) → IsNumber ds n → 0 < n → d < 10
      → IsNumber (ds ++ (48 + d) ∷ []) (10 * n + d)

-- a key f:h, an element and a heap
pub record IsKey (word : List ℕ) (key : ℕ × ℕ) : Type 0 where
  pub f : List ℕ
  pub h : List ℕ
  pub element : IsNumber f key.0
  pub heap : IsNumber h key.1
  pub joined : word ≡ f ++ 58 ∷ h

-- a word that is always the same
abbrev pub IsFixed : List ℕ → List ℕ → Type 0
IsFixed word fixed = word ≡ fixed

-- one word for each value, in their order
abbrev pub AreWords : {X : Type 0} → (List ℕ → X → Type 0) → List (List ℕ) → List X → Type 0
AreWords IsWord [] [] = Unit {0}
AreWords IsWord [] (x ∷ xs) = ⊥
AreWords IsWord (w ∷ ws) [] = ⊥
AreWords IsWord (w ∷ ws) (x ∷ xs) = IsWord w x × AreWords IsWord ws xs

-- a line of this name, whose words are these values
pub record IsLine {X : Type 0} (name : List ℕ) (IsWord : List ℕ → X → Type 0) (line : Line)
    (xs : List X) : Type 0 where
  pub named : line.name ≡ name
  pub worded : AreWords IsWord line.words xs

-- one line for each row of the table
abbrev pub AreRows : List Line → List (List ℕ) → Type 0
AreRows [] [] = Unit {0}
AreRows [] (row ∷ rows) = ⊥
AreRows (line ∷ lines) [] = ⊥
AreRows (line ∷ lines) (row ∷ rows) = IsLine (codes "row") IsNumber line row × AreRows lines rows

-- the line of the separators, or in the third format no line
abbrev pub AreApart : Certificate → List Line → Type 0
AreApart c [] = format_of c ≡ 3
AreApart c (line ∷ []) = (format_of c ≢ 3) × IsLine (codes "apart") IsNumber line c.apart
AreApart c (line ∷ next ∷ lines) = ⊥

-- The bytes are these lines, and each says its part of the certificate.
pub record SpellsByLines (b : List ℕ) (c : Certificate) : Type 0 where
  pub writable : IsWritable c
  pub version : Line
  pub code : Line
  pub order : Line
  pub start : Line
  pub period : Line
  pub phi : Line
  pub portion : Line
  pub words : Line
  pub rows : List Line
  pub apart : List Line
  pub end : Line
  pub bytes : b
      ≡ text (version ∷ code ∷ order ∷ start ∷ period ∷ phi ∷ portion ∷ words
      ∷ (rows ++ (apart ++ end ∷ [])))
  pub is_version : IsLine (codes "mqc") IsNumber version (format_of c ∷ [])
  pub is_code : IsLine (codes "code") IsCodeText code (c.code ∷ [])
  pub is_order : IsLine (codes "order") IsNumber order (c.order ∷ [])
  pub is_start : IsLine (codes "start") IsNumber start (c.start ∷ [])
  pub is_period : IsLine (codes "period") IsNumber period (c.period ∷ [])
  pub is_phi : IsLine (codes "phi") IsNumber phi c.phi
  pub is_portion : IsLine (codes "portion") IsNumber portion c.portion
  pub is_words : IsLine (codes "words") IsKey words c.words
  pub are_rows : AreRows rows (said c).rows
  pub are_apart : AreApart c apart
  pub is_end : IsLine {X = List ℕ} (codes "end") IsFixed end []

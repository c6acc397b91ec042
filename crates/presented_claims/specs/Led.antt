-- Where a context leads a cell of words, and when it leads two of them to words that are lighter and still different.
-- This project's own.
use Rattle.std.specs.Prelude.{◌≡◌, ◌≢◌, ℕ, ◌+◌, ◌*◌, ◌%◌, ◌<◌, ◌≤◌, Bool, List, [], ◌∷◌, length, slice_index}
use Rattle.presentations.specs.Vectors.{plus, only}
use Rattle.normal_forms.specs.Forms.{NormalForms, IsElementWord, product_by}
use Rattle.presented_claims.specs.Claims.{cycled}
use Rattle.presented_claims.specs.Folds.{at_letter}

-- the sum of a word's letters, each as often as it has a weight
abbrev pub weight_of : List ℕ → List ℕ → ℕ
weight_of [] word = 0
weight_of (k ∷ weights) [] = 0
weight_of (k ∷ weights) (e ∷ word) = k * e + weight_of weights word

-- Whole periods of letters of which a word has as many as the threshold: beside it they can be had any number of times.
pub record AreWholeAt (n : ℕ) (tops : List (ℕ × ℕ)) (s e : List ℕ) : Type 0 where
  pub long : length e ≡ n
  pub large : (i : ℕ) → i < n → 0 < slice_index e i
      → (i < length tops) × ((at_letter tops i).0 ≤ slice_index s i)
  pub whole : (i : ℕ) → i < length tops → (k : ℕ) × (slice_index e i ≡ (at_letter tops i).1 * k)

-- the letter runs on in the cell of a class
abbrev pub RunsOn : List (ℕ × ℕ) → List ℕ → ℕ → Type 0
RunsOn folds a j = (j < length folds) × ((at_letter folds j).0 ≤ slice_index a j)

-- Beside the context z the class a becomes `to`; and a period more of a letter that runs on becomes whole periods there,
-- which are no heavier.
pub record IsLed (n : ℕ) (form : List ℕ → List ℕ) (tops folds : List (ℕ × ℕ)) (weights a z : List ℕ) : Type 0 where
  pub to : List ℕ
  pub is : form (plus a z) ≡ to
  pub turns : ℕ → List ℕ
  pub turned : (j : ℕ) → RunsOn folds a j
      → form (plus to (only n j (at_letter folds j).1)) ≡ form (plus to (turns j))
  pub whole : (j : ℕ) → RunsOn folds a j → AreWholeAt n tops to (turns j)
  pub light : (j : ℕ) → RunsOn folds a j
      → weight_of weights (turns j) ≤ weight_of weights (only n j (at_letter folds j).1)

-- Of some letter the words that two cells become never have the same: by the remainder, or since it stays in the one that
-- has less of it. Or the two are one cell, and each letter that runs on turns into one that no other one turns into.
pub data NeverMeet (n : ℕ) (form : List ℕ → List ℕ) (tops folds : List (ℕ × ℕ)) (weights a b z : List ℕ)
    (one : IsLed n form tops folds weights a z) (other : IsLed n form tops folds weights b z) : Type 0 where
  Remainder : (l : ℕ) → l < length tops
      → (slice_index one.to l % (at_letter tops l).1 ≢ slice_index other.to l % (at_letter tops l).1)
      → NeverMeet n form tops folds weights a b z one other
  Below : (l : ℕ) → slice_index one.to l < slice_index other.to l
      → ((j : ℕ) → RunsOn folds a j → slice_index (one.turns j) l ≡ 0)
      → NeverMeet n form tops folds weights a b z one other
  Above : (l : ℕ) → slice_index other.to l < slice_index one.to l
      → ((j : ℕ) → RunsOn folds b j → slice_index (other.turns j) l ≡ 0)
      → NeverMeet n form tops folds weights a b z one other
  Apart : a ≡ b → (own : ℕ → ℕ)
      → ((j : ℕ) → RunsOn folds a j → 0 < slice_index (one.turns j) (own j))
      → ((i j : ℕ) → RunsOn folds a i → RunsOn folds a j → i ≢ j → slice_index (one.turns j) (own i) ≡ 0)
      → ((j : ℕ) → RunsOn folds a j → other.turns j ≡ one.turns j)
      → NeverMeet n form tops folds weights a b z one other

-- A context tells each word of the one cell from each of the other, or leads any two different ones to lighter words that
-- are different; or they are one cell of one word.
pub data AreSeparated (n letters : ℕ) (relations : List (List ℕ × List ℕ)) (F : NormalForms n relations)
    (portion : List ℕ → Bool) (tops folds : List (ℕ × ℕ)) (weights a b : List ℕ) : Type 0 where
  Told : (z : List ℕ) → IsElementWord n letters relations z
      → ((x y : List ℕ) → IsElementWord n letters relations x → IsElementWord n letters relations y
      → cycled folds x ≡ a → cycled folds y ≡ b
      → portion (product_by F.form x z) ≢ portion (product_by F.form y z))
      → AreSeparated n letters relations F portion tops folds weights a b
  Lowered : (z : List ℕ) → IsElementWord n letters relations z
      → (one : IsLed n F.form tops folds weights a z) (other : IsLed n F.form tops folds weights b z)
      → NeverMeet n F.form tops folds weights a b z one other
      → weight_of weights one.to + weight_of weights other.to < weight_of weights a + weight_of weights b
      → AreSeparated n letters relations F portion tops folds weights a b
  Alone : a ≡ b → ((j : ℕ) → RunsOn folds a j → ⊥)
      → AreSeparated n letters relations F portion tops folds weights a b

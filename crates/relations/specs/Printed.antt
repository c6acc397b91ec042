-- The texts of words and relations, as `present` reads them, for LaTeX and in JSON. This project's own.
use Rattle.std.specs.Prelude.{◌≡◌, ℕ, zero, suc, ◌+◌, ◌≤◌, ◌==◌, List, [], ◌∷◌, ◌++◌, length, slice_index, slice_index_or, All, if◌then◌else◌, codes, decimal, encode_utf8}
use Rattle.presentations.specs.declared.TheConstants.{LETTERS, LARGEST_EXPONENT}
use Rattle.presentations.specs.declared.read.Relation.{Relation}
use Rattle.relations.specs.declared.text.Notation.{Notation}
use Rattle.relations.specs.declared.text.Notation.TheVariants.{Plain, Latex, Json}

-- a letter with its exponent, as `present` reads it or as LaTeX sets it
abbrev pub raised_text : Notation → ℕ → ℕ → List ℕ
raised_text Plain letter k = encode_utf8 (97 + letter) ++ codes "^" ++ decimal k
raised_text Latex letter k = encode_utf8 (97 + letter) ++ codes "^{" ++ decimal k ++ codes "}"
raised_text Json letter k = encode_utf8 (97 + letter) ++ codes "^" ++ decimal k

-- nothing for the exponent 0, the letter alone for 1, else the letter with its exponent
abbrev pub factor_text : Notation → ℕ → ℕ → List ℕ
factor_text notation letter k = if k == 0 then [] else (if k == 1 then encode_utf8 (97 + letter)
    else raised_text notation letter k)

-- the factors of the first n letters
abbrev pub factors_text : Notation → ℕ → List ℕ → List ℕ
factors_text notation zero word = []
factors_text notation (suc n) word = factors_text notation n word ++ factor_text notation n (slice_index word n)

-- 1 for no factor
abbrev pub or_one : List ℕ → List ℕ
or_one [] = codes "1"
or_one (b ∷ bytes) = b ∷ bytes

-- a word is a string of JSON, and stands bare in the other notations
abbrev pub quoted : Notation → List ℕ → List ℕ
quoted Plain text = text
quoted Latex text = text
quoted Json text = codes "\"" ++ text ++ codes "\""

abbrev pub word_text : Notation → ℕ → List ℕ → List ℕ
word_text notation n word = quoted notation (or_one (factors_text notation n word))

-- two words with a sign between them, or in JSON a list of the two
abbrev pub equal_text : Notation → List ℕ → List ℕ → List ℕ
equal_text Plain left right = left ++ codes "=" ++ right
equal_text Latex left right = left ++ codes "=" ++ right
equal_text Json left right = codes "[" ++ left ++ codes "," ++ right ++ codes "]"

abbrev pub relation_text : Notation → ℕ → Relation → List ℕ
relation_text notation n r =
    equal_text notation (word_text notation n r.left) (word_text notation n r.right)

-- a text before each relation
abbrev pub more_text : Notation → ℕ → List ℕ → List Relation → List ℕ
more_text notation n between [] = []
more_text notation n between (r ∷ relations) = between ++ relation_text notation n r ++ more_text notation n between relations

-- relations with a text between each two
abbrev pub relations_text : Notation → ℕ → List ℕ → List Relation → List ℕ
relations_text notation n between [] = []
relations_text notation n between (r ∷ relations) = relation_text notation n r ++ more_text notation n between relations

-- Exponents are at most LARGEST_EXPONENT, and the letters after the first n don't stand in the word.
pub record IsPrintable (n : ℕ) (word : List ℕ) : Type 0 where
  pub long : length word ≡ LETTERS
  pub few : All (λ x. x ≤ LARGEST_EXPONENT) word
  pub rest : (i : ℕ) → n ≤ i → slice_index word i ≡ 0

-- the same for both words of each relation
abbrev pub ArePrintable : ℕ → List Relation → Type 0
ArePrintable n relations = All (λ r. IsPrintable n r.left × IsPrintable n r.right) relations

-- a text before the word of each element
abbrev pub more_words : Notation → ℕ → List ℕ → List (List ℕ) → List ℕ → List ℕ
more_words notation n between words [] = []
more_words notation n between words (e ∷ elements) =
    between ++ word_text notation n (slice_index_or words e []) ++ more_words notation n between words elements

-- the words of elements with a text between each two
abbrev pub words_text : Notation → ℕ → List ℕ → List (List ℕ) → List ℕ → List ℕ
words_text notation n between words [] = []
words_text notation n between words (e ∷ elements) =
    word_text notation n (slice_index_or words e []) ++ more_words notation n between words elements

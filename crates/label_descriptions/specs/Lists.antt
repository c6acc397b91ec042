-- Words and relations of a presentation in texts, and lists of them, as `describe` prints those of a finite quotient.
-- This project's own.
use Rattle.std.specs.Prelude.{ℕ, zero, suc, ◌+◌, ◌==◌, List, [], ◌++◌, Option, Some, None, slice_index, slice_index_or, if◌then◌else◌, codes, decimal, encode_utf8}
use Rattle.relations.specs.Printed.{word_text, equal_text}
use Rattle.relations.specs.declared.text.Notation.{Notation}
use Rattle.relations.specs.declared.text.Notation.TheVariants.{Plain, Latex, Json}

-- a relation between words in the first n letters
abbrev pub relation_text : Notation → ℕ → List ℕ × List ℕ → List ℕ
relation_text notation n r = equal_text notation (word_text notation n r.0) (word_text notation n r.1)

-- what stands in the place of the word of a heap that is left out
abbrev pub left_out : Notation → List ℕ
left_out Plain = codes "-"
left_out Latex = codes "-"
left_out Json = codes "null"

-- the word of a heap, if it has one
abbrev pub heap_word : Notation → ℕ → Option (List ℕ) → List ℕ
heap_word notation n None = left_out notation
heap_word notation n (Some w) = word_text notation n w

-- what stands before item k of a list: a text before the first one, and another between each two
abbrev pub front : List ℕ → List ℕ → ℕ → List ℕ
front first between k = if k == 0 then first else between

-- what stands before word or relation k
abbrev pub before : Notation → ℕ → List ℕ
before Plain k = front (codes " ") (codes ", ") k
before Latex k = front [] (codes "$, $") k
before Json k = front [] (codes ",") k

-- the first k relations, in the first n letters
abbrev pub relations_text : Notation → ℕ → List (List ℕ × List ℕ) → ℕ → List ℕ
relations_text notation n rs zero = []
relations_text notation n rs (suc k) =
    relations_text notation n rs k ++ before notation k ++ relation_text notation n (slice_index_or rs k ([], []))

-- the first k words, in the first n letters
abbrev pub words_text : Notation → ℕ → List (List ℕ) → ℕ → List ℕ
words_text notation n ws zero = []
words_text notation n ws (suc k) =
    words_text notation n ws k ++ before notation k ++ word_text notation n (slice_index_or ws k [])

-- what stands before the word of heap k
abbrev pub before_heap : Notation → ℕ → List ℕ
before_heap Plain k = codes " "
before_heap Latex k = before Latex k
before_heap Json k = before Json k

-- the words of the first k heaps, in the first n letters
abbrev pub heap_words_text : Notation → ℕ → List (Option (List ℕ)) → ℕ → List ℕ
heap_words_text notation n ws zero = []
heap_words_text notation n ws (suc k) =
    heap_words_text notation n ws k ++ before_heap notation k ++ heap_word notation n (slice_index_or ws k None)

-- a letter, from which exponent on the portion repeats along it, and after how many
abbrev pub cycle_pieces : Notation → ℕ → ℕ → ℕ → List ℕ
cycle_pieces Plain name start period = encode_utf8 name ++ codes " " ++ decimal start ++ codes ":" ++ decimal period
cycle_pieces Latex name start period =
    codes "along $" ++ encode_utf8 name ++ codes "$ from exponent $" ++ decimal start ++ codes "$ with period $"
    ++ decimal period ++ codes "$"
cycle_pieces Json name start period =
    codes "\"" ++ encode_utf8 name ++ codes "\":[" ++ decimal start ++ codes "," ++ decimal period ++ codes "]"

abbrev pub cycle_text : Notation → ℕ → ℕ × ℕ → List ℕ
cycle_text notation letter cycle = cycle_pieces notation (97 + letter) cycle.0 cycle.1

-- what stands before the cycle of a letter
abbrev pub before_cycle : Notation → ℕ → List ℕ
before_cycle Plain letter = codes " "
before_cycle Latex letter = front (codes " ") (codes ", ") letter
before_cycle Json letter = front [] (codes ",") letter

-- the cycles of the first k letters
abbrev pub cycles_text : Notation → List (ℕ × ℕ) → ℕ → List ℕ
cycles_text notation cycles zero = []
cycles_text notation cycles (suc k) =
    cycles_text notation cycles k ++ before_cycle notation k
    ++ cycle_text notation k (slice_index_or cycles k (0, 0))

-- a letter and its heap, behind what stands before it
abbrev pub generator_text : Notation → ℕ → ℕ → List ℕ
generator_text Plain letter heap = codes " " ++ encode_utf8 (97 + letter) ++ codes "=" ++ decimal heap
generator_text Latex letter heap =
    codes " $" ++ encode_utf8 (97 + letter) ++ codes "=\\Phi(" ++ decimal heap ++ codes ")$"
generator_text Json letter heap =
    front [] (codes ",") letter ++ codes "\"" ++ encode_utf8 (97 + letter) ++ codes "\":" ++ decimal heap

-- the first k letters and their heaps
abbrev pub generators_text : Notation → List ℕ → ℕ → List ℕ
generators_text notation heaps zero = []
generators_text notation heaps (suc k) =
    generators_text notation heaps k ++ generator_text notation k (slice_index heaps k)

-- what stands for infinitely many elements
abbrev pub endless : Notation → List ℕ
endless Plain = codes "infinite"
endless Latex = codes "\\infty"
endless Json = codes "null"

-- how many elements there are, if they are finitely many
abbrev pub order_text : Notation → Option ℕ → List ℕ
order_text notation None = endless notation
order_text Plain (Some q) = codes "order " ++ decimal q
order_text Latex (Some q) = decimal q
order_text Json (Some q) = decimal q

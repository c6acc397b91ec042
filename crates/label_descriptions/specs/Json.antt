-- A presentation as one object of JSON. This project's own.
use Rattle.std.specs.Prelude.{ℕ, List, ◌++◌, Option, length, codes, decimal}
use Rattle.octal_code.specs.Text.{code_text}
use Rattle.presentations.specs.declared.TheConstants.{LETTERS}
use Rattle.presented_text.specs.Said.{PresentedSaid}
use Rattle.relations.specs.declared.text.Notation.TheVariants.{Json}
use Rattle.label_descriptions.specs.Lists.{cycles_text, generators_text, heap_words_text, order_text, relations_text, words_text}

-- the code, how many heaps have words of their own, after how many these repeat or 0, and how many elements there are
abbrev pub head_pieces : List ℕ → ℕ → ℕ → List ℕ → List ℕ
head_pieces code heaps period order =
    codes "{\"code\":\"" ++ code ++ codes "\",\"kind\":\"presented\",\"heaps\":" ++ decimal heaps
    ++ codes ",\"period\":" ++ decimal period ++ codes ",\"order\":" ++ order

abbrev pub head_json : PresentedSaid → Option ℕ → List ℕ
head_json c order = head_pieces (code_text c.code) c.heaps c.period (order_text Json order)

-- the letters and the relations, the portion and the cycles
abbrev pub monoid_pieces : List ℕ → List ℕ → List ℕ → List ℕ → List ℕ
monoid_pieces generators relations portion cycles =
    codes ",\"generators\":{" ++ generators ++ codes "},\"relations\":[" ++ relations
    ++ codes "],\"portion\":[" ++ portion ++ codes "],\"cycles\":{" ++ cycles ++ codes "}"

abbrev pub monoid_json : PresentedSaid → List ℕ
monoid_json c =
    monoid_pieces (generators_text Json c.letters (length c.letters))
    (relations_text Json LETTERS c.relations (length c.relations)) (words_text Json LETTERS c.portion (length c.portion))
    (cycles_text Json c.cycles (length c.cycles))

-- the word of each heap of the list
abbrev pub words_json : PresentedSaid → List ℕ
words_json c = codes ",\"words\":[" ++ heap_words_text Json LETTERS c.words (length c.words) ++ codes "]}\n"

-- the object
abbrev pub json_text : PresentedSaid → Option ℕ → List ℕ
json_text c order = head_json c order ++ monoid_json c ++ words_json c

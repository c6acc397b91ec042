-- The text of a catalogue: compact JSON and one LF. This project's own.
use Rattle.std.specs.Prelude.{ℕ, List, [], ◌∷◌, ◌++◌, codes, map}
use Rattle.octal_code.specs.Text.{code_text}
use Rattle.certificate_text.specs.Spelling.{text, lines}
use Rattle.misere_theory.specs.Certificates.{Certificate, kind_of}
use Rattle.serde_json.specs.Data.{Data, Items, unsigned, number, string, array, object, member, no_members}
use Rattle.serde_json.specs.View.{items_of}
use Rattle.serde_json.specs.Written.{compact_text}

-- an entry: the text of the certificate, that of its code, and its kind
abbrev pub entry_data : Certificate → Data
entry_data c =
    object
    (member (codes "certificate") (string (text (lines c)))
    (member (codes "code") (string (code_text c.code))
    (member (codes "heaps") (number (unsigned (kind_of c))) no_members)))

-- the entries, and the version 2
abbrev pub file_data : Items → Data
file_data items =
    object
    (member (codes "entries") (array items)
    (member (codes "version") (number (unsigned 2)) no_members))

-- the entries in their order
abbrev pub catalogue_data : List Certificate → Data
catalogue_data cs = file_data (items_of (map entry_data cs))

abbrev pub catalogue_text : List Certificate → List ℕ
catalogue_text cs = compact_text (catalogue_data cs) ++ 10 ∷ []

-- A catalogue as a table. This project's own.
use Rattle.std.specs.Prelude.{◌≡◌, ◌↔◌, ℕ, ◌==◌, ◌<◌, ◌≤◌, Bool, true, false, List, [], ◌∷◌, ◌++◌, Option, Some, None, Result, Ok, Err, codes, decimal, length, if◌then◌else◌}
use Rattle.octal_code.specs.Text.{code_text}
use Rattle.misere_theory.specs.Certificates.{Certificate, IsHeapOf, kind_of, phi_at}
use Rattle.streams.specs.Files.{Holds}
use Rattle.descriptions.specs.Described.{TellsTame}
use Rattle.catalogue.specs.Loads.{IsLoaded}
use Rattle.catalogue.specs.declared.fault.LoadFault.{LoadFault}
use Rattle.catalogue_command.specs.Lines.{IsFaultLine}

-- As many elements other than the identity are those of heaps: they have the numbers 1 to n.
abbrev pub HasHeapElements : Certificate → ℕ → Type 0
HasHeapElements c n = (e : ℕ) → 0 < e
    → (e ≤ n) ↔ ((h : ℕ) × IsHeapOf c h × (phi_at c h ≡ e))

-- the names of the fields
abbrev pub table_head : List ℕ
table_head = codes "code\tkind\theaps\torder\tportion\tstart\tperiod\ttame\theap_elements\n"

-- how many elements the quotient of an entry for a whole game has, and its portion; its start and its
-- period
abbrev pub full_numbers : Certificate → List ℕ
full_numbers c =
    decimal c.order ++ codes "\t" ++ decimal (length c.portion) ++ codes "\t" ++ decimal c.start
    ++ codes "\t" ++ decimal c.period

-- the fields of an entry for a whole game, and the last ones: no number of heaps
abbrev pub full_row : Certificate → (last : List ℕ) → List ℕ
full_row c last =
    code_text c.code ++ codes "\tfull\t\t" ++ full_numbers c ++ codes "\t" ++ last ++ codes "\n"

-- of an entry for the heaps 1 to M: M and how many elements there are, no start and no period
abbrev pub part_numbers : Certificate → List ℕ
part_numbers c =
    decimal (kind_of c) ++ codes "\t" ++ decimal c.order ++ codes "\t" ++ decimal (length c.portion)

abbrev pub part_row : Certificate → (last : List ℕ) → List ℕ
part_row c last =
    code_text c.code ++ codes "\tpart\t" ++ part_numbers c ++ codes "\t\t\t" ++ last ++ codes "\n"

-- the last ones: n where the quotient is T_n, or nothing; and how many elements heaps have
abbrev pub last_fields : Option ℕ → ℕ → List ℕ
last_fields (Some n) count = decimal n ++ codes "\t" ++ decimal count
last_fields None count = codes "\t" ++ decimal count

abbrev pub row : Certificate → (last : List ℕ) → List ℕ
row c last = if kind_of c == 0 then full_row c last else part_row c last

-- the same as an object of JSON, without the fields that are empty: its code and kind, how many
-- elements there are, and the others
abbrev pub object_front : (kind : List ℕ) → Certificate → List ℕ
object_front kind c =
    codes "{\"code\":\"" ++ code_text c.code ++ codes "\",\"kind\":\"" ++ kind ++ codes "\""

abbrev pub object_sizes : Certificate → List ℕ
object_sizes c =
    codes ",\"order\":" ++ decimal c.order ++ codes ",\"portion\":" ++ decimal (length c.portion)

abbrev pub object_period : Certificate → List ℕ
object_period c = codes ",\"start\":" ++ decimal c.start ++ codes ",\"period\":" ++ decimal c.period

abbrev pub full_object : Certificate → (last : List ℕ) → List ℕ
full_object c last = object_front (codes "full") c ++ object_sizes c ++ object_period c ++ last

abbrev pub part_object : Certificate → (last : List ℕ) → List ℕ
part_object c last =
    object_front (codes "part") c ++ codes ",\"heaps\":" ++ decimal (kind_of c) ++ object_sizes c
    ++ last

-- a quotient that is wild has null
abbrev pub last_members : Option ℕ → ℕ → List ℕ
last_members (Some n) count =
    codes ",\"tame\":" ++ decimal n ++ codes ",\"heap_elements\":" ++ decimal count ++ codes "}"
last_members None count = codes ",\"tame\":null,\"heap_elements\":" ++ decimal count ++ codes "}"

abbrev pub object : Certificate → (last : List ℕ) → List ℕ
object c last = if kind_of c == 0 then full_object c last else part_object c last

-- The text of an entry has what is true of its quotient: whether it is tame, and how many elements
-- heaps have.
abbrev pub IsRow : Certificate → List ℕ → Type 0
IsRow c text = (tame : Option ℕ) × (count : ℕ) × TellsTame c tame × HasHeapElements c count
    × (text ≡ row c (last_fields tame count))

abbrev pub IsObject : Certificate → List ℕ → Type 0
IsObject c text = (tame : Option ℕ) × (count : ℕ) × TellsTame c tame × HasHeapElements c count
    × (text ≡ object c (last_members tame count))

-- an object behind another
abbrev pub IsNextObject : Certificate → List ℕ → Type 0
IsNextObject c text = (own : List ℕ) × IsObject c own × (text ≡ codes ",\n" ++ own)

-- a text for each entry, one after another
abbrev pub AreTexts : (Certificate → List ℕ → Type 0) → List Certificate → List ℕ → Type 0
AreTexts Is [] text = text ≡ []
AreTexts Is (c ∷ cs) text =
    (first rest : List ℕ) × Is c first × AreTexts Is cs rest × (text ≡ first ++ rest)

-- the table: its head and a line for each entry
abbrev pub IsTableLines : List Certificate → List ℕ → Type 0
IsTableLines cs text = (rows : List ℕ) × AreTexts IsRow cs rows × (text ≡ table_head ++ rows)

-- an array of the objects of all entries
abbrev pub IsTableArray : List Certificate → List ℕ → Type 0
IsTableArray [] text = text ≡ codes "[]\n"
IsTableArray (c ∷ cs) text =
    (first rest : List ℕ) × IsObject c first × AreTexts IsNextObject cs rest
    × (text ≡ codes "[" ++ first ++ rest ++ codes "]\n")

-- the one or the other
abbrev pub IsTableText : Bool → List Certificate → List ℕ → Type 0
IsTableText false cs text = IsTableLines cs text
IsTableText true cs text = IsTableArray cs text

-- the table of all entries, well; or the line of the fault
abbrev pub TablesAnswer : Bool → Result (List Certificate) LoadFault → Bool → List ℕ → Type 0
TablesAnswer json (Ok cs) succeeds printed = (succeeds ≡ true) × IsTableText json cs printed
TablesAnswer json (Err fault) succeeds printed = (succeeds ≡ false) × IsFaultLine fault printed

-- what may be loaded of the bytes is printed as a table
abbrev pub IsTable : Bool → List ℕ → ℕ → Bool → List ℕ → Type 0
IsTable json bytes limit succeeds printed = (answer : Result (List Certificate) LoadFault)
    × IsLoaded bytes limit answer × TablesAnswer json answer succeeds printed

-- what is said of what the file holds
abbrev pub Tables : Bool → ℕ → Option (List ℕ → Option (List ℕ)) → List ℕ → Bool → List ℕ → Type 0
Tables json limit files file succeeds printed = (bytes : List ℕ) × Holds files file bytes
    × IsTable json bytes limit succeeds printed

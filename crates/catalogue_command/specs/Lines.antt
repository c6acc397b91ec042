-- The lines of a catalogue. This project's own.
use Rattle.std.specs.Prelude.{◌≡◌, ◌≢◌, ℕ, ◌==◌, List, [], ◌++◌, codes, decimal, length, if◌then◌else◌}
use Rattle.std.specs.List.{flat_map}
use Rattle.octal_code.specs.Text.{code_text}
use Rattle.misere_theory.specs.Certificates.{Certificate, kind_of}
use Rattle.answers.specs.Refusals.{refusal_number, refusal_name}
use Rattle.verdict_texts.specs.Lines.{no_line}
use Rattle.catalogue.specs.declared.fault.LoadFault.{LoadFault}
use Rattle.catalogue.specs.declared.fault.LoadFault.TheVariants.{Json, Shape, Entry, Code, Twice, Heaps, Memory}

-- an entry for a whole game: the code, the order, the start and the period
abbrev pub full_line : Certificate → List ℕ
full_line c =
    code_text c.code ++ codes " order " ++ decimal c.order ++ codes " start " ++ decimal c.start
    ++ codes " period " ++ decimal c.period ++ codes "\n"

-- an entry for a part of one: the code, the order, and the last heap of the part
abbrev pub partial_line : Certificate → List ℕ
partial_line c =
    code_text c.code ++ codes " order " ++ decimal c.order ++ codes " heaps " ++ decimal (kind_of c)
    ++ codes "\n"

-- the one or the other, by the kind of the certificate
abbrev pub entry_line : Certificate → List ℕ
entry_line c = if kind_of c == 0 then full_line c else partial_line c

-- an entry, refused under this number and name
abbrev pub refused_entry : ℕ → ℕ → List ℕ → List ℕ
refused_entry i number name = codes "refused 3 Entry " ++ decimal i ++ codes " "
    ++ no_line number name

abbrev pub added_line : List ℕ → List ℕ
added_line code = codes "added " ++ code_text code ++ codes "\n"

-- how many entries were written anew
abbrev pub migrated_line : List Certificate → List ℕ
migrated_line cs = codes "migrated " ++ decimal (length cs) ++ codes "\n"

-- the line of a fault
abbrev pub fault_line : LoadFault → List ℕ
fault_line Json = codes "refused 1 Json\n"
fault_line Shape = codes "refused 2 Shape\n"
fault_line (Entry i refusal) = refused_entry i (refusal_number refusal) (refusal_name refusal)
fault_line (Code i) = codes "refused 4 Code " ++ decimal i ++ codes "\n"
fault_line (Twice i) = codes "refused 5 Twice " ++ decimal i ++ codes "\n"
fault_line (Heaps i) = codes "refused 6 Heaps " ++ decimal i ++ codes "\n"
fault_line Memory = []

-- the text is the line of the fault; want of memory has none
abbrev pub IsFaultLine : LoadFault → List ℕ → Type 0
IsFaultLine fault text = (fault ≢ Memory) × (text ≡ fault_line fault)

-- what is printed of a salvage: the line of each fault in their order, and how many entries are
-- kept
abbrev pub salvage_lines : List Certificate → List LoadFault → List ℕ
salvage_lines cs faults = flat_map fault_line faults ++ codes "kept " ++ decimal (length cs)
    ++ codes "\n"

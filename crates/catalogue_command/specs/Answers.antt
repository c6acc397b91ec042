-- What the actions answer to the bytes of a catalogue file: whether they end well, and what they
-- print. This project's own.
use Rattle.std.specs.Prelude.{◌≡◌, ◌⊎◌, ℕ, List, [], ◌∷◌, ◌++◌, Bool, true, false, Option, Result, Ok, Err, Vec, Contains, codes}
use Rattle.std.specs.List.{flat_map}
use Rattle.std.specs.declared.alloc.Global.{Global}
use Rattle.certificate_text.specs.Spelling.{lines, text}
use Rattle.octal_code.specs.Text.{IsCodeText}
use Rattle.streams.specs.Files.{Holds, Replaces}
use Rattle.misere_theory.specs.Certificates.{Certificate, kind_of}
use Rattle.catalogue.specs.Entries.{HasEntry}
use Rattle.catalogue.specs.Loads.{IsLoaded}
use Rattle.catalogue.specs.Salvages.{IsSalvaged}
use Rattle.catalogue.specs.declared.fault.LoadFault.{LoadFault}
use Rattle.catalogue.specs.Texts.{catalogue_text}
use Rattle.answers.specs.ByteVerdicts.{ByteVerdict}
use Rattle.check_machine.specs.Turns.{verdict}
use Rattle.answers.specs.ByteVerdicts.ByteVerdict.{Yes, Memory}
use Rattle.verdict_texts.specs.Lines.{IsTextOf}
use Rattle.catalogue_command.specs.Lines.{added_line, entry_line, migrated_line, salvage_lines, IsFaultLine}

-- the lines of all entries, well; or the line of the fault
abbrev pub ListsAnswer : Result (List Certificate) LoadFault → Bool → List ℕ → Type 0
ListsAnswer (Ok cs) succeeds printed = (succeeds ≡ true) × (printed ≡ flat_map entry_line cs)
ListsAnswer (Err fault) succeeds printed = (succeeds ≡ false) × IsFaultLine fault printed

-- what may be loaded of the bytes is listed
abbrev pub IsListing : List ℕ → ℕ → Bool → List ℕ → Type 0
IsListing bytes limit succeeds printed = (answer : Result (List Certificate) LoadFault)
    × IsLoaded bytes limit answer × ListsAnswer answer succeeds printed

-- The text of the certificate of the code and kind, well; that there is none; or the line of the
-- fault.
abbrev pub GetsAnswer : List ℕ → ℕ → Result (List Certificate) LoadFault → Bool → List ℕ → Type 0
GetsAnswer code heaps (Ok cs) succeeds printed =
    ((c : Certificate) × Contains cs c × (c.code ≡ code) × (kind_of c ≡ heaps) × (succeeds ≡ true)
    × (printed ≡ text (lines c)))
    ⊎ ((HasEntry cs code heaps → ⊥) × (succeeds ≡ false) × (printed ≡ codes "absent\n"))
GetsAnswer code heaps (Err fault) succeeds printed = (succeeds ≡ false) × IsFaultLine fault printed

abbrev pub IsGotten : List ℕ → ℕ → List ℕ → ℕ → Bool → List ℕ → Type 0
IsGotten bytes limit code heaps succeeds printed = (answer : Result (List Certificate) LoadFault)
    × IsLoaded bytes limit answer × GetsAnswer code heaps answer succeeds printed

-- what is said of what the file holds
abbrev pub Lists : ℕ → Option (List ℕ → Option (List ℕ)) → List ℕ → Bool → List ℕ → Type 0
Lists limit files file succeeds printed = (bytes : List ℕ) × Holds files file bytes
    × IsListing bytes limit succeeds printed

-- the text is a code's, and this is said of what the file holds
abbrev pub Gets : ℕ → Option (List ℕ → Option (List ℕ)) → List ℕ → List ℕ → ℕ → Bool → List ℕ
    → Type 0
Gets limit files file text heaps succeeds printed =
    (code bytes : List ℕ) × IsCodeText text code × Holds files file bytes
    × IsGotten bytes limit code heaps succeeds printed

-- the file holds the empty catalogue, and nothing is printed
abbrev pub Creates : Option (List ℕ → Option (List ℕ)) → Option (List ℕ → Option (List ℕ)) → List ℕ
    → Bool → List ℕ → Type 0
Creates before after file succeeds printed = Replaces before after file (catalogue_text [])
    × (succeeds ≡ true) × (printed ≡ [])

-- The catalogue that an addition begins with: an empty one, or what may be loaded of the file.
abbrev pub Begins : Bool → ℕ → Option (List ℕ → Option (List ℕ)) → List ℕ
    → Result (List Certificate) LoadFault → Type 0
Begins true limit files file answer = answer ≡ Ok []
Begins false limit files file answer = (bytes : List ℕ) × Holds files file bytes
    × IsLoaded bytes limit answer

-- The certificate c is added behind the entries cs, well, where its code and kind aren't there; else
-- it is refused.
abbrev pub Takes : List Certificate → Certificate → Bool → List Certificate → List ℕ → Type 0
Takes cs c true new printed = (HasEntry cs c.code (kind_of c) → ⊥) × (new ≡ cs ++ c ∷ [])
    × (printed ≡ added_line c.code)
Takes cs c false new printed = HasEntry cs c.code (kind_of c)
    × (printed ≡ codes "refused 1 Present\n")

-- what comes of a verdict: a certificate that is accepted may be added, and the text of a no is
-- printed
abbrev pub AddsTo : List Certificate → ByteVerdict → Bool → List Certificate → List ℕ → Type 0
AddsTo cs (Yes c) succeeds new printed = Takes cs c succeeds new printed
AddsTo cs Memory succeeds new printed = ⊥
AddsTo cs answer succeeds new printed = (succeeds ≡ false) × IsTextOf answer printed

-- what comes of the bytes of a certificate, by their verdict under this limit
abbrev pub IsAddition : List Certificate → List ℕ → ℕ → Bool → List Certificate → List ℕ → Type 0
IsAddition cs bytes limit succeeds new printed =
    AddsTo cs (verdict bytes limit) succeeds new printed

-- where it ends well the file holds the text of the new entries, else no file changes
abbrev pub Saves : Option (List ℕ → Option (List ℕ)) → Option (List ℕ → Option (List ℕ)) → List ℕ
    → Bool → List Certificate → Type 0
Saves before after file true new = Replaces before after file (catalogue_text new)
Saves before after file false new = after ≡ before

abbrev pub AddsAnswer : ℕ → Option (List ℕ → Option (List ℕ)) → Option (List ℕ → Option (List ℕ))
    → List ℕ → List ℕ → Result (List Certificate) LoadFault → Bool
    → List ℕ → Type 0
AddsAnswer limit before after file certificate (Ok cs) succeeds printed =
    (bytes : List ℕ) × (new : List Certificate) × Holds before certificate bytes
    × IsAddition cs bytes limit succeeds new printed × Saves before after file succeeds new
AddsAnswer limit before after file certificate (Err fault) succeeds printed =
    (succeeds ≡ false) × (after ≡ before) × IsFaultLine fault printed

-- the whole addition: from the files before to those after, and what is printed
abbrev pub Adds : Bool → ℕ → Option (List ℕ → Option (List ℕ)) → Option (List ℕ → Option (List ℕ))
    → List ℕ → List ℕ → Bool → List ℕ → Type 0
Adds fresh limit before after file certificate succeeds printed =
    (answer : Result (List Certificate) LoadFault) × Begins fresh limit before file answer
    × AddsAnswer limit before after file certificate answer succeeds printed

-- The file holds the text of the entries kept, and the faults and how many are kept are printed; or
-- no file changes, and the line of the fault is printed.
abbrev pub SalvagesAnswer : Option (List ℕ → Option (List ℕ)) → Option (List ℕ → Option (List ℕ))
    → List ℕ → Result (List Certificate × Vec LoadFault Global) LoadFault
    → Bool → List ℕ → Type 0
SalvagesAnswer before after file (Ok kept) succeeds printed =
    (succeeds ≡ true) × Replaces before after file (catalogue_text kept.0)
    × (printed ≡ salvage_lines kept.0 (kept.1).items)
SalvagesAnswer before after file (Err fault) succeeds printed = (succeeds ≡ false) × (after ≡ before)
    × IsFaultLine fault printed

-- the whole salvage: from the files before to those after, and what is printed
abbrev pub Salvages : ℕ → Option (List ℕ → Option (List ℕ)) → Option (List ℕ → Option (List ℕ))
    → List ℕ → Bool → List ℕ → Type 0
Salvages limit before after file succeeds printed =
    (bytes : List ℕ) × (answer : Result (List Certificate × Vec LoadFault Global) LoadFault)
    × Holds before file bytes
    × IsSalvaged bytes limit answer × SalvagesAnswer before after file answer succeeds printed

-- The file holds the text of the entries that were loaded, each of them and in their order, and how
-- many they are is printed; or no file changes, and the line of the fault is printed.
abbrev pub MigratesAnswer : Option (List ℕ → Option (List ℕ)) → Option (List ℕ → Option (List ℕ))
    → List ℕ → Result (List Certificate) LoadFault → Bool → List ℕ → Type 0
MigratesAnswer before after file (Ok cs) succeeds printed =
    (succeeds ≡ true) × Replaces before after file (catalogue_text cs) × (printed ≡ migrated_line cs)
MigratesAnswer before after file (Err fault) succeeds printed = (succeeds ≡ false) × (after ≡ before)
    × IsFaultLine fault printed

-- the whole migration: from the files before to those after, and what is printed
abbrev pub Migrates : ℕ → Option (List ℕ → Option (List ℕ)) → Option (List ℕ → Option (List ℕ))
    → List ℕ → Bool → List ℕ → Type 0
Migrates limit before after file succeeds printed =
    (bytes : List ℕ) × (answer : Result (List Certificate) LoadFault) × Holds before file bytes
    × IsLoaded bytes limit answer × MigratesAnswer before after file answer succeeds printed

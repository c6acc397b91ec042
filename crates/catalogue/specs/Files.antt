-- What a catalogue file is, over the JSON value that `serde_json` reads of it. This project's own.
use Rattle.std.specs.Prelude.{◌≡◌, ◌⊎◌, ℕ, ◌≤◌, ◌==◌, Bool, List, [], ◌∷◌, Option, Some, None, is_some, codes, option_and_then, IsUtf8}
use Rattle.std.specs.List.{AllByRecursion}
use Rattle.serde_json.specs.Data.{Data, Items, number, string, array, object, item, no_items, null, boolean}
use Rattle.serde_json.specs.Find.{get, as_str, as_array, as_number, as_u64}
use Rattle.serde_json.specs.Events.{members_len}
use Rattle.serde_json.specs.Read.{read}
use Rattle.misere_theory.specs.declared.TheConstants.{LARGEST_PART}
use Rattle.catalogue.specs.declared.file.Texts.{Texts}

-- the bytes are JSON, and d is its value
abbrev pub IsJson : List ℕ → Data → Type 0
IsJson bytes d = IsUtf8 bytes × (read bytes ≡ Some d)

-- an entry as it is written: the text of a code, the text of a certificate, and the heaps where
-- they are named
pub record Written : Type 0 where
  pub code : List ℕ
  pub certificate : List ℕ
  pub heaps : Option ℕ

abbrev pub written : Texts → Written
written t = record { code = t.code.now; certificate = t.certificate.now; heaps = t.heaps }

-- where no heaps are named, they are 0
abbrev pub named_or_0 : Option ℕ → ℕ
named_or_0 None = 0
named_or_0 (Some n) = n

-- the heaps of which an entry's certificate is to speak
abbrev pub heaps_named : Written → ℕ
heaps_named e = named_or_0 e.heaps

-- how many members an object has
abbrev pub member_count : Data → ℕ
member_count null = 0
member_count (boolean b) = 0
member_count (number n) = 0
member_count (string s) = 0
member_count (array ds) = 0
member_count (object ms) = members_len ms

-- the whole number that a member names, if the object has it
abbrev pub whole_at : List ℕ → Data → Option ℕ
whole_at k d = option_and_then as_u64 (option_and_then as_number (get k d))

-- beside two others the object has no member, or the member `heaps` alone, a whole number to
-- LARGEST_PART
abbrev pub NamesHeaps : Data → Option ℕ → Type 0
NamesHeaps d None = member_count d ≡ 2
NamesHeaps d (Some n) = (member_count d ≡ 3) × (whole_at (codes "heaps") d ≡ Some n) × (n ≤ LARGEST_PART)

-- an object with exactly the members `code` and `certificate`, both texts, and maybe `heaps`
pub record IsEntry (d : Data) (e : Written) : Type 0 where
  pub heaps : NamesHeaps d e.heaps
  pub code : option_and_then as_str (get (codes "code") d) ≡ Some e.code
  pub certificate : option_and_then as_str (get (codes "certificate") d) ≡ Some e.certificate

-- the items are these entries, in order
abbrev pub AreEntries : Items → List Written → Type 0
AreEntries no_items [] = Unit {0}
AreEntries no_items (e ∷ es) = ⊥
AreEntries (item d ds) [] = ⊥
AreEntries (item d ds) (e ∷ es) = IsEntry d e × AreEntries ds es

-- an object with exactly the members `version`, this number, and `entries`, an array of these items
pub record IsFrame (d : Data) (n : ℕ) (items : Items) : Type 0 where
  pub count : member_count d ≡ 2
  pub version : whole_at (codes "version") d ≡ Some n
  pub entries : option_and_then as_array (get (codes "entries") d) ≡ Some items

-- all entries name heaps, or none does
abbrev pub AllName : Bool → List Written → Type 0
AllName b es = AllByRecursion (λ e. is_some e.heaps ≡ b) es

-- such an object of version 1 or 2 with exactly these entries, in order: in version 1 no entry
-- names heaps, in version 2 each does
pub record IsFile (d : Data) (es : List Written) : Type 0 where
  pub items : Items
  pub version : ℕ
  pub known : (version ≡ 1) ⊎ (version ≡ 2)
  pub frame : IsFrame d version items
  pub entries : AreEntries items es
  pub name : AllName (version == 2) es

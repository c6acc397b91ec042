-- What tokens of JSON begin with, as `serde_json` reads it. This project's own.
use Rattle.std.specs.Prelude.{◌≡◌, ◌≢◌, ℕ, ◌+◌, ◌≤◌, ◌<◌, List, [], ◌∷◌, length, map, codes, All, Bool, is_some, Option, Some, None, option_map, option_and_then, Vec}
use Rattle.std.specs.Bool.{MatchBool}
use Rattle.std.specs.List.{AllByRecursion}
use Rattle.std.specs.declared.cmp.Ordering.TheVariants.{Less}
use Rattle.std.specs.Ordering.{nat_cmp}
use Rattle.std.specs.Cmp.Lexicographic.{slice_cmp}
use Rattle.serde_json.specs.Events.{members_len}
use Rattle.std.specs.declared.alloc.Global.{Global}
use Rattle.json.specs.Token.{Token}
use Rattle.json.specs.Json.{value, items, members}
use Rattle.serde_json.specs.Data.{Data, Items, Members, no_members, member, put}
use Rattle.serde_json.specs.Find.{get_member, as_str, as_array, as_number, as_u64}
use Rattle.serde_json.specs.Read.{of_json, of_items, of_members, converted}
use Rattle.catalogue.specs.Files.{Written, written, IsEntry, AreEntries, IsFile}
use Rattle.catalogue.specs.declared.file.Texts.{Texts}
use Rattle.catalogue.specs.declared.fields.Fields.{Fields}
use Rattle.catalogue.specs.declared.frame.Frame.{Frame}
use Rattle.catalogue.specs.declared.fault.LoadFault.{LoadFault}
use Rattle.catalogue.specs.declared.fault.LoadFault.TheVariants.{Json, Shape, Entry, Code, Twice, Heaps, Memory}

-- a value and the tokens behind it, or none
abbrev pub ReadsValue : ℕ → List Token → Option (Data × List Token) → Type 0
ReadsValue depth ts o = converted of_json (value depth ts) ≡ o

-- items up to the bracket that closes them
abbrev pub ReadsItems : ℕ → List Token → Option (Items × List Token) → Type 0
ReadsItems depth ts o = (n : ℕ) → length ts ≤ n → converted of_items (items (value depth) n ts) ≡ o

-- members up to the brace that closes them, put to those that were found before
abbrev pub ReadsMembers : ℕ → Members → List Token → Option (Members × List Token) → Type 0
ReadsMembers depth found ts o = (n : ℕ) → length ts ≤ n
    → converted (λ ms. of_members ms found) (members (value depth) n ts) ≡ o

-- the new tokens are those behind a value of which this is so
abbrev pub Passes : ℕ → List Token → (Data → Type 0) → List Token → Type 0
Passes depth old P new = (d : Data) × ReadsValue depth old (Some (d, new)) × P d

-- what was to be read isn't there, or memory was wanting
abbrev pub IsUnread : Type 0 → LoadFault → Type 0
IsUnread P Json = P
IsUnread P Shape = ⊥
IsUnread P (Entry i refusal) = ⊥
IsUnread P (Code i) = ⊥
IsUnread P (Twice i) = ⊥
IsUnread P (Heaps i) = ⊥
IsUnread P Memory = Unit {0}

-- ---- objects of some names

abbrev pub one_if : Option Data → ℕ
one_if None = 0
one_if (Some d) = 1

-- how many of the names have a value
abbrev pub counted : List (List ℕ) → Members → ℕ
counted [] found = 0
counted (k ∷ ks) found = one_if (get_member k found) + counted ks found

-- the name is below each of these
abbrev pub IsBelow : List ℕ → Members → Type 0
IsBelow k no_members = Unit {0}
IsBelow k (member l d ms) = (slice_cmp nat_cmp k l ≡ Less) × IsBelow k ms

-- the names rise, each there once
abbrev pub AreSorted : Members → Type 0
AreSorted no_members = Unit {0}
AreSorted (member k d ms) = IsBelow k ms × AreSorted ms

-- the name is none of these
abbrev pub IsOutside : List ℕ → List (List ℕ) → Type 0
IsOutside k names = AllByRecursion (λ n. k ≢ n) names

-- there are members of these names alone
abbrev pub AreOnly : List (List ℕ) → Members → Type 0
AreOnly names found = (members_len found ≡ counted names found)
    × ((k : List ℕ) → IsOutside k names → get_member k found ≡ None)

-- whether there are members of other names than these
pub record AreOf (names : List (List ℕ)) (found : Members) (others : Bool) : Type 0 where
  pub sorted : AreSorted found
  pub rest : MatchBool others (counted names found < members_len found) (AreOnly names found)

-- a value was read, and put at the key it makes P into Q
abbrev pub Puts : ℕ → List ℕ → List Token → List Token → (Members → Type 0) → (Members → Type 0)
    → Type 0
Puts depth key old new P Q = (d : Data) × ReadsValue depth old (Some (d, new))
    × ((found : Members) → P found → Q (put key d found))

-- ---- entries

-- the value is this entry, or none
abbrev pub EntryIs : Option Texts → Data → Type 0
EntryIs None d = (e : Written) → IsEntry d e → ⊥
EntryIs (Some t) d = IsEntry d (written t)

abbrev pub entry_names : List (List ℕ)
entry_names = codes "certificate" ∷ codes "code" ∷ codes "heaps" ∷ []

abbrev pub text_at : List ℕ → Members → Option (List ℕ)
text_at k found = option_and_then as_str (get_member k found)

abbrev pub whole_of : Data → Option ℕ
whole_of d = option_and_then as_u64 (as_number d)

-- what was found of an entry's members
pub record AreFields (f : Fields) (found : Members) : Type 0 where
  pub names : AreOf entry_names found f.others
  pub certificate : option_map (λ s. s.now) f.certificate ≡ text_at (codes "certificate") found
  pub code : option_map (λ s. s.now) f.code ≡ text_at (codes "code") found
  pub heaps : f.heaps ≡ option_map whole_of (get_member (codes "heaps") found)

-- ---- files

-- the value is an array of these entries, or of no entries
abbrev pub EntriesAre : Option (Vec Texts Global) → Option Data → Type 0
EntriesAre None x = (ds : Items) → (es : List Written) → option_and_then as_array x ≡ Some ds
    → AreEntries ds es → ⊥
EntriesAre (Some v) x = (ds : Items) × (option_and_then as_array x ≡ Some ds)
    × AreEntries ds (map written v.items)

-- each entry names heaps, or none does, as b says
abbrev pub Name : Bool → List Texts → Type 0
Name b ts = All (λ t. is_some t.heaps ≡ b) ts

-- the value is a file of these entries, or none
abbrev pub FileIs : Option (Vec Texts Global) → Data → Type 0
FileIs None d = (es : List Written) → IsFile d es → ⊥
FileIs (Some v) d = IsFile d (map written v.items)

abbrev pub file_names : List (List ℕ)
file_names = codes "entries" ∷ codes "version" ∷ []

-- what was found of a file's members
pub record AreParts (f : Frame) (found : Members) : Type 0 where
  pub names : AreOf file_names found f.others
  pub entries : EntriesAre f.entries (get_member (codes "entries") found)
  pub version : f.version ≡ option_and_then whole_of (get_member (codes "version") found)

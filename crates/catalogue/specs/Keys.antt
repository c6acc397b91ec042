-- Codes and kinds as keys of a map, and the entries under their keys.
use Rattle.std.specs.Prelude.{◌≡◌, ℕ, ◌<◌, List, All, length, slice_index}
use Rattle.std.specs.List.{AllByRecursion}
use Rattle.std.specs.Map.{values_of}
use Rattle.misere_theory.specs.Games.{digit, IsCode}
use Rattle.misere_theory.specs.Certificates.{Certificate, Accepted, kind_of}
use Rattle.catalogue.specs.Entries.{HaveOtherKinds}

-- the digits of the code, with zeros behind them up to 17, and then the kind
pub record IsCodeAndKind (key code : List ℕ) (kind : ℕ) : Type 0 where
  pub places : length key ≡ 18
  pub heaps : slice_index key 17 ≡ kind
  pub digits : (j : ℕ) → j < 17 → slice_index key j ≡ digit code j

-- an entry stands under the key of its code and kind
abbrev pub IsKeyed : List ℕ × Certificate → Type 0
IsKeyed e = IsCodeAndKind e.0 e.1.code (kind_of e.1) × IsCode e.1.code

-- each entry is accepted and stands under its key, and no two have one code and kind
pub record AreKeyed (es : List (List ℕ × Certificate)) : Type 0 where
  pub keyed : AllByRecursion IsKeyed es
  pub accepted : All Accepted (values_of es)
  pub other_kinds : HaveOtherKinds (values_of es)

-- Arguments of a search without a code.
use Rattle.std.proofs.Common.{◌≡◌, ◌<◌, ◌∙◌, ◌||◌, ◌∷◌, [], ap, sym, refl, arith, true, false, not, length, map, Bor, ℕ, List}
use Rattle.std.proofs.Common.{Option, Some, None, is_some, codes, option_map, option_and_then, find, unwrap_or}
use Rattle.std.specs.Prelude.{slice_get}
use Rattle.std.specs.Str.{bytes_eq}
use Rattle.clap.specs.Words.{Row, Text, all_of}
use Rattle.command_line.specs.Requests.{bounds_in, is_given, search_request, solve_with}

first_none : (o : Option Row) → None ≡ option_map (λ (r : Row). r.values) o
    → option_and_then (λ (r : Row). slice_get r.values 0) o ≡ None
first_none None e = refl
first_none (Some r) e = cc

first_empty : (o : Option Row) (values : List Text) → values ≡ []
    → Some values ≡ option_map (λ (r : Row). r.values) o
    → option_and_then (λ (r : Row). slice_get r.values 0) o ≡ None
first_empty None values e h = cc
first_empty (Some r) values e h =
    let same : r.values ≡ [] = cc in ap (λ (v : List Text). slice_get v 0) same

-- no code is given
pub none_given : (rows : List Row) → None ≡ all_of (codes "code") rows
    → (search_request rows ≡ None) × ((not (is_given (codes "code") rows) || false) ≡ true)
none_given rows e = (
  ap (λ (a : Option (List Text)). solve_with (unwrap_or a []) (bounds_in rows)) (sym e),
  ap (λ (t : Option Text). not (is_some t) || false)
      (first_none (find (λ (r : Row). bytes_eq r.id (codes "code")) rows) e),
)

nothing_in : (l : List (Bor (List ℕ))) → length l < 1
    → map (λ (c : Bor (List ℕ)). c.now) l ≡ []
nothing_in [] h = refl
nothing_in (x ∷ l) h = absurd (omega arith)

-- an empty list of codes is given
pub empty_given : (rows : List Row) (l : List (Bor (List ℕ))) → length l < 1
    → Some (map (λ (c : Bor (List ℕ)). c.now) l) ≡ all_of (codes "code") rows
    → (search_request rows ≡ None) × ((not (is_given (codes "code") rows) || false) ≡ true)
empty_given rows l few e =
    let none = nothing_in l few in (
      ap (λ (a : Option (List Text)). solve_with (unwrap_or a []) (bounds_in rows)) (sym e)
          ∙ ap (λ (v : List Text). solve_with v (bounds_in rows)) none,
      ap (λ (t : Option Text). not (is_some t) || false)
          (first_empty (find (λ (r : Row). bytes_eq r.id (codes "code")) rows) _ none e),
    )

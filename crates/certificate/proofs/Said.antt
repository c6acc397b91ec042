-- Some rows of a table.
use Rattle.std.proofs.Common.{◌≡◌, ◌≤◌, ◌<◌, ◌+◌, ◌-◌, ℕ, List, [], length, drop, get_or, ap, ◌∙◌, arith}
use Rattle.std.specs.Prelude.{slice_range}
use Rattle.std.proofs.lemmas.List.{length-take-le, length-drop, get_or-take, get_or-drop}

module _ (rows said : List (List ℕ)) (start end : ℕ) (part : said ≡ slice_range rows start end)
    (rising : start ≤ end) (within : end ≤ length rows) where
  pub part_long : length said ≡ end - start
  part_long =
      let d = length-drop start rows in
      ap length part ∙ length-take-le (end - start) (drop start rows) (omega arith)

  pub part_at : (x : ℕ) → start ≤ x → x < end → get_or said (x - start) [] ≡ get_or rows x []
  part_at x low high =
      let place : start + (x - start) ≡ x = omega arith in
      ap (λ (some : List (List ℕ)). get_or some (x - start) []) part
      ∙ get_or-take (end - start) (drop start rows) (x - start) [] (omega arith)
      ∙ get_or-drop start rows (x - start) []
      ∙ ap (λ (k : ℕ). get_or rows k []) place

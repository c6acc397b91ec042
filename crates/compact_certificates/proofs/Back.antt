-- What is left out of a certificate comes back, and what is made follows.
use Rattle.std.proofs.Common.{◌≡◌, ℕ, zero, suc, ◌+◌, ◌-◌, ◌<◌, ◌≤◌, List, [], ◌∷◌, ◌++◌, refl, ◌∙◌, sym, ap, ap₂, arith, map, length, take, drop, get_or, add-one}
use Rattle.std.specs.Prelude.{slice_index}
use Rattle.std.specs.List.{range_with_len}
use Rattle.std.proofs.lemmas.Grind.{same_number_lists}
use Rattle.std.proofs.lemmas.List.{get_or-take, get_or-map, length-map, length-drop, length-take-le, take_all, take_more, drop_all, drop_more}
use Rattle.std.proofs.lemmas.List.Elements.{All-get_or, All-take, All-drop}
use Rattle.std.proofs.lemmas.List.FromFn.{get_or-range_with_len, length-range_with_len}
use Rattle.misere_theory.specs.Certificates.{Certificate, phi_at, times_of, key_of}
use Rattle.compact_certificates.specs.Separators.{with_separators}
use Rattle.compact_certificates.specs.Rows.{firsts_of, row_by, rows_by}
use Rattle.compact_certificates.specs.Compact.{HasTable, Follows, IsCompact, compacted, expanded}
use Rattle.compact_certificates.proofs.Firsts.{firsts_within}
use Rattle.compact_certificates.proofs.Phi.{phi_first}
use Rattle.compact_certificates.proofs.Made.{IsRow}

head_again : (m : ℕ) (rows : List (List ℕ)) (row : List ℕ) → 0 < length rows
    → row ≡ get_or rows 0 []
    → row ∷ take m (drop 1 rows) ≡ take (m + 1) rows
head_again m [] row some e = absurd (omega arith)
head_again m (r ∷ rs) row some e = rw (e, add-one m) refl

-- another's rows in the place of the certificate's, and the separators that follow
abbrev with_rows : Certificate → List (List ℕ) → Certificate
with_rows c rows = with_separators (record c { rows = rows; apart = [] })

module _ (c : Certificate) (t : HasTable c) (f : Follows c) where
  row_length : (e : ℕ) → e < c.order → length (get_or c.rows e []) ≡ c.order
  row_length e l =
      (All-get_or (IsRow c.order) c.rows e [] (let n = t.rows.0 in omega arith) t.rows.1).0

  -- each row behind the first ones is made of those before it
  row_again : (j : ℕ) → firsts_of c.words ≤ j → j + 1 < c.order
      → row_by (phi_at c) (take (j + 1) c.rows) (get_or c.words j (0, 0))
      ≡ get_or c.rows (j + 1) []
  row_again j low high =
      let k = get_or c.words j (0, 0) in
      let place : j + 1 - 1 ≡ j = omega arith in
      let is_key : key_of c (j + 1) ≡ k = ap (λ i. get_or c.words i (0, 0)) place in
      let before = rw is_key at (f.expandable.falls (j + 1) (omega arith) high) in
      let heap : phi_at c k.1 ≤ firsts_of c.words = phi_first c f.expandable.heaps k.1 in
      let at_element : get_or (take (j + 1) c.rows) k.0 [] ≡ get_or c.rows k.0 [] =
      get_or-take (j + 1) c.rows k.0 [] before in
      let at_heap : get_or (take (j + 1) c.rows) (phi_at c k.1) [] ≡ get_or c.rows (phi_at c k.1) [] =
      get_or-take (j + 1) c.rows (phi_at c k.1) [] (omega arith) in
      let of_heap : length (get_or c.rows (phi_at c k.1) []) ≡ c.order =
      row_length (phi_at c k.1) (omega arith) in
      let of_made : length (get_or c.rows (j + 1) []) ≡ c.order = row_length (j + 1) high in
      let made = map (slice_index (get_or c.rows k.0 [])) (get_or c.rows (phi_at c k.1) []) in
      let long : length made ≡ c.order =
      length-map (get_or c.rows (phi_at c k.1) []) (slice_index (get_or c.rows k.0 [])) ∙ of_heap in
      ap₂ (λ (r : List ℕ) (s : List ℕ). map (slice_index r) s) at_element at_heap
      ∙ same_number_lists made (get_or c.rows (j + 1) []) (long ∙ sym of_made) (λ y l.
      get_or-map (slice_index (get_or c.rows k.0 [])) (get_or c.rows (phi_at c k.1) []) y 0 0
      (omega arith)
      ∙ ap (λ (v : ℕ × ℕ). times_of c v.0 (times_of c (phi_at c v.1) y)) (sym is_key)
      ∙ sym (f.product (j + 1) y (omega arith) high (omega arith)))

  -- the rows from the j-th on come back
  rows_again : (n j : ℕ) → j + n ≡ length c.words → firsts_of c.words ≤ j
      → rows_by (phi_at c) (drop j c.words) (take (j + 1) c.rows) ≡ c.rows
  rows_again zero j e low =
      let count = t.words in
      let rows = t.rows.0 in
      ap (λ ks. rows_by (phi_at c) ks (take (j + 1) c.rows)) (drop_all j c.words (omega arith))
      ∙ take_all (j + 1) c.rows (omega arith)
  rows_again (suc n) j e low =
      let count = t.words in
      let rows = t.rows.0 in
      let longer : take (j + 1) c.rows
      ++ row_by (phi_at c) (take (j + 1) c.rows) (get_or c.words j (0, 0)) ∷ []
      ≡ take (j + 1 + 1) c.rows =
      ap (λ (r : List ℕ). take (j + 1) c.rows ++ r ∷ []) (row_again j low (omega arith))
      ∙ sym (take_more c.rows (j + 1) [] (omega arith)) in
      ap (λ ks. rows_by (phi_at c) ks (take (j + 1) c.rows))
      (drop_more c.words j (0, 0) (omega arith))
      ∙ ap (λ (rs : List (List ℕ)). rows_by (phi_at c) (drop (j + 1) c.words) rs) longer
      ∙ rows_again n (j + 1) (omega arith) (omega arith)

  first_row : range_with_len 0 c.order ≡ get_or c.rows 0 []
  first_row =
      let count = t.words in
      let long = length-range_with_len 0 c.order in
      same_number_lists (range_with_len 0 c.order) (get_or c.rows 0 [])
      (long ∙ sym (row_length 0 (omega arith))) (λ y l.
      let here : 0 + y ≡ y = omega arith in
      get_or-range_with_len 0 c.order y 0 (omega arith) ∙ here ∙ sym (f.identity y (omega arith)))

  all_rows : rows_by (phi_at c) (drop (firsts_of c.words) c.words)
      (range_with_len 0 c.order ∷ take (firsts_of c.words) (drop 1 c.rows))
      ≡ c.rows
  all_rows =
      let count = t.words in
      let rows = t.rows.0 in
      let within = firsts_within c.words in
      ap (λ (rs : List (List ℕ)). rows_by (phi_at c) (drop (firsts_of c.words) c.words) rs)
      (head_again (firsts_of c.words) c.rows (range_with_len 0 c.order) (omega arith) first_row)
      ∙ rows_again (length c.words - firsts_of c.words) (firsts_of c.words) (omega arith)
      (omega arith)

  pub comes_back : expanded (compacted c) ≡ c
  comes_back =
      ap (with_rows c) all_rows ∙ ap (λ (xs : List ℕ). record c { apart = xs }) (sym f.apart)

  pub left_compact : IsCompact (compacted c)
  left_compact =
      let count = t.words in
      let rows = t.rows.0 in
      let within = firsts_within c.words in
      let behind = length-drop 1 c.rows in
      record {
        words = t.words;
        expandable = record { heaps = f.expandable.heaps; falls = f.expandable.falls };
        rows = (
          length-take-le (firsts_of c.words) (drop 1 c.rows) (omega arith),
          All-take (IsRow c.order) (firsts_of c.words) (drop 1 c.rows)
              (All-drop (IsRow c.order) 1 c.rows t.rows.1),
        );
        apart = refl;
      }

-- what stands in two certificates of which all follows makes them one
pub all_told : (c d : Certificate) → HasTable c → HasTable d → Follows c → Follows d
    → compacted c ≡ compacted d → c ≡ d
all_told c d t u f g e = sym (comes_back c t f) ∙ ap expanded e ∙ comes_back d u g

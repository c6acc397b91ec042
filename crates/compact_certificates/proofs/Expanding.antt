-- What is made of a compact certificate.
use Rattle.std.proofs.Common.{◌≡◌, ℕ, zero, suc, ◌+◌, ◌-◌, ◌<◌, ◌≤◌, List, [], ◌∷◌, refl, ◌∙◌, sym, ap, arith, length, take, drop, get_or, All}
use Rattle.std.specs.Prelude.{slice_index}
use Rattle.std.specs.List.{range_with_len}
use Rattle.std.proofs.lemmas.List.{get_or-map, length-map, length-drop, take_at}
use Rattle.std.proofs.lemmas.List.Elements.{All-get_or, All-map}
use Rattle.std.proofs.lemmas.List.FromFn.{get_or-range_with_len, length-range_with_len}
use Rattle.misere_theory.specs.Certificates.{Certificate, claim_of, phi_at, times_of, key_of, pairs_from}
use Rattle.compact_certificates.specs.Separators.{separator_of}
use Rattle.compact_certificates.specs.Rows.{firsts_of, row_by, rows_by}
use Rattle.compact_certificates.specs.Compact.{HasTable, Follows, IsCompact, compacted, expanded}
use Rattle.compact_certificates.proofs.Firsts.{firsts_within, key_behind}
use Rattle.compact_certificates.proofs.Least.{separator_in}
use Rattle.compact_certificates.proofs.Phi.{phi_first}
use Rattle.compact_certificates.proofs.Made.{IsRow, Precede, made_behind, made_count, made_at, made_fit, kept}

module _ (c : Certificate) (h : IsCompact c) where
  abbrev keys : List (ℕ × ℕ)
  keys = drop (firsts_of c.words) c.words

  abbrev known : List (List ℕ)
  known = range_with_len 0 c.order ∷ c.rows

  abbrev made : List (List ℕ)
  made = rows_by (phi_at c) keys known

  known_count : length known ≡ firsts_of c.words + 1
  known_count = let n = h.rows.0 in omega arith

  keys_count : length keys ≡ c.order - (firsts_of c.words + 1)
  keys_count = let n = length-drop (firsts_of c.words) c.words in let w = h.words in omega arith

  order_above : firsts_of c.words < c.order
  order_above = let n = firsts_within c.words in let w = h.words in omega arith

  range_fits : IsRow c.order (range_with_len 0 c.order)
  range_fits = (
    length-range_with_len 0 c.order,
    λ k d l.
        let n = length-range_with_len 0 c.order in
        let e = get_or-range_with_len 0 c.order k d (omega arith) in
        omega arith,
  )

  known_fit : All (IsRow c.order) known
  known_fit zero d l = range_fits
  known_fit (suc k) d l = h.rows.1 k d (omega arith)

  precede : Precede (phi_at c) keys (length known)
  precede i l =
      let e = firsts_of c.words + 1 + i in
      let n = known_count in
      let m = keys_count in
      let falls = rw (← key_behind c i e refl) at (h.expandable.falls e (omega arith) (omega arith)) in
      let heap = phi_first c h.expandable.heaps (get_or keys i (0, 0)).1 in
      (omega arith, omega arith)

  pub made_table : HasTable (expanded c)
  made_table = record {
    words = h.words;
    rows = (
      let e = made_count (phi_at c) keys known in
          let n = known_count in
          let m = keys_count in
          let o = order_above in
          omega arith,
      made_fit (phi_at c) c.order keys known known_fit precede,
    );
  }

  pub made_apart : (length (expanded c).apart ≡ length (pairs_from 0 c.order))
      × All (λ x. x < c.order) (expanded c).apart
  made_apart = (
    length-map (pairs_from 0 c.order) (separator_of (claim_of (expanded c))),
    All-map (λ x. x < c.order) (separator_of (claim_of (expanded c))) (pairs_from 0 c.order)
        (λ k d l. separator_in (claim_of (expanded c)) (get_or (pairs_from 0 c.order) k d)
        (let o = order_above in omega arith)),
  )

  -- the first rows stand as they did
  known_at : (e : ℕ) → e ≤ firsts_of c.words → get_or made e [] ≡ get_or known e []
  known_at e l = kept (phi_at c) keys known e (let n = known_count in omega arith)

  made_row : (e : ℕ) → firsts_of c.words < e → e < c.order
      → get_or made e [] ≡ row_by (phi_at c) made (key_of c e)
  made_row e low high =
      let n = known_count in
      let m = keys_count in
      let i = e - (firsts_of c.words + 1) in
      let place : length known + i ≡ e = omega arith in
      let number : firsts_of c.words + 1 + i ≡ e = omega arith in
      ap (λ j. get_or made j []) (sym place)
      ∙ made_at (phi_at c) keys known precede i (omega arith)
      ∙ ap (λ (k : ℕ × ℕ). row_by (phi_at c) made k) (key_behind c i e number)

  made_product : (e y : ℕ) → firsts_of c.words < e → e < c.order → y < c.order
      → times_of (expanded c) e y
      ≡ times_of (expanded c) (key_of c e).0
      (times_of (expanded c) (phi_at c (key_of c e).1) y)
  made_product e y low high l =
      let heap = phi_first c h.expandable.heaps (key_of c e).1 in
      let long : length (get_or made (phi_at c (key_of c e).1) []) ≡ c.order =
      (All-get_or (IsRow c.order) made (phi_at c (key_of c e).1) []
      (let n = made_table.rows.0 in omega arith) made_table.rows.1).0 in
      ap (λ (row : List ℕ). get_or row y 0) (made_row e low high)
      ∙ get_or-map (slice_index (get_or made (key_of c e).0 []))
      (get_or made (phi_at c (key_of c e).1) []) y 0 0 (omega arith)

  pub made_follows : Follows (expanded c)
  made_follows = record {
    expandable = record { heaps = h.expandable.heaps; falls = h.expandable.falls };
    identity =
        λ y l.
        let here : 0 + y ≡ y = omega arith in
        ap (λ (row : List ℕ). get_or row y 0) (known_at 0 (omega arith))
        ∙ get_or-range_with_len 0 c.order y 0 l ∙ here;
    product = made_product;
    apart = refl;
  }

  first_rows : take (firsts_of c.words) (drop 1 made) ≡ c.rows
  first_rows =
      let (more, e, n) = made_behind (phi_at c) keys known in
      ap (λ (rs : List (List ℕ)). take (firsts_of c.words) (drop 1 rs)) e
      ∙ take_at c.rows more (firsts_of c.words) h.rows.0

  pub left_again : compacted (expanded c) ≡ c
  left_again =
      ap (λ (rs : List (List ℕ)). record c { rows = rs; apart = [] }) first_rows
      ∙ ap (λ (xs : List ℕ). record c { apart = xs }) (sym h.apart)

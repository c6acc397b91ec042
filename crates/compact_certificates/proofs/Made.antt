-- The rows that are made of the first ones.
use Rattle.std.proofs.Common.{◌≡◌, ℕ, zero, suc, ◌+◌, ◌<◌, List, [], ◌∷◌, ◌++◌, refl, ◌∙◌, sym, ap, ap₂, arith, map, length, get_or, length-append, append_assoc, All}
use Rattle.std.specs.Prelude.{slice_index}
use Rattle.std.proofs.Math.ListN.{get_or-append}
use Rattle.std.proofs.Math.Seq.{get_or-append_seam}
use Rattle.std.proofs.lemmas.List.{append-nil, length-map}
use Rattle.std.proofs.lemmas.List.Elements.{All-get_or, All-push, All-map, All-weaker}
use Rattle.compact_certificates.specs.Rows.{row_by, rows_by}

-- a row of as many elements below q
abbrev pub IsRow : ℕ → List ℕ → Type 0
IsRow q row = (length row ≡ q) × All (λ x. x < q) row

module _ (phi : ℕ → ℕ) where
  -- the rows that were there stay in front
  pub made_behind : (ks : List (ℕ × ℕ)) (rows : List (List ℕ))
      → (more : List (List ℕ)) × (rows_by phi ks rows ≡ rows ++ more) × (length more ≡ length ks)
  made_behind [] rows = ([], sym (append-nil rows), refl)
  made_behind (k ∷ ks) rows =
      let (more, e, n) = made_behind ks (rows ++ row_by phi rows k ∷ []) in (
        row_by phi rows k ∷ more,
        e ∙ append_assoc rows (row_by phi rows k ∷ []) more,
        ap suc n,
      )

  pub made_count : (ks : List (ℕ × ℕ)) (rows : List (List ℕ))
      → length (rows_by phi ks rows) ≡ length rows + length ks
  made_count ks rows =
      let (more, e, n) = made_behind ks rows in
      ap length e ∙ length-append rows more ∙ ap (λ v. length rows + v) n

  pub kept : (ks : List (ℕ × ℕ)) (rows : List (List ℕ)) (i : ℕ) → i < length rows
      → get_or (rows_by phi ks rows) i [] ≡ get_or rows i []
  kept ks rows i l =
      let (more, e, n) = made_behind ks rows in
      ap (λ (r : List (List ℕ)). get_or r i []) e ∙ get_or-append rows more [] i l

  -- each key's element and its heap's stand before the row that is made
  abbrev pub Precede : List (ℕ × ℕ) → ℕ → Type 0
  Precede ks n =
      (i : ℕ) → i < length ks
      → ((get_or ks i (0, 0)).0 < n + i) × (phi (get_or ks i (0, 0)).1 < n + i)

  precede_behind : (k : ℕ × ℕ) (ks : List (ℕ × ℕ)) (n : ℕ) → Precede (k ∷ ks) n
      → Precede ks (n + 1)
  precede_behind k ks n h i l = let b = h (suc i) (omega arith) in
      (let a = b.0 in omega arith, let a = b.1 in omega arith)

  one_more : (rows : List (List ℕ)) (row : List ℕ) → length (rows ++ row ∷ []) ≡ length rows + 1
  one_more rows row = length-append rows (row ∷ [])

  -- a row that is made is its key's, read off the whole table
  pub made_at : (ks : List (ℕ × ℕ)) (rows : List (List ℕ)) → Precede ks (length rows) → (i : ℕ)
      → i < length ks
      → get_or (rows_by phi ks rows) (length rows + i) []
      ≡ row_by phi (rows_by phi ks rows) (get_or ks i (0, 0))
  made_at [] rows h i l = absurd (omega arith)
  made_at (k ∷ ks) rows h zero l =
      let row = row_by phi rows k in
      let n = one_more rows row in
      let b = h 0 (omega arith) in
      let low = b.0 in
      let high = b.1 in
      let here : length rows + 0 ≡ length rows = omega arith in
      ap (λ i. get_or (rows_by phi (k ∷ ks) rows) i []) here
      ∙ kept ks (rows ++ row ∷ []) (length rows) (omega arith)
      ∙ get_or-append_seam rows row [] []
      ∙ ap₂ (λ (f : List ℕ) (g : List ℕ). map (slice_index f) g)
      (sym (kept (k ∷ ks) rows k.0 (omega arith))) (sym (kept (k ∷ ks) rows (phi k.1) (omega arith)))
  made_at (k ∷ ks) rows h (suc i) l =
      let row = row_by phi rows k in
      let n = one_more rows row in
      let place : length rows + suc i ≡ length (rows ++ row ∷ []) + i = omega arith in
      ap (λ j. get_or (rows_by phi (k ∷ ks) rows) j []) place
      ∙ made_at ks (rows ++ row ∷ [])
      (rw n (precede_behind k ks (length rows) h)) i (omega arith)

  row_fits : (q : ℕ) (rows : List (List ℕ)) (k : ℕ × ℕ) → All (IsRow q) rows
      → k.0 < length rows → phi k.1 < length rows → IsRow q (row_by phi rows k)
  row_fits q rows k fits low high =
      let of_element : IsRow q (get_or rows k.0 []) = All-get_or (IsRow q) rows k.0 [] low fits in
      let of_heap : IsRow q (get_or rows (phi k.1) []) =
      All-get_or (IsRow q) rows (phi k.1) [] high fits in
      let n = of_element.0 in (
        length-map (get_or rows (phi k.1) []) (slice_index (get_or rows k.0 [])) ∙ of_heap.0,
        All-map (λ x. x < q) (slice_index (get_or rows k.0 [])) (get_or rows (phi k.1) [])
            (All-weaker (λ x. x < q) (λ x. slice_index (get_or rows k.0 []) x < q)
            (λ x l. All-get_or (λ y. y < q) (get_or rows k.0 []) x 0 (omega arith) of_element.1)
            (get_or rows (phi k.1) []) of_heap.1),
      )

  -- all rows that are made are rows
  pub made_fit : (q : ℕ) (ks : List (ℕ × ℕ)) (rows : List (List ℕ)) → All (IsRow q) rows
      → Precede ks (length rows) → All (IsRow q) (rows_by phi ks rows)
  made_fit q [] rows fits h = fits
  made_fit q (k ∷ ks) rows fits h =
      let row = row_by phi rows k in
      let b = h 0 (omega arith) in
      let low = b.0 in
      let high = b.1 in
      made_fit q ks (rows ++ row ∷ [])
      (All-push (IsRow q) rows row fits (row_fits q rows k fits (omega arith) (omega arith)))
      (rw (one_more rows row) (precede_behind k ks (length rows) h))

-- The rows that are made of the first ones, as they lie in memory.
use Rattle.std.proofs.Common.{◌≡◌, ℕ, suc, ◌+◌, ◌-◌, ◌*◌, ◌≤◌, ◌<◌, ◌==◌, Bool, false, List, [], ◌∷◌, ◌++◌, refl, length, take, drop, get_or, All, sym, ap, subst, ◌∙◌, arith}
use Rattle.std.specs.List.{AllByRecursion, concat, list_any, range_with_len}
use Rattle.std.proofs.Math.Nat.{suc-mul, mul-le-mul_right}
use Rattle.std.proofs.lemmas.List.{length-take-le, length-drop, get_or-take, get_or-drop, get_or_default}
use Rattle.std.proofs.lemmas.List.Elements.{recursion_from_All}
use Rattle.misere_theory.specs.Certificates.{Certificate, InRanges, claim_of, phi_at}
use Rattle.compact_certificates.specs.Flat.{product_in}
use Rattle.compact_certificates.specs.Lanes.{claim_in}
use Rattle.compact_certificates.specs.Separators.{separators_of}
use Rattle.compact_certificates.specs.Rows.{firsts_of, row_by, rows_by}
use Rattle.compact_certificates.specs.Compact.{IsExpandable, expanded}
use Rattle.compact_certificates.proofs.Firsts.{told_by_test, key_behind, firsts_within}
use Rattle.compact_certificates.proofs.FlatRows.{product_lies, one_key_more}
use Rattle.compact_certificates.proofs.Made.{Precede, kept, made_count, made_fit}
use Rattle.compact_certificates.proofs.Phi.{phi_first}
use Rattle.certificate_text.specs.Reading.{rows_of}
use Rattle.certificate_text.specs.Spelling.{IsWritable}
use Rattle.certificate.specs.Fields.{Fields, HasFirstRows, IsWhole, certificate_of, compact_of}
use Rattle.certificate.proofs.Rows.{IsRow, length_is, all_below, cut_again, rows_count}

-- the rows that stand at first
abbrev pub known_rows : Fields → List (List ℕ)
known_rows p = range_with_len 0 p.order ∷ (compact_of p).rows

-- the separators of a certificate's rows, as they lie, are its own
abbrev pub SameSeparators : Certificate → Type 0
SameSeparators c = (inside : List Bool)
    → ((x : ℕ) → get_or inside x false ≡ (claim_of c).portion x)
    → separators_of (claim_in c.order (concat c.rows) inside) ≡ separators_of (claim_of c)

-- the keys behind those of the first elements
abbrev pub further_keys : Fields → List (ℕ × ℕ)
further_keys p = drop (firsts_of p.words) p.words

-- the rows by so many of them
abbrev pub rows_made : Fields → ℕ → List (List ℕ)
rows_made p i = rows_by (phi_at (compact_of p)) (take i (further_keys p)) (known_rows p)

-- the element x and the value of a heap have their rows among those that lie, and the row of their
-- product is the next
pub record HasNextRow (p : Fields) (j x value : ℕ) (flat : List ℕ) : Type 0 where
  pub element : x * p.order + p.order ≤ length flat
  pub heap : value * p.order + p.order ≤ length flat
  pub below : All (λ z. z < p.order) flat
  pub joined : flat ++ product_in p.order flat x value
      ≡ concat (rows_made p (j + 1 - firsts_of p.words))

module _ (p : Fields) (h : HasFirstRows p) where
  ranges : InRanges (expanded (compact_of p))
  ranges = h.writable.in_ranges

  known_count : length (known_rows p) ≡ firsts_of p.words + 1
  known_count = let n = rows_count p.order (firsts_of p.words) p.rows in omega arith

  pub keys_count : length (further_keys p) + (firsts_of p.words + 1) ≡ p.order
  keys_count =
      let n = length-drop (firsts_of p.words) p.words in
      let w = ranges.words.0 in
      let f = firsts_within p.words in
      omega arith

  expandable : IsExpandable (compact_of p)
  expandable = told_by_test (compact_of p) ranges.words.0 h.expandable

  known_fit : All (IsRow p.order) (known_rows p)
  known_fit k d l =
      let all = rows_by (phi_at (compact_of p)) (further_keys p) (known_rows p) in
      let n = made_count (phi_at (compact_of p)) (further_keys p) (known_rows p) in
      subst (IsRow p.order)
      (kept (phi_at (compact_of p)) (further_keys p) (known_rows p) k l
      ∙ get_or_default (known_rows p) k _ d l) (ranges.rows.1 k _ (omega arith))

  precede : Precede (phi_at (compact_of p)) (further_keys p) (length (known_rows p))
  precede i l =
      let c = compact_of p in
      let e = firsts_of p.words + 1 + i in
      let n = known_count in
      let m = keys_count in
      let k = key_behind c i e refl in
      let falls : (get_or (further_keys p) i (0, 0)).0 < e =
      subst (λ (v : ℕ × ℕ). v.0 < e) (sym k) (expandable.falls e (omega arith) (omega arith)) in
      let heap = phi_first c expandable.heaps (get_or (further_keys p) i (0, 0)).1 in
      (omega arith, omega arith)

  precede_in : (i : ℕ) → i ≤ length (further_keys p)
      → Precede (phi_at (compact_of p)) (take i (further_keys p)) (length (known_rows p))
  precede_in i le j l =
      let n = length-take-le i (further_keys p) le in
      let same : get_or (further_keys p) j (0, 0) ≡ get_or (take i (further_keys p)) j (0, 0) =
      sym (get_or-take i (further_keys p) j (0, 0) (omega arith)) in
      subst
      (λ (k : ℕ × ℕ). (k.0 < length (known_rows p) + j)
      × (phi_at (compact_of p) k.1 < length (known_rows p) + j)) same (precede j (omega arith))

  module _ (i : ℕ) (le : i ≤ length (further_keys p)) where
    fit : All (IsRow p.order) (rows_made p i)
    fit =
        made_fit (phi_at (compact_of p)) p.order (take i (further_keys p)) (known_rows p) known_fit
        (precede_in i le)

    count : length (rows_made p i) ≡ firsts_of p.words + 1 + i
    count =
        let m = made_count (phi_at (compact_of p)) (take i (further_keys p)) (known_rows p) in
        let n = length-take-le i (further_keys p) le in
        let k = known_count in
        omega arith

    long : length (concat (rows_made p i)) ≡ (firsts_of p.words + 1 + i) * p.order
    long =
        length_is p.order (rows_made p i) (recursion_from_All (IsRow p.order) (rows_made p i) fit)
        ∙ ap (λ (n : ℕ). n * p.order) count

    row_there : (x : ℕ) → x < firsts_of p.words + 1 + i
        → x * p.order + p.order ≤ length (concat (rows_made p i))
    row_there x lt =
        let one = suc-mul x p.order in
        let more : suc x * p.order ≤ (firsts_of p.words + 1 + i) * p.order =
        mul-le-mul_right p.order (omega arith) in
        let n = long in
        omega arith

    entries_below : All (λ x. x < p.order) (concat (rows_made p i))
    entries_below =
        all_below p.order (rows_made p i)
        (recursion_from_All (IsRow p.order) (rows_made p i) fit)

  -- the key that stands at a place behind those of the first elements, and the rows so far
  module _ (j x heap : ℕ) (low : firsts_of p.words ≤ j) (high : j < length p.words)
      (entry : ℕ × ℕ) (is : (x, heap) ≡ entry) (at : entry ≡ get_or p.words j entry) where
    abbrev i : ℕ
    i = j - firsts_of p.words

    within : i < length (further_keys p)
    within = let n = length-drop (firsts_of p.words) p.words in omega arith

    here : get_or (further_keys p) i (0, 0) ≡ (x, heap)
    here =
        let place : firsts_of p.words + i ≡ j = omega arith in
        get_or-drop (firsts_of p.words) p.words i (0, 0)
        ∙ ap (λ (k : ℕ). get_or p.words k (0, 0)) place
        ∙ get_or_default p.words j (0, 0) entry high ∙ sym at ∙ sym is

    before : (x < firsts_of p.words + 1 + i)
        × (phi_at (compact_of p) heap < firsts_of p.words + 1 + i)
    before =
        let n = known_count in
        let b = subst
        (λ (k : ℕ × ℕ). (k.0 < length (known_rows p) + i)
        × (phi_at (compact_of p) k.1 < length (known_rows p) + i)) here (precede i within) in
        let b0 = b.0 in
        let b1 = b.1 in
        (omega arith, omega arith)

    at_most : i ≤ length (further_keys p)
    at_most = let w = within in omega arith

    joined : concat (rows_made p i)
        ++ product_in p.order (concat (rows_made p i)) x (phi_at (compact_of p) heap)
        ≡ concat (rows_made p (j + 1 - firsts_of p.words))
    joined =
        let phi = phi_at (compact_of p) in
        let n = count i at_most in
        let b0 = before.0 in
        let b1 = before.1 in
        let next : i + 1 ≡ j + 1 - firsts_of p.words = omega arith in
        product_lies p.order phi (rows_made p i) (x, heap) (λ k d l. (fit i at_most k d l).0)
        (omega arith) (omega arith)
        ∙ ap (λ (key : ℕ × ℕ). concat (rows_made p i ++ row_by phi (rows_made p i) key ∷ []))
        (sym here)
        ∙ ap concat (sym (one_key_more phi (known_rows p) (further_keys p) i within))
        ∙ ap (λ (k : ℕ). concat (rows_made p k)) next

    pub next_row : (value : ℕ) → value ≡ phi_at (compact_of p) heap → (flat : List ℕ)
        → flat ≡ concat (rows_made p i) → HasNextRow p j x value flat
    next_row value of_heap flat lies =
        rw (of_heap, lies)
        (record {
          element = row_there i at_most x before.0;
          heap = row_there i at_most _ before.1;
          below = entries_below i at_most;
          joined = joined;
        })

  -- ---- the certificate with all of them

  table : AllByRecursion (IsRow p.order) (expanded (compact_of p)).rows
  table = recursion_from_All (IsRow p.order) (expanded (compact_of p)).rows ranges.rows.1

  pub table_long : (flat : List ℕ) → flat ≡ concat (expanded (compact_of p)).rows
      → length flat ≡ p.order * p.order
  table_long flat rows =
      ap length rows ∙ length_is p.order (expanded (compact_of p)).rows table
      ∙ ap (λ (n : ℕ). n * p.order) ranges.rows.0

  pub table_below : (flat : List ℕ) → flat ≡ concat (expanded (compact_of p)).rows
      → All (λ z. z < p.order) flat
  table_below flat rows =
      subst (λ (entries : List ℕ). All (λ z. z < p.order) entries) (sym rows)
      (all_below p.order (expanded (compact_of p)).rows table)

  -- separators that are told of the rows as they lie, and of marks of the portion
  pub separators_made : SameSeparators (expanded (compact_of p)) → (order : ℕ)
      (flat portion : List ℕ) (marks inside : List Bool) → order ≡ p.order
      → flat ≡ concat (expanded (compact_of p)).rows → portion ≡ p.portion → marks ≡ inside
      → ((x : ℕ) → get_or inside x false ≡ list_any (λ y. y == x) portion)
      → separators_of (claim_in order flat marks) ≡ (expanded (compact_of p)).apart
  separators_made law order flat portion marks inside same rows is marked told =
      ap (λ (n : ℕ). separators_of (claim_in n flat marks)) same
      ∙ ap (λ (entries : List ℕ). separators_of (claim_in p.order entries marks)) rows
      ∙ ap
      (λ (ms : List Bool). separators_of
      (claim_in p.order (concat (expanded (compact_of p)).rows) ms)) marked
      ∙ law inside (λ x. told x ∙ ap (λ (ps : List ℕ). list_any (λ y. y == x) ps) is)

  module _ (flat apart : List ℕ) (rows : flat ≡ concat (expanded (compact_of p)).rows)
      (separators : apart ≡ (expanded (compact_of p)).apart) where
    abbrev all_fields : Fields
    all_fields = record p { rows = flat; apart = apart }

    cut : rows_of p.order p.order flat ≡ (expanded (compact_of p)).rows
    cut =
        ap (rows_of p.order p.order) rows
        ∙ ap (λ (n : ℕ). rows_of p.order n (concat (expanded (compact_of p)).rows))
        (sym ranges.rows.0)
        ∙ cut_again p.order (expanded (compact_of p)).rows table

    pub is_expanded : certificate_of all_fields ≡ expanded (compact_of p)
    is_expanded =
        ap (λ (cut : List (List ℕ)). record (expanded (compact_of p)) { rows = cut; apart = apart })
        cut
        ∙ ap (λ (xs : List ℕ). record (expanded (compact_of p)) { apart = xs }) separators

    pub is_whole : IsWhole all_fields
    is_whole = record {
      writable = subst IsWritable (sym is_expanded) h.writable;
      rows_long = table_long flat rows;
      rows_joined = ap concat cut ∙ sym rows;
    }

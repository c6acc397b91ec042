-- A code has one accepted certificate of a kind at most.
-- Two such have the same numbers by SameClaims, and the numbers determine each line.
use Rattle.std.proofs.Common.{◌≡◌, ℕ, suc, zero, ◌+◌, ◌-◌, ◌<◌, ◌≤◌, false, ◌==◌, List, [], ◌∷◌, ◌++◌, refl, sym, ◌∙◌, ap, ap₂, arith, length, get_or, eq-eqb, ne_eqb, All, inl, inr, eq-zero-or-pos, true}
use Rattle.std.proofs.Math.Seq.{ext_get_or}
use Rattle.std.proofs.lemmas.Grind.{same_number_lists}
use Rattle.std.proofs.lemmas.List.Elements.{All-get_or}
use Rattle.std.proofs.lemmas.Bool.{true≢false}
use Rattle.std.specs.List.{list_any, AllZip, AllByRecursion}
use native.Mathlib.Decide.{dec_lt}
use Rattle.misere_theory.specs.Quotients.{Represents}
use Rattle.misere_theory.specs.Certificates.{Certificate, claim_of, key_of, kind_of, IsHeapOf, InRanges, Accepted, pairs_with, pairs_from, TellsApart, LeastApart}
use Rattle.misere_theory.proofs.Basics.{neither_smaller}
use Rattle.misere_theory.proofs.RisingLists.{RisesFrom, increasing_rises}
use Rattle.misere_theory.proofs.SameClaims.{SameClaim, same_period, same_claim}
use Rattle.misere_theory.proofs.Counting.{kind_full, kind_partial}
use Rattle.misere_theory.proofs.Written.{entry_at, written_counts, is_full, is_partial}

none_below : (low q v : ℕ) (xs : List ℕ) → RisesFrom low q xs → v < low
    → list_any (λ y. y == v) xs ≡ false
none_below low q v [] h l = refl
none_below low q v (x ∷ xs) h l =
    let a = h.0 in
    rw (ne_eqb x v (λ e. omega arith)) (none_below (x + 1) q v xs h.2 (omega arith))

first_in : (x : ℕ) (xs : List ℕ) → list_any (λ y. y == x) (x ∷ xs) ≡ true
first_in x xs = rw (eq-eqb x x refl) refl

-- rising lists with the same members are one list
same_members : (low q : ℕ) (xs ys : List ℕ) → RisesFrom low q xs → RisesFrom low q ys
    → ((v : ℕ) → v < q → list_any (λ y. y == v) xs ≡ list_any (λ y. y == v) ys) → xs ≡ ys
same_members low q [] [] h k same = refl
same_members low q [] (y ∷ ys) h k same =
    absurd (true≢false (sym (same y k.1 ∙ first_in y ys)))
same_members low q (x ∷ xs) [] h k same =
    absurd (true≢false (sym (first_in x xs) ∙ same x h.1))
same_members low q (x ∷ xs) (y ∷ ys) h k same =
    let e : x ≡ y = neither_smaller x y
    (λ l. true≢false (sym (first_in x xs) ∙ same x h.1
    ∙ none_below y q x (y ∷ ys) (omega arith, k.1, k.2) l))
    (λ l. true≢false (sym (same y k.1 ∙ first_in y ys)
    ∙ none_below x q y (x ∷ xs) (omega arith, h.1, h.2) l)) in
    ap₂ (λ a l. a ∷ l) e
    (same_members (x + 1) q xs ys h.2 (rw e k.2) (λ v b. elim (dec_lt x v) [
      | yes l ↦ rw (ne_eqb x v (λ d. omega arith), ne_eqb y v (λ d. omega arith)) at (same v b)
      | no i ↦ none_below (x + 1) q v xs h.2 (omega arith)
          ∙ sym (none_below (y + 1) q v ys k.2 (omega arith))
    ]))

-- two lists that stand to one list by a relation that determines its answer are one
zip_same : {A : Type 0} (P : A → Type 0) (R S : A → ℕ → Type 0)
    → ((p : A) (z w : ℕ) → P p → R p z → S p w → z ≡ w)
    → (ps : List A) (zs ws : List ℕ) → AllByRecursion P ps → AllZip R ps zs → AllZip S ps ws
    → zs ≡ ws
zip_same P R S same [] [] [] a h k = refl
zip_same P R S same [] [] (w ∷ ws) a h k = absurd k
zip_same P R S same [] (z ∷ zs) ws a h k = absurd h
zip_same P R S same (p ∷ ps) [] ws a h k = absurd h
zip_same P R S same (p ∷ ps) (z ∷ zs) [] a h k = absurd k
zip_same P R S same (p ∷ ps) (z ∷ zs) (w ∷ ws) a h k =
    ap₂ (λ v l. v ∷ l) (same p z w a.0 h.0 k.0) (zip_same P R S same ps zs ws a.1 h.1 k.1)

InOrder : ℕ → ℕ × ℕ → Type 0
InOrder q p = (p.0 < q) × (p.1 < q)

with_in : (q x y n : ℕ) → x < q → y + n ≤ q → AllByRecursion (InOrder q) (pairs_with x y n)
unfolding InOrder
with_in q x y zero h l = tt
with_in q x y (suc n) h l = ((h, omega arith), with_in q x (y + 1) n h (omega arith))

both_in : (q : ℕ) (xs ys : List (ℕ × ℕ)) → AllByRecursion (InOrder q) xs
    → AllByRecursion (InOrder q) ys
    → AllByRecursion (InOrder q) (xs ++ ys)
both_in q [] ys h k = k
both_in q (x ∷ xs) ys h k = (h.0, both_in q xs ys h.1 k)

from_in : (q x n : ℕ) → x + n ≤ q → AllByRecursion (InOrder q) (pairs_from x n)
from_in q x zero l = tt
from_in q x (suc n) l =
    both_in q (pairs_with x (x + 1) n) (pairs_from (x + 1) n)
    (with_in q x (x + 1) n (omega arith) (omega arith)) (from_in q (x + 1) n (omega arith))

module _
    (c d : Certificate) (a : Accepted c) (b : Accepted d) (same_code : c.code ≡ d.code)
    (same_kind : kind_of c ≡ kind_of d) where
  of_d : Represents (IsHeapOf c) c.code (claim_of d)
  of_d = rw (same_code, same_kind) b.represents

  -- full ones have the same least period, and partial ones the same last heap
  periods : (c.start ≡ d.start) × (c.period ≡ d.period)
  periods = elim (eq-zero-or-pos (kind_of c)) [
    | inl z ↦
        let of_c : 1 ≤ c.period = is_full c a.in_ranges z in
        let full : 1 ≤ d.period = is_full d b.in_ranges (sym same_kind ∙ z) in
        same_period (IsHeapOf c) (λ n h. (h, λ l. absurd (omega arith))) c.code (claim_of c)
        (claim_of d) a.represents of_d c.start c.period d.start d.period
        (a.canonical.period of_c) (b.canonical.period full)
    | inr some ↦
        let e = is_partial c a.in_ranges some in
        let f = is_partial d b.in_ranges (omega arith) in
        let k = kind_partial c.start c.period e in
        let l = kind_partial d.start d.period f in
        let s = a.in_ranges.start in
        let t = b.in_ranges.start in
        (omega arith, omega arith)
  ]

  numbers : SameClaim (IsHeapOf c) (claim_of c) (claim_of d) (key_of c) (key_of d)
  numbers =
      let g : d.start + d.period - 1 ≡ c.start + c.period - 1 =
      let e = periods.0 in let f = periods.1 in omega arith in
      let s = a.in_ranges.start in
      same_claim a.represents of_d (λ h one l. written_counts c a.in_ranges h one (omega arith))
      a.canonical.numbered (rw g at b.canonical.numbered)

  same_order : c.order ≡ d.order
  same_order = numbers.order

  phi_length : length c.phi ≡ length d.phi
  phi_length = let e = a.in_ranges.phi.0 in let f = b.in_ranges.phi.0 in let g = periods.0 in
      let h = periods.1 in omega arith

  same_phi_line : c.phi ≡ d.phi
  same_phi_line =
      same_number_lists c.phi d.phi phi_length (λ k h. sym (entry_at c a.in_ranges k h)
      ∙ sym (numbers.phi (suc k) (written_counts c a.in_ranges (suc k) (omega arith)
      (let e = a.in_ranges.phi.0 in omega arith))) ∙ entry_at d b.in_ranges k
      (let e = phi_length in omega arith))

  same_portion_line : c.portion ≡ d.portion
  same_portion_line =
      let p = a.in_ranges.portion in
      let q = b.in_ranges.portion in
      same_members 0 c.order c.portion d.portion
      (increasing_rises 0 c.order c.portion (λ some. omega arith) p.1 p.2)
      (rw same_order (increasing_rises 0 d.order d.portion (λ some. omega arith) q.1 q.2))
      (λ v l. sym (numbers.portion v l))

  key_at : (e : Certificate) (i : ℕ) → key_of e (suc i) ≡ get_or e.words i (0, 0)
  key_at e i = let f : suc i - 1 ≡ i = omega arith in ap (λ j. get_or e.words j (0, 0)) f

  same_words_line : c.words ≡ d.words
  same_words_line =
      let e = a.in_ranges.words.0 in let f = b.in_ranges.words.0 in let g = same_order in
      ext_get_or (0, 0) c.words d.words (omega arith) (λ i h.
      let (u, v) = numbers.words (suc i) (omega arith) (omega arith) in
      sym (key_at c i) ∙ ap₂ (λ x y. (x, y)) u v ∙ key_at d i)

  row_length : (e : Certificate) → InRanges e → (i : ℕ) → i < e.order
      → length (get_or e.rows i []) ≡ e.order
  row_length e r i h = let l = r.rows.0 in
      (All-get_or (λ row. (length row ≡ e.order) × All (λ x. x < e.order) row) e.rows i []
      (omega arith) r.rows.1).0

  same_rows : c.rows ≡ d.rows
  same_rows =
      let e = a.in_ranges.rows.0 in let f = b.in_ranges.rows.0 in let g = same_order in
      ext_get_or [] c.rows d.rows (omega arith) (λ i h.
      let p = row_length c a.in_ranges i (omega arith) in
      let q = row_length d b.in_ranges i (omega arith) in
      same_number_lists (get_or c.rows i []) (get_or d.rows i []) (omega arith)
      (λ j k. sym (numbers.times i j (omega arith) (omega arith))))

  same_telling : (p : ℕ × ℕ) (z : ℕ) → InOrder c.order p → z < c.order
      → (TellsApart (claim_of c) p z → TellsApart (claim_of d) p z)
      × (TellsApart (claim_of d) p z → TellsApart (claim_of c) p z)
  unfolding InOrder
  same_telling p z i l =
      let one : (x : ℕ) → x < c.order → (claim_of d).portion ((claim_of d).times x z)
      ≡ (claim_of c).portion ((claim_of c).times x z) =
      λ x h. ap (claim_of d).portion (numbers.times x z h l)
      ∙ numbers.portion _ (a.represents.monoid.closed x z h l) in (
        λ t e. t (sym (one p.0 i.0) ∙ e ∙ one p.1 i.1),
        λ t e.
            t (one p.0 i.0 ∙ e ∙ sym (one p.1 i.1)),
      )

  same_apart : c.apart ≡ d.apart
  same_apart =
      zip_same (InOrder c.order) (LeastApart (claim_of c)) (LeastApart (claim_of d)) least_same
      (pairs_from 0 c.order) c.apart d.apart
      (from_in c.order 0 c.order (omega arith)) a.canonical.apart
      (rw same_order b.canonical.apart)
    where
      least_same : (p : ℕ × ℕ) (z w : ℕ) → InOrder c.order p → LeastApart (claim_of c) p z
          → LeastApart (claim_of d) p w → z ≡ w
      least_same p z w i h k =
          let g = same_order in
          let u = k.0 in
          neither_smaller z w (λ l. k.2 z l ((same_telling p z i h.0).0 h.1))
          (λ l. h.2 w l ((same_telling p w i (omega arith)).1 k.1))

  -- the two certificates are one
  pub accepted_once : c ≡ d
  accepted_once = λ i. record {
    code = same_code i;
    order = same_order i;
    start = periods.0 i;
    period = periods.1 i;
    phi = same_phi_line i;
    portion = same_portion_line i;
    words = same_words_line i;
    rows = same_rows i;
    apart = same_apart i;
  }

-- two full ones are of one kind
pub full_once : (c d : Certificate) → Accepted c → Accepted d → c.code ≡ d.code → 1 ≤ c.period
    → 1 ≤ d.period → c ≡ d
full_once c d a b e f g =
    accepted_once c d a b e (kind_full c.start c.period f ∙ sym (kind_full d.start d.period g))

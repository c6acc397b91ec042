-- What the ranges and the canonical form of a certificate give its claim.
-- A heap past the phi line has the entry of its place in the period. Keys lead from each element
-- down to 0.
use Rattle.std.proofs.Common.{◌≡◌, ℕ, suc, zero, ◌+◌, ◌-◌, ◌%◌, ◌<◌, ◌≤◌, List, [], ◌∷◌, ◌++◌, refl, sym, ◌∙◌, ap, inl, inr, arith, length, get_or, nat_lt, eq-zero-or-pos, lt-ltb, le-ltb, if◌then◌else◌, subst, ap₂}
use Rattle.std.proofs.Math.Nat.{add-mod_left, mod-eq_of_lt}
use Rattle.std.proofs.lemmas.List.{get_or_past}
use Rattle.std.proofs.lemmas.List.Elements.{All-get_or}
use Rattle.std.specs.List.{AllZip}
use native.Mathlib.Decide.{dec_lt, dec_le}
use Rattle.misere_theory.specs.Quotients.{AllApart}
use Rattle.misere_theory.specs.Kinds.{IsPeriodicIn}
use Rattle.misere_theory.specs.Numbering.{IsNumbered}
use Rattle.misere_theory.specs.Certificates.{Certificate, phi_at, claim_of, key_of, kind_of, IsHeapOf, InRanges, pairs_with, pairs_from, LeastApart}
use Rattle.misere_theory.proofs.Counting.{kind_full, kind_partial}

place : ℕ → ℕ → ℕ → ℕ
place s p n = if nat_lt n (s + p) then n else s + (n - s) % p

place-early : (s p n : ℕ) → n < s + p → place s p n ≡ n
unfolding place
place-early s p n h = rw (lt-ltb n (s + p) h)

place-late : (s p n : ℕ) → s + p ≤ n → place s p n ≡ s + (n - s) % p
unfolding place
place-late s p n h = rw (le-ltb n (s + p) h)

place-repeats : (s p n : ℕ) → 1 ≤ p → s ≤ n → place s p (p + n) ≡ place s p n
place-repeats s p n o h =
    let e : p + n - s ≡ p + (n - s) = omega arith in
    let up : place s p (p + n) ≡ s + (n - s) % p =
    place-late s p (p + n) (omega arith) ∙ ap (λ v. s + v % p) e
    ∙ ap (λ v. s + v) (add-mod_left p (n - s)) in
    elim (dec_lt n (s + p)) [
      | yes l ↦ up ∙ ap (λ v. s + v) (mod-eq_of_lt (omega arith))
          ∙ (let f : s + (n - s) ≡ n = omega arith in f) ∙ sym (place-early s p n l)
      | no f ↦ up ∙ sym (place-late s p n (omega arith))
    ]

module _ (c : Certificate) (r : InRanges c) where
  phi_by_place : (n : ℕ) → phi_at c n ≡ get_or (0 ∷ c.phi) (place c.start c.period n) 0
  unfolding place
  phi_by_place n = refl

  -- an entry is an element, and so is the 0 past the last one
  entry_in : (i : ℕ) → get_or (0 ∷ c.phi) i 0 < c.order
  entry_in zero = let o = r.order in omega arith
  entry_in (suc i) = elim (dec_lt i (length c.phi)) [
    | yes l ↦ All-get_or (λ x. x < c.order) c.phi i 0 l r.phi.1
    | no f ↦ let e = get_or_past c.phi i 0 (omega arith) in let o = r.order in omega arith
  ]

  pub phi_in : (n : ℕ) → (claim_of c).phi n < (claim_of c).order
  phi_in n = rw (phi_by_place n) (entry_in (place c.start c.period n))

  -- an entry of the phi line is phi of its heap
  pub entry_at : (i : ℕ) → i < length c.phi → phi_at c (suc i) ≡ get_or c.phi i 0
  entry_at i l =
      phi_by_place (suc i) ∙ ap (λ j. get_or (0 ∷ c.phi) j 0)
      (place-early c.start c.period (suc i) (let e = r.phi.0 in omega arith))

  pub repeats : 1 ≤ c.period → (n : ℕ) → c.start ≤ n → phi_at c (c.period + n) ≡ phi_at c n
  repeats full n h =
      phi_by_place (c.period + n) ∙ ap (λ i. get_or (0 ∷ c.phi) i 0)
      (place-repeats c.start c.period n full h) ∙ sym (phi_by_place n)

  -- past the heaps of a partial certificate stand no entries
  pub nothing_past : c.period ≡ 0 → (n : ℕ) → c.start ≤ n → phi_at c n ≡ 0
  nothing_past part n h =
      let late = place-late c.start c.period n (omega arith) in
      let e = r.phi.0 in
      phi_by_place n ∙ get_or_past (0 ∷ c.phi) (place c.start c.period n) 0 (omega arith)

  -- the kinds: full without a last heap, and partial with one
  pub is_full : kind_of c ≡ 0 → 1 ≤ c.period
  is_full e = elim (eq-zero-or-pos c.period) [
    | inl z ↦ let k = kind_partial c.start c.period z in let s = r.period.0 in absurd (omega arith)
    | inr pos ↦ pos
  ]

  pub is_partial : 0 < kind_of c → c.period ≡ 0
  is_partial l = elim (eq-zero-or-pos c.period) [
    | inl z ↦ z
    | inr pos ↦ let k = kind_full c.start c.period pos in absurd (omega arith)
  ]

  pub written_counts : (h : ℕ) → 1 ≤ h → h < c.start + c.period → IsHeapOf c h
  written_counts h one l = (
    one,
    λ some.
        let z = is_partial some in
        let k = kind_partial c.start c.period z in
        omega arith,
  )

  -- each heap of a partial certificate has an entry
  pub counts_written : c.period ≡ 0 → (h : ℕ) → IsHeapOf c h → h < c.start
  counts_written z h counts =
      let k = kind_partial c.start c.period z in
      let s = r.period.0 in
      let l = counts.1 (omega arith) in
      omega arith

  pub periodic : IsPeriodicIn (kind_of c) c.code (claim_of c) (length c.code - 1) c.start c.period
  periodic whole = record {
    last = λ j h. get_or_past c.code j 0 (omega arith);
    from_one = r.start;
    some = is_full whole;
    repeats = repeats (is_full whole);
  }

  pub key_counts : (e : ℕ) → IsNumbered (claim_of c) (c.start + c.period - 1) (key_of c) → 0 < e
      → e < c.order → IsHeapOf c (key_of c e).1
  key_counts e k pos l =
      let h = k.heap e pos l in
      let a = h.0 in
      let b = h.1 in
      let s = r.start in
      written_counts (key_of c e).1 a (omega arith)

-- the parts of a list of pairs that is joined
zip_split : {A B : Type 0} (R : A → B → Type 0) (xs ys : List A) (zs : List B)
    → AllZip R (xs ++ ys) zs
    → (us : List B) × (vs : List B) × AllZip R xs us × AllZip R ys vs
zip_split R [] ys zs h = ([], zs, tt, h)
zip_split R (x ∷ xs) ys [] h = absurd h
zip_split R (x ∷ xs) ys (z ∷ zs) h = let (us, vs, a, b) = zip_split R xs ys zs h.1 in
    (z ∷ us, vs, (h.0, a), b)

module _ (R : ℕ × ℕ → ℕ → Type 0) where
  pair_at : (x y n : ℕ) (zs : List ℕ) → AllZip R (pairs_with x y n) zs → (k : ℕ) → k < n
      → (z : ℕ) × R (x, y + k) z
  pair_at x y zero zs h k l = absurd (omega arith)
  pair_at x y (suc n) [] h k l = absurd h
  pair_at x y (suc n) (z ∷ zs) h zero l = let e : y + 0 ≡ y = omega arith in (z, rw e h.0)
  pair_at x y (suc n) (z ∷ zs) h (suc k) l =
      let (w, g) = pair_at x (y + 1) n zs h.1 k (omega arith) in
      let e : y + suc k ≡ y + 1 + k = omega arith in
      (w, rw e g)

  -- each two numbers from x on stand in the list of pairs
  pub pair_of : (x n : ℕ) (zs : List ℕ) → AllZip R (pairs_from x n) zs → (a b : ℕ) → x ≤ a → a < b
      → b < x + n → (z : ℕ) × R (a, b) z
  pair_of x zero zs h a b i j l = absurd (omega arith)
  pair_of x (suc n) zs h a b i j l =
      let (us, vs, p, q) = zip_split R (pairs_with x (x + 1) n) (pairs_from (x + 1) n) zs h in
      elim (dec_le (x + 1) a) [
        | yes g ↦ pair_of (x + 1) n vs q a b g j (omega arith)
        | no f ↦
            let (z, g) = pair_at x (x + 1) n us p (b - (x + 1)) (omega arith) in
            let e : x ≡ a = omega arith in
            let d : x + 1 + (b - (x + 1)) ≡ b = omega arith in
            (z, subst (λ v. R v z) (ap₂ (λ u v. (u, v)) e d) g)
      ]

-- the written elements tell each two apart
pub all_apart : (c : Certificate) → AllZip (LeastApart (claim_of c)) (pairs_from 0 c.order) c.apart
    → AllApart (claim_of c)
all_apart c h x y l below =
    let (z, g) =
    pair_of (LeastApart (claim_of c)) 0 c.order c.apart h x y (omega arith) l (omega arith) in
    (z, g.0, g.1)

-- The keys of an accepted certificate: which heaps they name, and how many elements come first.
use Rattle.std.proofs.Common.{◌≡◌, ◌≢◌, ◌∙◌, ℕ, ◌<◌, ◌≤◌, List, length, get_or, sym, ap, ap₂, subst, arith}
use Rattle.std.specs.Prelude.{◌==◌}
use Rattle.std.proofs.lemmas.Bool.{eq-eqb, ne_eqb}
use Rattle.std.proofs.lemmas.List.{get_or_default}
use Rattle.std.proofs.lemmas.List.Sums.{prefix_len_is, prefix_len-le-length}
use Rattle.misere_theory.specs.Quotients.{Claim}
use Rattle.misere_theory.specs.Certificates.{Certificate, Accepted, claim_of, key_of, phi_at, times_of}
use Rattle.compact_certificates.specs.Rows.{firsts_of}
use Rattle.isomorphisms.specs.Images.{MustTake}
use Rattle.isomorphisms.proofs.ImageLemmas.{must-product}

-- the keys up to i have the element 0
abbrev pub AreFirst : List (ℕ × ℕ) → ℕ → Type 0
AreFirst words i = (k : ℕ) → k < i → (get_or words k (0, 0)).0 ≡ 0

module _ (words : List (ℕ × ℕ)) (i : ℕ) (so_far : AreFirst words i) where
  pub firsts_stop : (key : ℕ × ℕ) → i < length words → key ≡ get_or words i key → key.0 ≢ 0
      → i ≡ firsts_of words
  firsts_stop key lt is other =
      let here : key ≡ get_or words i (0, 0) = is ∙ get_or_default words i key (0, 0) lt in
      sym (prefix_len_is (λ (k : ℕ × ℕ). k.0 == 0) words i (0, 0) (omega arith)
      (λ k l. eq-eqb _ _ (so_far k l))
      (λ l. ne_eqb _ _ (subst (λ (x : ℕ × ℕ). x.0 ≢ 0) here other)))

  pub all_are_first : length words ≤ i → i ≤ length words → length words ≡ firsts_of words
  all_are_first le ge =
      let same : length words ≡ i = omega arith in
      same ∙ sym (prefix_len_is (λ (k : ℕ × ℕ). k.0 == 0) words i (0, 0) (omega arith)
      (λ k l. eq-eqb _ _ (so_far k l))
      (λ l. absurd (omega arith)))

-- there are fewer first elements than elements
pub firsts-below : (c : Certificate) → Accepted c → firsts_of c.words < c.order
firsts-below c a =
    let l = prefix_len-le-length (λ (k : ℕ × ℕ). k.0 == 0) c.words in
    let w = a.in_ranges.words.0 in
    omega (arith, l, w)

-- the image of an element, by its key
pub key-must : (c : Certificate) (d : Claim) (images : List ℕ) (e p h x y z : ℕ)
    → Accepted c → 0 < e → e < c.order → p ≡ (key_of c e).0 → h ≡ (key_of c e).1 → p < e
    → x ≡ phi_at c h → x < c.order
    → MustTake (claim_of c) d images p y
    → MustTake (claim_of c) d images x z
    → MustTake (claim_of c) d images e (d.times y z)
key-must c d images e p h x y z a pos l is heap low phi below k q =
    let product : times_of c p x ≡ e =
    ap₂ (times_of c) is (phi ∙ ap (phi_at c) heap) ∙ a.canonical.numbered.product e pos l in
    subst (λ v. MustTake (claim_of c) d images v (d.times y z)) product
    (must-product (claim_of c) d images p y x z (omega arith) below k q)

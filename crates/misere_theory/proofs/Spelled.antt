-- Elements are the values of what their keys spell; a period shows within its own length.
-- By induction on the element, whose key has a smaller one, and on the heap, a period at a time.
use Rattle.std.proofs.Common.{◌≡◌, ℕ, zero, suc, ◌+◌, ◌-◌, ◌<◌, ◌≤◌, List, [], ◌∷◌, refl, sym, ◌∙◌, ap, subst, inl, inr, arith, eq-zero-or-pos}
use native.Mathlib.Decide.{dec_lt}
use Rattle.misere_theory.specs.Games.{IsPosition}
use Rattle.misere_theory.specs.Quotients.{Monoid, value}
use Rattle.misere_theory.specs.Certificates.{Certificate, phi_at, times_of, claim_of, key_of, InRanges, Canonical, IsHeapOf, IsSpelled}
use Rattle.misere_theory.specs.Certificates.IsSpelled.{Zero, Key}
use Rattle.misere_theory.proofs.Written.{phi_in, repeats, nothing_past, key_counts}

spelled_within : (c : Certificate) → Canonical c → (t e : ℕ) → e < t → e < c.order
    → (X : List ℕ) × IsSpelled c e X
spelled_within c k zero e h l = absurd (omega arith)
spelled_within c k (suc t) e h l = elim (eq-zero-or-pos e) [
  | inl z ↦ ([], subst (λ v. IsSpelled c v []) (sym z) Zero)
  | inr pos ↦
      let up = k.numbered.parent e pos l in
      let (X, w) = spelled_within c k t (key_of c e).0 (omega arith) (omega arith) in
      ((key_of c e).1 ∷ X, Key e pos w)
]

pub spelled : (c : Certificate) → Canonical c → (e : ℕ) → e < c.order
    → (X : List ℕ) × IsSpelled c e X
spelled c k e l = spelled_within c k (suc e) e (omega arith) l

pub spelled_value : (c : Certificate) (e : ℕ) (X : List ℕ) → InRanges c
    → Monoid c.order (times_of c) → Canonical c → e < c.order
    → IsSpelled c e X → IsPosition (IsHeapOf c) X × (value (claim_of c) X ≡ e)
spelled_value c _ _ r m k l Zero = (tt, refl)
spelled_value c _ _ r m k l (Key e pos w) =
    let up = k.numbered.parent e pos l in
    let (p, f) = spelled_value c (key_of c e).0 _ r m k (omega arith) w in (
      (key_counts c r e k.numbered pos l, p),
      ap (times_of c (phi_at c (key_of c e).1)) f ∙ m.commutes _ _ (phi_in c r _) (omega arith)
          ∙ k.numbered.product e pos l,
    )

-- so all elements are values
pub reached : (c : Certificate) → InRanges c → Monoid c.order (times_of c) → Canonical c → (x : ℕ)
    → x < c.order → (X : List ℕ) × IsPosition (IsHeapOf c) X × (value (claim_of c) X ≡ x)
reached c r m k x l =
    let (X, w) = spelled c k x l in
    let (p, e) = spelled_value c x X r m k l w in
    (X, p, e)

module _
    (c : Certificate) (r : InRanges c) (q : ℕ) (once : (n : ℕ) → c.start ≤ n
    → n < c.start + c.period → phi_at c (q + n) ≡ phi_at c n) where
  serves_within : 1 ≤ c.period → (t n : ℕ) → n < t → c.start ≤ n → phi_at c (q + n) ≡ phi_at c n
  serves_within one zero n h l = absurd (omega arith)
  serves_within one (suc t) n h l = elim (dec_lt n (c.start + c.period)) [
    | yes i ↦ once n l i
    | no f ↦
        let e : c.period + (q + (n - c.period)) ≡ q + n = omega arith in
        let g : c.period + (n - c.period) ≡ n = omega arith in
        sym (ap (phi_at c) e) ∙ repeats c r one (q + (n - c.period)) (omega arith)
        ∙ serves_within one t (n - c.period) (omega arith) (omega arith)
        ∙ sym (repeats c r one (n - c.period) (omega arith)) ∙ ap (phi_at c) g
  ]

  pub serves_always : (n : ℕ) → c.start ≤ n → phi_at c (q + n) ≡ phi_at c n
  serves_always n l = elim (eq-zero-or-pos c.period) [
    | inl z ↦ nothing_past c r z (q + n) (omega arith) ∙ sym (nothing_past c r z n l)
    | inr one ↦ serves_within one (suc n) n (omega arith) l
  ]

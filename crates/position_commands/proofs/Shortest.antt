-- The keys of an element spell a position of as few heaps as any whose value is the element.
use Rattle.std.proofs.Common.{◌≡◌, ◌↔◌, ◌∙◌, ◌+◌, ◌-◌, ◌<◌, ◌≤◌, ℕ, zero, suc, List, [], ◌∷◌, ◌++◌, length, ap, sym, refl, subst, arith, inl, inr, eq-zero-or-pos}
use Rattle.std.proofs.lemmas.List.Sorted.{length_permutation}
use native.Mathlib.Decide.{dec_lt}
use Rattle.misere_theory.specs.Certificates.{Accepted, Certificate, IsHeapOf, IsSpelled, LeastApart, TellsApart, claim_of, key_of, phi_at, times_of}
use Rattle.misere_theory.specs.Certificates.IsSpelled.{Zero, Key}
use Rattle.misere_theory.specs.Games.{IsP, IsPosition}
use Rattle.misere_theory.specs.Numbering.{KeyBelow}
use Rattle.misere_theory.specs.Quotients.{Claim, value}
use Rattle.misere_theory.proofs.Spelled.{spelled}
use Rattle.misere_theory.proofs.Sums.{value_in}
use Rattle.misere_theory.proofs.Written.{counts_written, phi_in, repeats}
use Rattle.answers.specs.Spelled.{AreSpelled}
use Rattle.position_commands.proofs.Separated.{alike_beside}

-- nothing is spelled of 0
none_spelled : (c : Certificate) (e : ℕ) (X : List ℕ) → e ≡ 0 → IsSpelled c e X → length X ≡ 0
none_spelled c _ _ z Zero = refl
none_spelled c _ _ z (Key e pos w) = absurd (omega arith)

-- of another element one heap more than of its key's element
one_more : (c : Certificate) (e : ℕ) (X : List ℕ) → 0 < e → IsSpelled c e X
    → (Y : List ℕ) × IsSpelled c (key_of c e).0 Y × (length X ≡ length Y + 1)
one_more c _ _ some Zero = absurd (omega arith)
one_more c _ _ some (Key {X} e pos w) = (X, w, omega arith)

module _ (c : Certificate) (yes_to : Accepted c) where
  abbrev C : Claim
  C = claim_of c

  small_within : 1 ≤ c.period → (t n : ℕ) → n < t → 1 ≤ n
      → (h : ℕ) × (1 ≤ h) × (h < c.start + c.period) × (phi_at c h ≡ phi_at c n)
  small_within full zero n l some = absurd (omega arith)
  small_within full (suc t) n l some = elim (dec_lt n (c.start + c.period)) [
    | yes within ↦ (n, some, within, refl)
    | no past ↦
        let first = yes_to.in_ranges.start in
        let e : c.period + (n - c.period) ≡ n = omega arith in
        let (h, one, within, same) =
        small_within full t (n - c.period) (omega arith) (omega arith) in (
          h,
          one,
          within,
          same ∙ sym (repeats c yes_to.in_ranges full (n - c.period) (omega arith))
              ∙ ap (phi_at c) e,
        )
  ]

  -- each heap has the element of one before the end of the first period
  small : (n : ℕ) → IsHeapOf c n
      → (h : ℕ) × (1 ≤ h) × (h < c.start + c.period) × (phi_at c h ≡ phi_at c n)
  small n counts = elim (eq-zero-or-pos c.period) [
    | inl part ↦
        let l = counts_written c yes_to.in_ranges part n counts in
        (n, counts.0, omega arith, refl)
    | inr full ↦ small_within full (suc n) n (omega arith) counts.0
  ]

  keys_rise : (d e : ℕ) → 0 < d → d ≤ e → e < c.order → (key_of c d).0 ≤ (key_of c e).0
  keys_rise d e some up within = elim (dec_lt d e) [
    | yes l ↦ elim (yes_to.canonical.numbered.rising d e some l within) [
      | inl less ↦ omega (arith, less)
      | inr same ↦ let s = same.0 in omega (arith, s)
    ]
    | no f ↦
        let s : d ≡ e = omega arith in
        let t : (key_of c d).0 ≡ (key_of c e).0 = ap (λ v. (key_of c v).0) s in omega (arith, t)
  ]

  -- larger elements have longer words
  pub longer : (d e : ℕ) (X Y : List ℕ) → d ≤ e → e < c.order → IsSpelled c d X → IsSpelled c e Y
      → length X ≤ length Y
  longer _ _ _ _ up within Zero v = omega arith
  longer _ _ _ _ up within (Key d some w) Zero = absurd (omega arith)
  longer _ _ _ _ up within (Key {X} d some w) (Key {X = Y} e more v) =
      let less = yes_to.canonical.numbered.parent e more within in
      let l =
      longer (key_of c d).0 (key_of c e).0 X Y (keys_rise d e some up within) (omega (arith, less, within)) w
      v
      in omega (arith, l)

  -- the key of a product with a heap's element has no larger element
  key_below : (f n v : ℕ) → f < c.order → IsHeapOf c n → v ≡ C.times (C.phi n) f → 0 < v
      → (key_of c v).0 ≤ f
  key_below f n v within counts is some =
      let (h, one, l, same) = small n counts in
      let m = yes_to.represents.monoid in
      let e : v ≡ times_of c f (phi_at c h) =
      is ∙ m.commutes (C.phi n) f (phi_in c yes_to.in_ranges n) within
      ∙ ap (times_of c f) (sym same) in
      elim (dec_lt f (key_of c v).0) [
        | yes less ↦ absurd
            (yes_to.canonical.numbered.least f h within one (omega (arith, l))
            (subst (λ (u : ℕ). 0 < u) e some)
            (subst (λ (u : ℕ). KeyBelow (f, h) (key_of c u)) e (inl less)))
        | no g ↦ omega (arith, g)
      ]

  pub shortest : (W : List ℕ) → IsPosition (IsHeapOf c) W → (X : List ℕ)
      → IsSpelled c (value C W) X → length X ≤ length W
  shortest [] p X s = let e = none_spelled c 0 X refl s in omega (arith, e)
  shortest (n ∷ W) p X s = elim (eq-zero-or-pos (value C (n ∷ W))) [
    | inl z ↦ let e = none_spelled c (value C (n ∷ W)) X z s in omega (arith, e)
    | inr some ↦
        let m = yes_to.represents.monoid in
        let el = yes_to.represents.elements in
        let f = value C W in
        let within : f < c.order = value_in (IsHeapOf c) C m el W p.1 in
        let (F, spells) = spelled c yes_to.canonical f within in
        let (Y, rest, more) = one_more c (value C (n ∷ W)) X some s in
        let below = key_below f n (value C (n ∷ W)) within p.0 refl some in
        let a = longer (key_of c (value C (n ∷ W))).0 f Y F below within rest spells in
        let b = shortest W p.1 F spells in
        omega (arith, more, a, b)
  ]

  -- no position of fewer heaps tells two positions apart than what the least element spells that does
  pub fewest : (X Y : List ℕ) → IsPosition (IsHeapOf c) X → IsPosition (IsHeapOf c) Y
      → (x y z : ℕ) → x ≡ value C X → y ≡ value C Y → LeastApart C (x, y) z
      → (sizes : List ℕ) → AreSpelled c z sizes
      → (W : List ℕ) → IsPosition (IsHeapOf c) W
      → (IsP c.code (X ++ W) ↔ IsP c.code (Y ++ W) → ⊥) → length sizes ≤ length W
  fewest X Y p q x y z e f least sizes spells W r apart = elim (dec_lt (value C W) z) [
    | yes l ↦ absurd (apart (alike_beside c yes_to X Y p q W r (λ told.
        least.2 (value C W) l
        (subst (λ v. TellsApart C (v, y) (value C W)) (sym e)
        (subst (λ v. TellsApart C (value C X, v) (value C W)) (sym f) told)))))
    | no g ↦
        let within : value C W < c.order =
        value_in (IsHeapOf c) C yes_to.represents.monoid yes_to.represents.elements W r in
        let (V, v) = spelled c yes_to.canonical (value C W) within in
        let a = longer z (value C W) spells.X V (omega (arith, g)) within spells.spelled v in
        let b = shortest W r V v in
        let same = length_permutation spells.X sizes spells.same in
        omega (arith, a, b, same)
  ]

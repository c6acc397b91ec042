-- A certificate is canonical exactly where it has none of the faults 3 to 6.
-- Each part of the form can be tested, and where its test fails the certificate has that fault.
use Rattle.std.proofs.Common.{◌≡◌, ◌≢◌, ℕ, suc, zero, ◌+◌, ◌-◌, ◌<◌, ◌≤◌, ◌⊎◌, Bool, true, false, List, [], ◌∷◌, refl, inl, inr, arith, length, get_or}
use Rattle.std.proofs.lemmas.List.Elements.{All-get_or}
use Rattle.std.specs.List.{AllZip}
use native.Mathlib.Decide.{dec_lt, ℕ_discrete}
use Rattle.misere_theory.specs.Numbering.{KeyBelow}
use Rattle.misere_theory.specs.Quotients.{Claim}
use Rattle.misere_theory.specs.Certificates.{Certificate, claim_of, key_of, InRanges, Canonical, pairs_from, TellsApart, LeastApart}
use Rattle.misere_theory.specs.Faults.{WordFault, OrderFault, PeriodFault, ApartFault}
use Rattle.misere_theory.proofs.Basics.{either_way, both_dec, never_no}
use Rattle.misere_theory.proofs.Outcomes.{some_or_all_below}
use Rattle.misere_theory.proofs.SameClaims.{KeyBelow-trans}
use Rattle.misere_theory.proofs.Written.{repeats}

key_below_dec : (a b : ℕ × ℕ) → Dec (KeyBelow a b)
key_below_dec a b =
    elim (dec_lt a.0 b.0) [
      | yes l ↦ yes (inl l)
      | no f ↦ elim (both_dec (ℕ_discrete a.0 b.0) (dec_lt a.1 b.1))
          [ yes p ↦ yes (inr p) | no g ↦ no (λ h. elim h [ inl l ↦ f l | inr p ↦ g p ]) ]
    ]

same_or_not : (a b : Bool) → (a ≡ b) ⊎ (a ≢ b)
same_or_not true true = inl refl
same_or_not true false = inr (λ e. cc)
same_or_not false true = inr (λ e. cc)
same_or_not false false = inl refl

least_apart_dec : (c : Claim) (p : ℕ × ℕ) (z : ℕ) → Dec (LeastApart c p z)
least_apart_dec c p z =
    elim (dec_lt z c.order) [
      | no f ↦ no (λ h. f h.0)
      | yes l ↦ elim (same_or_not (c.portion (c.times p.0 z)) (c.portion (c.times p.1 z))) [
        | inl e ↦ no (λ h. h.1 e)
        | inr t ↦ elim
            (some_or_all_below (TellsApart c p)
            (λ w. c.portion (c.times p.0 w) ≡ c.portion (c.times p.1 w))
            (λ w. either_way (same_or_not _ _)) z) [
              | inl (w, b, u) ↦ no (λ h. h.2 w b u)
              | inr all ↦ yes (l, t, λ w b u. u (all w b))
            ]
      ]
    ]

zip_from_places : {A : Type 0} (R : A → ℕ → Type 0) (d : A) (ps : List A) (zs : List ℕ)
    → length zs ≡ length ps
    → ((i : ℕ) → i < length ps → R (get_or ps i d) (get_or zs i 0)) → AllZip R ps zs
zip_from_places R d [] [] e h = tt
zip_from_places R d [] (z ∷ zs) e h = absurd (omega arith)
zip_from_places R d (p ∷ ps) [] e h = absurd (omega arith)
zip_from_places R d (p ∷ ps) (z ∷ zs) e h =
    (h 0 (omega arith), zip_from_places R d ps zs (omega arith) (λ i l. h (suc i) (omega arith)))

place_of_zip : {A : Type 0} (R : A → ℕ → Type 0) (d : A) (ps : List A) (zs : List ℕ)
    → AllZip R ps zs → (i : ℕ) → i < length ps
    → R (get_or ps i d) (get_or zs i 0)
place_of_zip R d [] zs h i l = absurd (omega arith)
place_of_zip R d (p ∷ ps) [] h i l = absurd h
place_of_zip R d (p ∷ ps) (z ∷ zs) h zero l = h.0
place_of_zip R d (p ∷ ps) (z ∷ zs) h (suc i) l = place_of_zip R d ps zs h.1 i (omega arith)

module _
    (c : Certificate) (r : InRanges c) (word : WordFault c → ⊥) (order : OrderFault c → ⊥)
    (period : PeriodFault c → ⊥)
    (apart : ApartFault c → ⊥) where
  next_key : (e : ℕ) → 0 < e → e + 1 < c.order → KeyBelow (key_of c e) (key_of c (e + 1))
  next_key e p l = never_no (key_below_dec _ _) (λ f. order (inl (e, p, l, f)))

  later_key : (d n : ℕ) → 0 < d → d + suc n < c.order → KeyBelow (key_of c d) (key_of c (d + suc n))
  later_key d zero p l = next_key d p l
  later_key d (suc n) p l =
      let e : d + suc n + 1 ≡ d + suc (suc n) = omega arith in
      KeyBelow-trans _ _ _ (later_key d n p (omega arith))
      (rw e at (next_key (d + suc n) (omega arith) (omega arith)))

  key_range : (e : ℕ) → 0 < e → e < c.order → (1 ≤ (key_of c e).1)
      × ((key_of c e).1 < c.start + c.period)
  key_range e p l =
      let n = r.words.0 in
      let k = All-get_or (λ k. (k.0 < c.order) × (1 ≤ k.1) × (k.1 < c.start + c.period)) c.words
      (e - 1) (0, 0) (omega arith) r.words.1 in
      (k.1, k.2)

  pub canonical_from_none : Canonical c
  canonical_from_none = record {
    numbered = record {
      parent = λ e p l. never_no (dec_lt _ _) (λ f. word (e, p, l, inl (omega arith)));
      heap = λ e p l. let k = key_range e p l in (k.0, let m = k.1 in omega arith);
      product = λ e p l. never_no (ℕ_discrete _ _) (λ f. word (e, p, l, inr f));
      rising = λ d e p l b. let n : d + suc (e - d - 1) ≡ e = omega arith in
          rw n at (later_key d (e - d - 1) p (omega arith));
      least = λ f h l o b p k. order (inr (f, h, l, o, (let q = r.period.0 in omega arith), p, k));
    };
    period = λ full. record {
      from_one = r.start;
      some = full;
      repeats = repeats c r full;
      least = λ q o l h. period (inl (q, o, l, h));
      earliest = λ h e. period (inr (full, h, e));
    };
    apart =
        zip_from_places (LeastApart (claim_of c)) (0, 0) (pairs_from 0 c.order) c.apart r.apart.0
        (λ i l. never_no (least_apart_dec (claim_of c) _ _) (λ f. apart (i, l, f)));
  }

-- each of the faults 3 to 6 is none that a canonical certificate has
module _ (c : Certificate) (r : InRanges c) (k : Canonical c) where
  pub no_word_fault : WordFault c → ⊥
  no_word_fault (e, pos, l, f) =
      elim f [
        | inl high ↦ (let low = k.numbered.parent e pos l in omega arith)
        | inr other ↦ other
            (k.numbered.product e pos l)
      ]

  pub no_order_fault : OrderFault c → ⊥
  no_order_fault f = elim f [
    | inl (e, pos, l, still) ↦ still (k.numbered.rising e (e + 1) pos (omega arith) l)
    | inr (g, h, l, one, high, pos, b) ↦ k.numbered.least g h l one (omega arith) pos b
  ]

  pub no_period_fault : PeriodFault c → ⊥
  no_period_fault f = elim f [
    | inl (q, one, l, again) ↦ (k.period (omega arith)).least q one l again
    | inr (full, one, e) ↦ (k.period full).earliest one e
  ]

  pub no_apart_fault : ApartFault c → ⊥
  no_apart_fault (i, l, f) =
      f (place_of_zip (LeastApart (claim_of c)) (0, 0) (pairs_from 0 c.order) c.apart k.apart i l)

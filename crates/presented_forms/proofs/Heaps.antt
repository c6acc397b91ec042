-- Two presentations whose heaps have the same words have the same list of words.
use Rattle.std.proofs.Common.{◌≡◌, ℕ, zero, suc, ◌+◌, ◌-◌, ◌*◌, ◌<◌, ◌≤◌, true, List, Option, None, sym, ap, ◌∙◌, inl, inr, arith}
use Rattle.std.specs.Prelude.{is_some, ◌%◌}
use Rattle.std.proofs.Math.Nat.{add-mod_right, mod-eq_of_lt}
use Rattle.std.proofs.lemmas.Bool.{true≢false, cases_lt, cases_eq}
use Rattle.std.proofs.lemmas.List.{ext_get_or}
use Rattle.presented_text.specs.Said.{PresentedSaid, IsInRanges}
use Rattle.presented_claims.specs.Claims.{listed_heap, listed_word, has_word}
use Rattle.presented_forms.specs.Only.{WordsRepeat, IsLeastList}
use Rattle.presented_forms.proofs.OneLeast.{IsLeast, one-least}
use Rattle.presented_forms.proofs.Words.{near, far-none, far-some}

-- ---- what repeats along the numbers

module _ {A : Type 0} (f : ℕ → A) where
  abbrev pub RepeatsFrom : ℕ → ℕ → Type 0
  RepeatsFrom s p = (n : ℕ) → s + 1 ≤ n → f (n + p) ≡ f n

  far : (s p : ℕ) → RepeatsFrom s p → (m n : ℕ) → s + 1 ≤ n → f (n + m * p) ≡ f n
  far s p rep zero n le = let e : n + 0 * p ≡ n = omega arith in ap f e
  far s p rep (suc m) n le =
      let e : n + suc m * p ≡ (n + m * p) + p = omega arith in
      ap f e ∙ rep (n + m * p) (omega (arith, le)) ∙ far s p rep m n le

  later : (s t p : ℕ) → s ≤ t → RepeatsFrom s p → RepeatsFrom t p
  later s t p le rep n at = rep n (omega (arith, le, at))

  most : (t p : ℕ) → 0 < p → t ≤ t * p
  most zero p some = omega arith
  most (suc t) p some =
      let h = most t p some in let e : suc t * p ≡ t * p + p = omega arith in omega (arith, h, e, some)

  sooner : (s t p q : ℕ) → 0 < p → RepeatsFrom s p → RepeatsFrom t q → RepeatsFrom s q
  sooner s t p q some rep other n le =
      let k = t * p in
      let e : (n + q) + k ≡ (n + k) + q = omega arith in
      let high = most t p some in
      sym (far s p rep t (n + q) (omega (arith, le))) ∙ ap f e
      ∙ other (n + k) (omega (arith, le, high)) ∙ far s p rep t n le

  pub one-period : (s p t q : ℕ) → IsLeast RepeatsFrom s p → IsLeast RepeatsFrom t q → (s ≡ t) × (p ≡ q)
  one-period s p t q one two = one-least RepeatsFrom later sooner s p t q one two

-- ---- one presentation

abbrev pub heard : PresentedSaid → ℕ → Option (List ℕ)
heard c n = listed_word c (listed_heap c n)

module _ (c : PresentedSaid) (r : IsInRanges c) where
  last-heap : c.period ≡ 0 → (n : ℕ) → has_word c n ≡ true → n ≤ c.heaps
  last-heap none n has = elim (cases_lt c.heaps n) [
    | inl lt ↦
        absurd (true≢false (sym has ∙ ap (λ m. is_some (listed_word c m)) (far-none c r n lt none)))
    | inr le ↦ le
  ]

  -- from the last period of the list on words repeat
  repeats : 0 < c.period → WordsRepeat c (c.heaps - c.period + 1) c.period
  repeats some n le =
      let m = c.heaps - c.period + 1 in
      let few = r.period in
      let far_ : c.heaps < n + c.period = omega (arith, le, few, some) in
      let e : n + c.period - m ≡ (n - m) + c.period = omega (arith, le) in
      let same : listed_heap c (n + c.period) ≡ m + (n - m) % c.period =
      far-some c r (n + c.period) far_ some
      ∙ ap (λ x. m + x % c.period) e ∙ ap (λ x. m + x) (add-mod_right (n - m) c.period)
      in
      ap (listed_word c) (same ∙ sym (elim (cases_lt c.heaps n) [
        | inl lt ↦ far-some c r n lt some
        | inr less ↦
            near c r n less
            ∙ (let h : (n - m) % c.period ≡ n - m = mod-eq_of_lt (omega (arith, le, few, some, less)) in
            rw h (omega (arith, le)))
      ]))

  least : 0 < c.period → IsLeastList c → IsLeast (RepeatsFrom (heard c)) (c.heaps - c.period) c.period
  least some list = record {
    some = some;
    repeats = repeats some;
    least = list.least;
    earliest = λ pos rep.
        list.earliest some (omega (arith, pos))
        (λ n le. rep n (omega (arith, pos, le)));
  }

  -- heaps behind the list count without end, if one does
  endless : 0 < c.period → IsLeastList c → (m : ℕ) → (n : ℕ) × (m < n) × (has_word c n ≡ true)
  endless some list m =
      let (n, lt, has) = list.some some in
      let few = r.period in
      let e : heard c (n + m * c.period) ≡ heard c n =
      far (heard c) (c.heaps - c.period) c.period (repeats some) m n (omega (arith, lt, few)) in
      let high = most (heard c) m c.period some in
      (n + m * c.period, omega (arith, high, lt), ap is_some e ∙ has)

-- ---- two presentations

module _
    (c d : PresentedSaid) (rc : IsInRanges c) (rd : IsInRanges d) (lc : IsLeastList c) (ld : IsLeastList d)
    (same : (n : ℕ) → heard c n ≡ heard d n) where
  at-most : c.period ≡ 0 → d.period ≡ 0 → c.heaps ≤ d.heaps
  at-most zc zd =
      let has : has_word c c.heaps ≡ true =
      ap (λ m. is_some (listed_word c m)) (near c rc c.heaps (omega arith)) ∙ lc.last zc in
      last-heap d rd zd c.heaps (ap is_some (sym (same c.heaps)) ∙ has)

  never : c.period ≡ 0 → 0 < d.period → ⊥
  never zc some =
      let (n, lt, has) = endless d rd some ld c.heaps in
      let le = last-heap c rc zc n (ap is_some (same n) ∙ has) in
      omega (arith, lt, le)

  carried : IsLeast (RepeatsFrom (heard d)) (d.heaps - d.period) d.period
      → IsLeast (RepeatsFrom (heard c)) (d.heaps - d.period) d.period
  carried one = record {
    some = one.some;
    repeats = back (d.heaps - d.period) d.period one.repeats;
    least = λ q a b rep. one.least q a b (forth (d.heaps - d.period) q rep);
    earliest = λ a rep. one.earliest a (forth (d.heaps - d.period - 1) d.period rep);
  }
    where
      forth : (s p : ℕ) → RepeatsFrom (heard c) s p → RepeatsFrom (heard d) s p
      forth s p rep n le = sym (same (n + p)) ∙ rep n le ∙ same n

      back : (s p : ℕ) → RepeatsFrom (heard d) s p → RepeatsFrom (heard c) s p
      back s p rep n le = same (n + p) ∙ rep n le ∙ sym (same n)

both-same : (c d : PresentedSaid) → IsInRanges c → IsInRanges d → IsLeastList c → IsLeastList d
    → ((n : ℕ) → heard c n ≡ heard d n) → (c.heaps ≡ d.heaps) × (c.period ≡ d.period)
both-same c d rc rd lc ld same = elim (cases_eq c.period 0) [
  | inl zc ↦
      elim (cases_eq d.period 0) [
        | inl zd ↦
            let a = at-most c d rc rd lc ld same zc zd in
            let b = at-most d c rd rc ld lc (λ n. sym (same n)) zd zc in
            (omega (arith, a, b), zc ∙ sym zd)
        | inr some ↦ absurd (never c d rc rd lc ld same zc (omega (arith, some)))
      ]
  | inr sc ↦
      elim (cases_eq d.period 0) [
        | inl zd ↦ absurd (never d c rd rc ld lc (λ n. sym (same n)) zd (omega (arith, sc)))
        | inr sd ↦
            let e =
            one-period (heard c) (c.heaps - c.period) c.period (d.heaps - d.period) d.period
            (least c rc (omega (arith, sc)) lc)
            (carried c d rc rd lc ld same (least d rd (omega (arith, sd)) ld)) in
            let a = e.0 in let b = e.1 in let f = rc.period in let g = rd.period in
            (omega (arith, a, b, f, g), b)
      ]
]

pub one-list : (c d : PresentedSaid) → IsInRanges c → IsInRanges d → IsLeastList c → IsLeastList d
    → ((n : ℕ) → heard c n ≡ heard d n) → (c.heaps ≡ d.heaps) × (c.period ≡ d.period) × (c.words ≡ d.words)
one-list c d rc rd lc ld same =
    let e = both-same c d rc rd lc ld same in
    let heaps = e.0 in
    let one = rc.words.0 in
    let two = rd.words.0 in (
      heaps,
      e.1,
      ext_get_or None c.words d.words (omega (arith, one, two, heaps)) (λ i lt.
          sym (ap (listed_word c) (near c rc (suc i) (omega (arith, lt, one)))) ∙ same (suc i)
          ∙ ap (listed_word d) (near d rd (suc i) (omega (arith, lt, one, heaps)))),
    )

-- What is tested of a heap holds of the heap a period on.
-- A period is put on the largest heap that is left, or taken off it.
use Rattle.std.proofs.Common.{◌≡◌, ◌≢◌, ℕ, ◌+◌, ◌-◌, ◌*◌, ◌<◌, ◌≤◌, ◌⊎◌, true, List, [], ◌∷◌, length, sym, ◌∙◌, ap, subst, inl, inr, arith}
use Rattle.std.proofs.lemmas.Bool.Decides.{nat_tests}
use Rattle.misere_theory.specs.Games.{HeapOption, IsHeap, IsPosition}
use Rattle.misere_theory.proofs.Sums.{heaps_kept}
use Rattle.misere_theory.proofs.Shuffles.{Shuffled}
use Rattle.dominance.specs.Triples.{Triple, xor, IsElement, triple_of}
use Rattle.dominance.specs.Tested.{State, AreApart}
use Rattle.dominance.specs.Finite.{Extent, IsExtent, IsRaised, IsFar, heaps_from, is_listed}
use Rattle.dominance.proofs.Options.{heaps_from_shuffled, option_shuffled, option_raised, option_lowered, largest, none_left, largest_at_least, alone_at_least, times_two}
use Rattle.dominance.proofs.Positions.{element_of, triple_shuffled}
use Rattle.dominance.proofs.Periods.{far_off, far_all, weighs, few_weigh}
use Rattle.dominance.proofs.Raised.{raised_beside, apart_raised}

module _ (code : List ℕ) (label : ℕ → Triple) (kept : List State) (e : Extent)
    (extent : IsExtent code label kept e)
    (elements : (n : ℕ) → IsHeap n → IsElement (label n)) where
  -- a largest heap of what is left, first
  record HasLargest (n : ℕ) (H : List ℕ) : Type 0 where
    first : ℕ
    others : List ℕ
    order : Shuffled H (first ∷ others)
    option : HeapOption code n (first ∷ others)
    high : e.start + e.period ≤ first
    alone : heaps_from e.start H ≤ 1
        → (heaps_from e.start others ≡ 0) × (n ≤ e.digits + first + 2 * e.start)
        × (length others ≤ 2)

  has_largest : (n : ℕ) (H : List ℕ) → 3 * e.start + 3 * e.period + e.digits ≤ n
      → HeapOption code n H → HasLargest n H
  has_largest n [] far o =
      let l = none_left code e.digits extent.last_digit n o in
      let s = extent.some in
      absurd (omega arith)
  has_largest n (m ∷ X) far o =
      let (z, S, s, all) = largest m X in
      let k = option_shuffled s o in
      let l = largest_at_least code e.digits extent.last_digit n z S k all in
      let c = heaps_from_shuffled e.start s in
      let h : e.start + e.period ≤ z = omega arith in
      record {
        first = z;
        others = S;
        order = s;
        option = k;
        high = h;
        alone = λ few.
            let none : heaps_from e.start S ≡ 0 = only_one z S (omega arith) (omega arith) in
            let (a, b) = alone_at_least code e.digits extent.last_digit n z e.start S k none in
            (none, a, b);
      }
    where
      only_one : (z : ℕ) (S : List ℕ) → e.start ≤ z → heaps_from e.start (z ∷ S) ≤ 1
          → heaps_from e.start S ≡ 0
      only_one z S l c = grind (arith, nat_tests)

  -- a listed option of a heap from last on has one far heap, and few others beside it
  pub record IsRaisedTo (n : ℕ) (H : List ℕ) : Type 0 where
    pub to : List ℕ
    pub option : HeapOption code (e.period + n) to
    pub listed : is_listed e.start to ≡ true
    pub raised : IsRaised e.rise (triple_of label H) (triple_of label to)
    pub far : IsFar (e.rise + e.loss + 2) (triple_of label H)

  module _ (z : ℕ) (S : List ℕ) (p : IsPosition IsHeap S) (none : heaps_from e.start S ≡ 0)
      (many : length S ≤ 2) (high : e.large ≤ z) where
    few_others : (triple_of label S).weight ≤ 2 * e.few
    few_others =
        let w = few_weigh code label kept e extent S p none in
        let v = times_two (length S) e.few many in
        omega arith

    led_by_few : (triple_of label S).lead ≤ (triple_of label S).weight
    led_by_few = elim (element_of label elements S p) [ inl f ↦ omega arith | inr f ↦ omega arith ]

    raised_part : IsRaised e.rise (triple_of label (z ∷ S)) (triple_of label ((e.period + z) ∷ S))
    raised_part =
        let f = far_all code label kept e extent z high in
        let (w, l) = f in
        let a = few_others in
        let b = led_by_few in
        raised_beside e.rise extent.rises.1 (label z) (label (e.period + z))
        (extent.repeats z (let s = extent.from_start in omega arith)) (triple_of label S)
        (omega arith)
        (elim l [ inl h ↦ inl h | inr h ↦ inr (omega arith) ])

    far_part : IsFar (e.rise + e.loss + 2) (triple_of label (z ∷ S))
    far_part =
        let (w, l) = far_all code label kept e extent z high in
        let a = few_others in
        let b = led_by_few in
        (omega arith, elim l [ inl h ↦ inl (omega arith) | inr h ↦ inr (omega arith) ])

  listed_one : (z : ℕ) (S : List ℕ) → heaps_from e.start S ≡ 0 → is_listed e.start (z ∷ S) ≡ true
  listed_one z S none = grind (arith, nat_tests)

  listed_few : (H : List ℕ) → is_listed e.start H ≡ true → heaps_from e.start H ≤ 1
  listed_few H t = grind (arith, nat_tests)

  pub raised_option : (n : ℕ) (H : List ℕ) → IsHeap n → e.last ≤ n → HeapOption code n H
      → is_listed e.start H ≡ true → IsRaisedTo n H
  raised_option n H is_heap far o listed =
      let b = extent.beyond in
      let h = has_largest n H (omega arith) o in
      let (none, size, many) = h.alone (listed_few H listed) in
      let p = heaps_kept code n (h.first ∷ h.others) is_heap h.option in
      let high : e.large ≤ h.first = omega arith in
      let same = triple_shuffled label h.order in
      record {
        to = (e.period + h.first) ∷ h.others;
        option = option_raised code e.period n h.first h.others h.option;
        listed = listed_one (e.period + h.first) h.others none;
        raised = subst (λ u. IsRaised e.rise u (triple_of label ((e.period + h.first) ∷ h.others)))
            (sym same) (raised_part h.first h.others p.1 none many high);
        far = subst (λ u. IsFar (e.rise + e.loss + 2) u) (sym same)
            (far_part h.first h.others p.1 none many high);
      }

  -- any option of a heap from last on is raised to one
  pub some_option : (n : ℕ) (H : List ℕ) → e.last ≤ n → HeapOption code n H
      → (L : List ℕ) × HeapOption code (e.period + n) L
  some_option n H far o =
      let b = extent.beyond in
      let h = has_largest n H (omega arith) o in
      ((e.period + h.first) ∷ h.others, option_raised code e.period n h.first h.others h.option)

  -- what is tested of options
  abbrev pub OptionsAreApart : ℕ → Type 0
  OptionsAreApart n =
      (H : List ℕ) → HeapOption code n H → AreApart (label n) (triple_of label H)
      × ((heaps_from e.start H ≤ 1) ⊎ ((label n).odd ≢ (triple_of label H).odd))

  apart_by_parity : (u v : Triple) → u.odd ≢ v.odd → 0 < u.weight → 0 < v.weight → AreApart u v
  apart_by_parity u v odd some other =
      inl (odd, λ e l. absurd (omega arith), λ e l. absurd (omega arith))

  one_less : (z f : ℕ) (S : List ℕ) → e.start ≤ z → e.start ≤ f → heaps_from e.start (z ∷ S) ≤ 1
      → heaps_from e.start (f ∷ S) ≤ 1
  one_less z f S l m c = grind (arith, nat_tests)

  nearer : (far : ℕ) (u : Triple) → 2 ≤ far → IsFar far u → IsFar 2 u
  nearer far u l (w, f) = (omega arith, elim f [ inl h ↦ inl h | inr h ↦ inr (omega arith) ])

  weighs_part : (z : ℕ) (S : List ℕ) → 0 < (label z).weight → 0 < (triple_of label (z ∷ S)).weight
  weighs_part z S l = omega arith

  pub apart_further : (n : ℕ) → IsHeap n → e.last ≤ n → OptionsAreApart n
      → OptionsAreApart (e.period + n)
  apart_further n is_heap far all H o =
      let b = extent.beyond in
      let s = extent.from_start in
      let h = has_largest (e.period + n) H (omega arith) o in
      let z = h.first - e.period in
      let back : e.period + z ≡ h.first = omega arith in
      let at = subst (λ x. HeapOption code (e.period + n) (x ∷ h.others)) (sym back) h.option in
      let f = extent.from_one in
      let k = option_lowered code e.period n z h.others (omega arith) at in
      let same : triple_of label H ≡ triple_of label ((e.period + z) ∷ h.others) =
      triple_shuffled label h.order ∙ ap (λ x. triple_of label (x ∷ h.others)) (sym back) in
      let first = extent.repeats n (omega arith) in
      let second = extent.repeats z (omega arith) in
      let heavy : 0 < (label (e.period + n)).weight =
      weighs code label kept e extent n (omega arith) in
      let weight : 0 < (triple_of label H).weight =
      subst (λ u. 0 < u.weight) (sym same)
      (weighs_part (e.period + z) h.others (weighs code label kept e extent z (omega arith))) in
      let parity : (label n).odd ≢ (triple_of label (z ∷ h.others)).odd
      → (label (e.period + n)).odd ≢ (triple_of label H).odd =
      λ differ eq. differ (first.0 ∙ eq ∙ ap (λ u. u.odd) same
      ∙ ap (λ a. xor a (triple_of label h.others).odd) (sym second.0)) in
      let (apart, few) = all (z ∷ h.others) k in
      elim few [
        | inr odd ↦ (
          apart_by_parity (label (e.period + n)) (triple_of label H) (parity odd) heavy weight,
          inr (parity odd),
        )
        | inl one ↦
            let c = heaps_from_shuffled e.start h.order in
            let d = one_less z h.first h.others (omega arith) (omega arith) one in
            let counted : heaps_from e.start H ≤ 1 = omega arith in
            let (none, size, many) = h.alone counted in
            let p = heaps_kept code n (z ∷ h.others) is_heap k in (
              subst (λ u. AreApart (label (e.period + n)) u) (sym same)
                  (apart_raised e.rise (label n) (label (e.period + n)) (triple_of label (z ∷ h.others))
                  (triple_of label ((e.period + z) ∷ h.others)) first
                  (raised_part z h.others p.1 none many (omega arith)) heavy
                  (subst (λ u. 0 < u.weight) same weight)
                  (nearer (far_off code label kept e extent) (label n) (omega arith) (far_all code label kept e extent n (omega arith)))
                  (nearer (e.rise + e.loss + 2) (triple_of label (z ∷ h.others)) (omega arith) (far_part z h.others p.1 none many (omega arith)))
                  apart),
              inl counted,
            )
      ]

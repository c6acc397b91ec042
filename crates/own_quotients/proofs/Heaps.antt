-- The heaps of which a presentation speaks that leaves none of its list out.
use Rattle.std.proofs.Common.{◌≡◌, ◌↔◌, ◌∙◌, ◌<◌, ◌≤◌, ◌+◌, ◌-◌, ◌%◌, ℕ, true, false, ap, sym, refl, subst, arith, inl, inr, eq-zero-or-pos, mod-lt, ne_eqb}
use Rattle.std.specs.Prelude.{is_some}
use Rattle.std.proofs.lemmas.Bool.{true≢false, cases_lt, lt-ltb}
use Rattle.misere_theory.specs.Kinds.{IsHeapIn}
use Rattle.presented_text.specs.Said.{PresentedSaid, IsInRanges}
use Rattle.presented_claims.specs.Claims.{has_word, listed_heap, listed_word}
use Rattle.presented_tables.specs.Tested.{HasWord}
use Rattle.presented_checker.proofs.Lists.{has-size, in-list}
use Rattle.own_quotients.specs.Same.{last_heap}

module _ (c : PresentedSaid) (ranges : IsInRanges c)
    (all : (n : ℕ) → 1 ≤ n → n ≤ c.heaps → has_word c n ≡ true) where
  none_past : c.period ≡ 0 → (n : ℕ) → c.heaps < n → has_word c n ≡ false
  none_past none n lt =
      let out : listed_heap c n ≡ 0 = rw (lt-ltb c.heaps n lt, none) refl in
      ap (λ m. is_some (listed_word c m)) (out ∙ sym (in-list c 0 (omega arith))) ∙ no_nothing
    where
      no_nothing : has_word c 0 ≡ false
      no_nothing = ap (λ m. is_some (listed_word c m)) (in-list c 0 (omega arith))

  up_to_last : c.period ≡ 0 → (n : ℕ) → HasWord c n → n ≤ c.heaps
  up_to_last none n has = elim (cases_lt c.heaps n) [
    | inl lt ↦ absurd (true≢false (sym has ∙ none_past none n lt))
    | inr le ↦ le
  ]

  from_one : 0 < c.period → (n : ℕ) → 1 ≤ n → HasWord c n
  from_one some n one = elim (cases_lt c.heaps n) [
    | inl lt ↦
        let s = c.heaps - c.period + 1 in
        let r = (n - s) % c.period in
        let few = ranges.period in
        let small : r < c.period = mod-lt (n - s) some in
        let far : listed_heap c n ≡ s + r =
        rw (lt-ltb c.heaps n lt, ne_eqb c.period 0 (λ e. omega (arith, e, some))) refl in
        ap (λ m. is_some (listed_word c m)) (far ∙ sym (in-list c (s + r) (omega arith)))
        ∙ all (s + r) (omega arith) (omega arith)
    | inr le ↦ all n one le
  ]

  pub heaps_are : (n : ℕ) → IsHeapIn (last_heap c) n ↔ HasWord c n
  heaps_are n = elim (eq-zero-or-pos c.period) [
    | inl none ↦
        let e : last_heap c ≡ c.heaps = rw none refl in
        let some = ranges.heaps.0 in
        subst (λ M. IsHeapIn M n ↔ HasWord c n) (sym e) (
          λ h. all n h.0 (h.1 (omega (arith, some))),
          λ has. (has-size c n has, λ _. up_to_last none n has),
        )
    | inr some ↦
        let e : last_heap c ≡ 0 = rw (ne_eqb c.period 0 (λ z. omega (arith, z, some))) refl in
        subst (λ M. IsHeapIn M n ↔ HasWord c n) (sym e) (
          λ h. from_one some n h.0,
          λ has. (has-size c n has, λ z. absurd (omega (arith, z))),
        )
  ]

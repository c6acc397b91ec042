-- Covering, number by number; products respect it.
use Rattle.std.proofs.Common.{◌≡◌, ℕ, Bool, true, false, not, refl, sym, ap, ◌∙◌, subst, inl, inr, eqb-true, eq-eqb}
use Rattle.std.proofs.lemmas.Bool.{and_from, and_parts, or_cases, or_left, or_right}
use Rattle.std.specs.Cmp.{nat_cmp_total}
use Rattle.std.specs.FinSet as set
use Rattle.std.specs.FinSet.{is_subset-contains, contains-is_subset}
use Rattle.monoid_table.specs.Grids.{Grid, times_in}
use Rattle.monoid_table.specs.Tables.{IsTableGrid}
use Rattle.transition_algebra.specs.OverSets.{Pair}
use Rattle.transition_algebra.specs.Pairs.{IsPair, times, covers}
use Rattle.transition_algebra.specs.PairLaws.{has, empty_has, times_has, has_left, has_right}
use Rattle.pair_closure.proofs.OptionLaws.{some_or_empty}
use Rattle.pair_closure.proofs.Lists.{not_both}

pub record Covering (p r : Pair) : Type 0 where
  pub value : p.value ≡ r.value
  pub among : (q : ℕ) → has p.options q → has r.options q
  pub some : (q : ℕ) → has r.options q → (x : ℕ) × has p.options x

pub covering : (p r : Pair) → covers p r ≡ true → Covering p r
covering p r e =
    let a = and_parts _ _ e in
    let b = and_parts _ _ a.1 in
    record {
      value = eqb-true _ _ a.0;
      among = is_subset-contains nat_cmp_total p.options r.options b.0;
      some = λ q h. elim (some_or_empty p.options) [
        | inl w ↦ w.1
        | inr w ↦ elim (or_cases _ _ b.1) [
          | inl t ↦ absurd
              (empty_has q (is_subset-contains nat_cmp_total r.options set.empty t q h))
          | inr t ↦ absurd (not_both (sym (ap not w.0) ∙ t) refl)
        ]
      ];
    }

pub covers_from : (p r : Pair) → Covering p r → covers p r ≡ true
covers_from p r c =
    and_from _ _ (eq-eqb _ _ c.value)
    (and_from _ _ (contains-is_subset nat_cmp_total p.options r.options c.among)
    (elim (some_or_empty r.options) [
      | inr w ↦ or_left _ _ w.0
      | inl w ↦ let (x, h) = c.some w.1.0 w.1.1 in
          or_right _ _
          (elim (some_or_empty p.options) [ inl u ↦ ap not u.0 | inr u ↦ absurd (u.1 x h) ])
    ]))

pub covers_itself : (p : Pair) → covers p p ≡ true
covers_itself p = covers_from p p (record { value = refl; among = λ y h. h; some = λ y h. (y, h) })

pub covers_trans : (p r u : Pair) → covers p r ≡ true → covers r u ≡ true → covers p u ≡ true
covers_trans p r u d e =
    let f = covering p r d in
    let g = covering r u e in
    covers_from p u
    (record {
      value = f.value ∙ g.value;
      among = λ y h. g.among y (f.among y h);
      some = λ y h. let (x, k) = g.some y h in f.some x k;
    })

pub covers_grows : (t : Grid) → IsTableGrid t → (p r u : Pair) → IsPair t.order p → IsPair t.order r
    → IsPair t.order u → covers p r ≡ true → covers (times t p u) (times t r u) ≡ true
covers_grows t lawful p r u a b c d =
    let f = covering p r d in
    covers_from (times t p u) (times t r u) (record {
      value = ap (λ v. times_in t v u.value) f.value;
      among = λ y h. elim (times_has t lawful p u y h) [
        | inl (x, k, e) ↦ subst (has (times t r u).options) (ap (λ v. times_in t v x) (sym f.value)
            ∙ e) (has_right t lawful r u c x k)
        | inr (x, k, e) ↦ subst (has (times t r u).options) e
            (has_left t lawful r u b x (f.among x k))
      ];
      some = λ y h. elim (times_has t lawful r u y h) [
        | inl (x, k, e) ↦ (times_in t p.value x, has_right t lawful p u c x k)
        | inr (x, k, e) ↦ let (z, l) = f.some x k in
            (times_in t u.value z, has_left t lawful p u a z l)
      ];
    })

-- What is looked at of a heap and a value, and what is handed out of it.
use Rattle.std.proofs.Common.{◌≡◌, ℕ, zero, suc, ◌+◌, ◌<◌, ◌≤◌, Bool, true, false, nat_lt, cond, List, [], ◌∷◌, length, slice_index_or, refl, sym, ◌∙◌, ap, subst, arith}
use Rattle.std.specs.FinSet as set
use Rattle.std.proofs.lemmas.List.Elements.{All-get_or}
use native.Mathlib.Decide.{dec_lt}
use Rattle.misere_theory.specs.Games.{IsPosition}
use Rattle.misere_theory.specs.Quotients.{value, HeapOptionValue, Monoid}
use Rattle.misere_theory.specs.Certificates.{IsHeapOf, Certificate, InRanges, Canonical, claim_of, times_of, phi_at, key_of}
use Rattle.misere_theory.proofs.Written.{phi_in, key_counts}
use Rattle.misere_theory.proofs.Shuffles.{Shuffled}
use Rattle.misere_theory.proofs.Shuffles.Shuffled.{Same, Under, Flip, Then}
use Rattle.transition_algebra.specs.OverSets.{Pair}
use Rattle.transition_algebra.specs.Pairs.{IsPair}
use Rattle.pair_closure.specs.Positions.{put, rising}
use Rattle.check_machine.specs.Closings.{ObeysAt, LeadsIn}
use Rattle.check_machine.specs.Turns.{holds, first_from, leads_in, keys_from}
use Rattle.check_machine.proofs.SortLaws.{keys_none, keys_some}
use Rattle.check_machine.proofs.TrueTests.{opposite, both, is_not}
use Rattle.check_machine.proofs.TruePhases.{LooksSoFar}

-- the same heaps, rising
put_by : (h x : ℕ) (xs : List ℕ) (b : Bool) → Shuffled (h ∷ xs) (put h xs)
    → Shuffled (h ∷ x ∷ xs) (cond b (x ∷ put h xs) (h ∷ x ∷ xs))
put_by h x xs true s = Then Flip (Under s)
put_by h x xs false s = Same

put_shuffled : (h : ℕ) (xs : List ℕ) → Shuffled (h ∷ xs) (put h xs)
put_shuffled h [] = Same
put_shuffled h (x ∷ xs) = put_by h x xs (nat_lt x h) (put_shuffled h xs)

pub shuffled_rising : (xs : List ℕ) → Shuffled xs (rising xs)
shuffled_rising [] = Same
shuffled_rising (h ∷ xs) = Then (Under (shuffled_rising xs)) (put_shuffled h (rising xs))

-- what a search for the first says
first_by : (has : ℕ → Bool) (a n : ℕ) (v : Bool) → has a ≡ v
    → (first_from has (a + 1) n < a + 1 + n → has (first_from has (a + 1) n) ≡ true)
    → first_from has a (suc n) < a + suc n → has (first_from has a (suc n)) ≡ true
unfolding first_from
first_by has a n true e more l = rw e e
first_by has a n false e more l = let k : first_from has (a + 1) n < a + suc n = rw e at l in
    rw e (more (omega arith))

pub first_has : (has : ℕ → Bool) (a n : ℕ) → first_from has a n < a + n
    → has (first_from has a n) ≡ true
unfolding first_from
first_has has a zero l = absurd (omega arith)
first_has has a (suc n) l = first_by has a n (has a) refl (first_has has (a + 1) n) l

none_by : (has : ℕ → Bool) (a n : ℕ) (v : Bool) → has a ≡ v
    → (a + 1 + n ≤ first_from has (a + 1) n → (x : ℕ) → a + 1 ≤ x → x < a + 1 + n → has x ≡ false)
    → a + suc n ≤ first_from has a (suc n) → (x : ℕ) → a ≤ x → x < a + suc n → has x ≡ false
unfolding first_from
none_by has a n true e more l x u w = absurd (let k : a + suc n ≤ a = rw e at l in omega arith)
none_by has a n false e more l x u w =
    let k : a + suc n ≤ first_from has (a + 1) n = rw e at l in
    elim (dec_lt a x) [
      | yes b ↦ more (omega arith) x (omega arith) (omega arith)
      | no f ↦ (let d : a ≡ x = omega (arith, f) in subst (λ m. has m ≡ false) d e)
    ]

pub first_none : (has : ℕ → Bool) (a n : ℕ) → a + n ≤ first_from has a n → (x : ℕ) → a ≤ x
    → x < a + n → has x ≡ false
first_none has a zero l x u w = absurd (omega arith)
first_none has a (suc n) l x u w = none_by has a n (has a) refl (first_none has (a + 1) n) l x u w

-- the keys of an element spell a position that has its value
module _ (c : Certificate) (r : InRanges c) (m : Monoid c.order (times_of c)) (k : Canonical c)
  where
    spell_none : (n e : ℕ) → 0 ≡ e → IsPosition (IsHeapOf c) (keys_from c n e)
        × (value (claim_of c) (keys_from c n e) ≡ e)
    spell_none n e d =
        subst (λ v. IsPosition (IsHeapOf c) (keys_from c n v)
        × (value (claim_of c) (keys_from c n v) ≡ v))
        d
        (subst (λ X. IsPosition (IsHeapOf c) X × (value (claim_of c) X ≡ 0)) (sym (keys_none c n))
        (tt, refl))

    pub keys_spell : (n e : ℕ) → e ≤ n → e < c.order → IsPosition (IsHeapOf c) (keys_from c n e)
        × (value (claim_of c) (keys_from c n e) ≡ e)
    keys_spell zero e l b = spell_none zero e (omega arith)
    keys_spell (suc n) e l b = elim (dec_lt 0 e) [
      | no f ↦ spell_none (suc n) e (omega (arith, f))
      | yes p ↦
          let f = (key_of c e).0 in
          let h = (key_of c e).1 in
          let up = k.numbered.parent e p b in
          let (x, v) = keys_spell n f (omega arith) (omega arith) in
          let heap = key_counts c r e k.numbered p b in
          let is : value (claim_of c) (h ∷ keys_from c n f) ≡ e =
          ap (times_of c (phi_at c h)) v
          ∙ (m.commutes (phi_at c h) f (phi_in c r h) (omega arith) ∙ k.numbered.product e p b) in
          subst (λ X. IsPosition (IsHeapOf c) X × (value (claim_of c) X ≡ e)) (sym (keys_some c n e p))
          ((heap, x), is)
    ]

abbrev pub blank : Pair
blank = record { value = 0; options = set.empty }

-- one heap and value more
module _ (c : Certificate) (r : InRanges c) (pairs : List Pair) (i h : ℕ)
    (e : LooksSoFar c pairs i h) (l : i < length pairs) where
  abbrev pub here : Pair
  here = slice_index_or pairs i blank

  pub leads : (y : ℕ) → leads_in c here h y ≡ true → LeadsIn c (i + 1) y
  leads y t =
      let q = e.exact.exact.each i blank l in
      let (o, u) = both (set.contains here.options h) _ t in
      let (a, b) = both (holds c (times_of c here.value y)) (holds c (times_of c h y)) u in (
        h,
        (q.options_are h).0 o,
        subst (λ n. (claim_of c).portion (times_of c n y) ≡ true)
            q.value_is a,
        b,
      )

  pub obeyed : ((y : ℕ) → y < c.order → leads_in c here h y ≡ false) → ObeysAt c (i + 1) h
  obeyed none o y b t =
      let q = e.exact.exact.each i blank l in
      let has : set.contains here.options h ≡ true = (q.options_are h).1 o in
      let a : holds c (times_of c here.value y) ≡ true =
      subst (λ n. (claim_of c).portion (times_of c n y) ≡ true) (sym q.value_is) t in
      is_not (holds c (times_of c h y))
      (λ u. let x : leads_in c here h y ≡ true = rw (has, a, u) refl in opposite x (none y b))

  pub option_below : (x : ℕ) → HeapOptionValue c.code (claim_of c) (i + 1) x → x < c.order
  option_below x o =
      (All-get_or (IsPair c.order) pairs i blank l e.exact.within).options x
      (((e.exact.exact.each i blank l).options_are x).1 o)

  pub value_turn : ObeysAt c (i + 1) h → h + 1 < c.order → LooksSoFar c pairs i (h + 1)
  value_turn o b = record {
    exact = e.exact;
    place = e.place;
    value = b;
    heaps = e.heaps;
    heap =
        λ g k.
        elim (dec_lt g h) [
          | yes s ↦ e.heap g s
          | no f ↦ (let d : h ≡ g = omega (arith, f) in
              subst (ObeysAt c (i + 1)) d o)
        ];
  }

  pub heap_turn : ObeysAt c (i + 1) h → h + 1 ≡ c.order → LooksSoFar c pairs (i + 1) 0
  heap_turn o w = record {
    exact = e.exact;
    place = omega arith;
    value = omega arith;
    heaps = λ n g p b. elim (dec_lt i n) [
      | no f ↦ e.heaps n g p (omega (arith, f))
      | yes s ↦
          let d : i + 1 ≡ n = omega arith in
          subst (λ m. ObeysAt c m g) d (λ x.
          let below = option_below g x in
          elim (dec_lt g h) [
            | yes u ↦ e.heap g u x
            | no f ↦ (let k : h ≡ g = omega (arith, f) in
                subst (ObeysAt c (i + 1)) k o x)
          ])
    ];
    heap = λ g b. absurd (omega arith);
  }

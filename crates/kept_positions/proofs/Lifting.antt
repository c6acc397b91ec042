-- Where the numbers of positions pass their test, the positions are kept, with any more of the heaps that are free.
use Rattle.std.proofs.Common.{◌≡◌, ℕ, ◌<◌, ◌≤◌, ◌⊎◌, List, [], ◌∷◌, ◌++◌, refl, sym, ◌∙◌, ap, ap₂, subst, inl, inr, arith, slice_index, length, eq-zero-or-pos}
use Rattle.misere_theory.specs.Games.{IsPosition}
use Rattle.misere_theory.specs.Parts.{IsPart}
use Rattle.misere_theory.specs.Labels.{LabelClaim, label_of, AreLabels}
use Rattle.misere_theory.proofs.Sums.{IsPosition-append, label_in, label-append}
use Rattle.kept_positions.specs.Kept.{IsBadBeside, IsMovable, weight_by, IsCoveredBy, AreKept, AreNeverBad}
use Rattle.kept_positions.proofs.NoneBad.{all_heaps, none_is_bad}
use Rattle.kept_positions.proofs.Bad.{bad_parts, bad_sum}
use Rattle.kept_positions.specs.Numbers.{LabelTables, ClassTurns, KeptPositions, IsFree, DoesTurn, IsBadAt, IsBadWith, label_with, IsCoveredAt, Comes, IsClosedWith, AreFamiliesTested, AreFoundTested, no_turns}
use Rattle.kept_positions.specs.Numbers.IsCoveredAt.{Empty, By}
use Rattle.kept_positions.specs.Numbering.{Numbering, weight_in, AreTablesOf}
use Rattle.kept_positions.proofs.Positions.{one_label, IsFoundAt, grown_label, grown_bad, bad_with, found_at}
use Rattle.kept_positions.proofs.Free.{weight_by-append, nothing_before, swap_last, IsFreeHeap, free_movable, free_heaps, free_onward, family_good}

nothing_first : (n : ℕ) (Y : List ℕ) → [] ≡ n ∷ Y → ⊥
nothing_first n Y e = let l = ap length e in omega (arith, l)

module _
    {L : Type 0} (IsLabel : L → Type 0) (c : LabelClaim L) (m : AreLabels IsLabel c.one c.times)
    (heap : ℕ → Type 0) (labels : (n : ℕ) → heap n → IsLabel (c.label n))
    (code : List ℕ) (part : IsPart heap code)
    (b : Numbering L) (t : LabelTables) (k : KeptPositions) (d : AreTablesOf IsLabel heap code c b t)
    (u : ClassTurns)
    (turned : (i g : ℕ) (x : L) → IsFree t k i g → IsLabel x → g < t.heaps
    → DoesTurn t u (b.class x) g (b.class (c.times x (c.label (b.size g)))))
    (f : AreFamiliesTested t u k) where
  abbrev At : ℕ → Type 0
  At i = IsFoundAt IsLabel c m heap labels code part b t k d i

  abbrev Free : ℕ → ℕ → Type 0
  Free i = IsFreeHeap IsLabel c m heap labels code part b t k d i

  found : (i : ℕ) → i < k.count → At i
  found i h = found_at IsLabel c m heap labels code part b t k d u f i h

  in_heaps : (i : ℕ) (R : List ℕ) → IsPosition (Free i) R → IsPosition heap R
  in_heaps i R p = free_heaps IsLabel c m heap labels code part b t k d i R p

  good : (i : ℕ) → 1 ≤ i → i < k.count → (s : At i) (R : List ℕ) → IsPosition (Free i) R
      → IsBadBeside code c c.one (R ++ s.at) → ⊥
  good = family_good IsLabel c m heap labels code part b t k d u turned f

  -- A position that comes to one that is found, and some of the heaps that are free at it: these together have its
  -- label, are no heavier, and bad wherever it is.
  record ComesTo (Z : List ℕ) : Type 0 where
    i : ℕ
    i_in : i < k.count
    is : At i
    more : List ℕ
    free : IsPosition (Free i) more
    same : label_of c (more ++ is.at) ≡ label_of c Z
    lighter : weight_by (weight_in t b) (more ++ is.at) ≤ weight_by (weight_in t b) Z
    worse : (x : L) → IsLabel x → IsBadBeside code c x Z → IsBadBeside code c x (more ++ is.at)
    never : (n : ℕ) (Y : List ℕ) → Z ≡ n ∷ Y → IsBadBeside code c c.one Z → ⊥

  bad_found : (j : ℕ) (s : At j) → 0 < j → (x : L) → IsLabel x → IsBadAt t k j (b.class x)
      → IsBadBeside code c x s.at
  bad_found j s some x l bad =
      s.all_bad some x l (λ o e. (d.bad x (slice_index k.others o) (slice_index k.heaps o) l (s.others_in o e) (s.heaps_in o e)).0
      (bad o e))

  -- A heap more beside such a position.
  module _ (n : ℕ) (Z : List ℕ) (p : IsPosition (IsMovable heap code) (n ∷ Z)) (s : ComesTo Z) where
    abbrev number_in : b.number n < t.heaps
    number_in = d.numbers n p.0

    abbrev heap_in : heap (b.size (b.number n))
    heap_in = (d.sizes (b.number n) number_in).0.0

    one_in : IsPosition heap (n ∷ [])
    one_in = (p.0.0, tt)

    rest_in : IsPosition heap Z
    rest_in = all_heaps heap code Z p.1

    more_in : IsPosition heap s.more
    more_in = in_heaps s.i s.more s.free

    at_in : IsPosition heap s.is.at
    at_in = all_heaps heap code s.is.at s.is.in_at

    both_in : IsPosition heap (s.more ++ s.is.at)
    both_in = IsPosition-append heap s.more s.is.at more_in at_in

    label_is : (X : List ℕ) → IsPosition heap X → IsLabel (label_of c X)
    label_is X q = label_in IsLabel c m heap labels X q

    beside : (x : L) (X : List ℕ) → IsLabel x → IsPosition heap X → IsLabel (c.times x (label_of c X))
    beside x X l q = m.closed x (label_of c X) l (label_is X q)

    same_heap : label_of c (n ∷ []) ≡ c.label (b.size (b.number n))
    same_heap = one_label IsLabel c m heap labels code part b t k d n p.0.0 ∙ d.same_label n p.0

    -- the heap beside that position and the free heaps
    bad_added : (x : L) → IsLabel x → IsBadBeside code c x (n ∷ Z)
        → IsBadBeside code c x (n ∷ (s.more ++ s.is.at))
    bad_added x l bad =
        let q = bad_parts IsLabel c m heap labels code part x (n ∷ []) Z l one_in rest_in bad in
        bad_sum IsLabel c m heap labels code part x (n ∷ []) (s.more ++ s.is.at) l one_in both_in
        (subst (λ v. IsBadBeside code c (c.times x v) (n ∷ [])) (sym s.same) q.0)
        (s.worse (c.times x (label_of c (n ∷ []))) (beside x (n ∷ []) l one_in) q.1)

    same_parts : label_of c (s.more ++ s.is.at) ≡ c.times (label_of c s.more) (label_of c s.is.at)
    same_parts = label-append IsLabel c m heap labels s.more s.is.at more_in at_in

    abbrev grown : List ℕ
    grown = b.size (b.number n) ∷ s.is.at

    -- the free heaps' label times that of the position with the heap
    same_grown : c.times (label_of c s.more) (label_of c grown) ≡ label_of c (n ∷ Z)
    same_grown =
        sym (m.associates _ _ _ (label_is s.more more_in) (labels _ heap_in) (label_is s.is.at at_in))
        ∙ ap (λ v. c.times v (label_of c s.is.at)) (m.commutes _ _ (label_is s.more more_in) (labels _ heap_in))
        ∙ m.associates _ _ _ (labels _ heap_in) (label_is s.more more_in) (label_is s.is.at at_in)
        ∙ ap₂ c.times (sym (d.same_label n p.0)) (sym same_parts ∙ s.same)

    -- the position with the heap is bad beside the free heaps, and these are beside it
    bad_grown : (x : L) → IsLabel x → IsBadBeside code c x (n ∷ Z)
        → IsBadBeside code c (c.times x (label_of c s.more)) grown
        × IsBadBeside code c (c.times x (label_of c grown)) s.more
    bad_grown x l bad =
        let h = c.label (b.size (b.number n)) in
        let hl = labels (b.size (b.number n)) heap_in in
        let r = label_of c s.more in
        let rl = label_is s.more more_in in
        let a = label_of c s.is.at in
        let al = label_is s.is.at at_in in
        let xh = m.closed x h l hl in
        let q =
        bad_parts IsLabel c m heap labels code part x (n ∷ []) (s.more ++ s.is.at) l one_in both_in (bad_added x l bad)
        in
        let rest : IsBadBeside code c (c.times x h) (s.more ++ s.is.at) =
        subst (λ v. IsBadBeside code c (c.times x v) (s.more ++ s.is.at)) same_heap q.1 in
        let w = bad_parts IsLabel c m heap labels code part (c.times x h) s.more s.is.at xh more_in at_in rest in
        let first : IsBadBeside code c (c.times (c.times x r) a) (n ∷ []) =
        subst (λ v. IsBadBeside code c v (n ∷ [])) (ap (c.times x) same_parts ∙ sym (m.associates x r a l rl al)) q.0 in
        let xr = m.closed x r l rl in (
          grown_bad IsLabel c m heap labels code part b t k d s.i (b.number n) s.is number_in (c.times x r) xr
              (subst (λ v. IsBadBeside code c (c.times (c.times x r) v) (b.size (b.number n) ∷ [])) (sym s.is.same_label)
              (d.worst n (c.times (c.times x r) a) p.0 (m.closed (c.times x r) a xr al) first))
              (subst (λ v. IsBadBeside code c v s.is.at) (swap_last IsLabel c m x h r l hl rl) w.1),
          subst (λ v. IsBadBeside code c v s.more) (m.associates x h a l hl al) w.0,
        )

    numbers_bad : (x : L) → IsLabel x → IsBadBeside code c x (n ∷ Z)
        → IsBadWith t k s.i (b.number n) (b.class (c.times x (label_of c s.more)))
    numbers_bad x l bad =
        bad_with IsLabel c m heap labels code part b t k d s.i (b.number n) s.is number_in
        (c.times x (label_of c s.more)) (beside x s.more l more_in) (bad_grown x l bad).0

    -- the heap is free
    added : IsFree t k s.i (b.number n) → ComesTo (n ∷ Z)
    added free =
        let all : IsPosition (Free s.i) (n ∷ s.more) = (record { movable = p.0; free = free }, s.free) in
        let w = s.lighter in record {
          i = s.i;
          i_in = s.i_in;
          is = s.is;
          more = n ∷ s.more;
          free = all;
          same = ap (c.times (c.label n)) s.same;
          lighter = omega arith;
          worse = bad_added;
          never = λ _ _ _ bad. elim (eq-zero-or-pos s.i) [
            | inl e ↦ f.none_free (b.number n) number_in (subst (λ v. IsFree t k v (b.number n)) e free)
            | inr some ↦ good s.i some s.i_in s.is (n ∷ s.more) all (bad_added c.one m.some bad)
          ];
        }

    -- it isn't
    module _ (w : IsClosedWith t k s.i (b.number n)) where
      named : b.label (label_with t k s.i (b.number n)) ≡ label_of c grown
      named =
          grown_label IsLabel c m heap labels code part b t k d s.i (b.number n) s.is number_in w.label_in

      -- a position of that label, in place of that one with the heap
      same_with : (V : List ℕ) → IsPosition heap V → label_of c V ≡ label_of c grown
          → label_of c (s.more ++ V) ≡ label_of c (n ∷ Z)
      same_with V q e =
          label-append IsLabel c m heap labels s.more V more_in q
          ∙ ap (c.times (label_of c s.more)) e ∙ same_grown

      bad_in_place : (x : L) → IsLabel x → (V : List ℕ) → IsPosition heap V → label_of c V ≡ label_of c grown
          → IsBadBeside code c x (n ∷ Z) → IsBadBeside code c (c.times x (label_of c s.more)) V
          → IsBadBeside code c x (s.more ++ V)
      bad_in_place x l V q e bad other =
          bad_sum IsLabel c m heap labels code part x s.more V l more_in q
          (subst (λ v. IsBadBeside code c (c.times x v) s.more) (sym e) (bad_grown x l bad).1) other

      onward : (j : ℕ) → Comes t k s.i (b.number n) j → ComesTo (n ∷ Z)
      onward j to =
          let v = found j to.found in
          let v_in = all_heaps heap code v.at v.in_at in
          let e : label_of c v.at ≡ label_of c grown = sym v.same_label ∙ ap b.label to.label ∙ named in
          let free = free_onward IsLabel c m heap labels code part b t k d s.i j to.free s.more s.free in
          let worse : (x : L) → IsLabel x → IsBadBeside code c x (n ∷ Z) → IsBadBeside code c x (s.more ++ v.at) =
          λ x l bad.
          let y = beside x s.more l more_in in
          bad_in_place x l v.at v_in e bad
          (bad_found j v to.some (c.times x (label_of c s.more)) y
          (to.bad (b.class (c.times x (label_of c s.more))) (d.classes _ y) (numbers_bad x l bad))) in
          let h1 = s.lighter in
          let h2 = to.weight in
          let h3 = v.same_weight in
          let h4 = s.is.same_weight in
          let h5 = weight_by-append (weight_in t b) s.more v.at in
          let h6 = weight_by-append (weight_in t b) s.more s.is.at in record {
            i = j;
            i_in = to.found;
            is = v;
            more = s.more;
            free = free;
            same = same_with v.at v_in e;
            lighter = omega arith;
            worse = worse;
            never = λ _ _ _ bad. good j to.some to.found v s.more free (worse c.one m.some bad);
          }

      -- with no free heap, it isn't bad beside nothing
      alone : s.more ≡ [] → IsBadBeside code c c.one (n ∷ Z) → ⊥
      alone e bad =
          w.never_bad
          (subst (IsBadWith t k s.i (b.number n))
          (ap b.class (ap (λ R. c.times c.one (label_of c R)) e ∙ m.identity c.one m.some) ∙ d.start)
          (numbers_bad c.one m.some bad))

      covered_at : (x : L) → IsLabel x → IsBadBeside code c x (n ∷ Z)
          → IsCoveredAt t k s.i (b.number n) (b.class (c.times x (label_of c s.more)))
          → (V : List ℕ) × IsPosition (IsMovable heap code) V × (label_of c V ≡ label_of c (n ∷ Z))
          × (weight_by (weight_in t b) V < weight_by (weight_in t b) (n ∷ Z)) × IsBadBeside code c x V
          × (V ≡ [] → IsBadBeside code c c.one (n ∷ Z) → ⊥)
      covered_at x l bad (Empty e some) =
          let q : label_of c grown ≡ c.one = sym named ∙ ap b.label e ∙ d.nothing in
          let rl = label_is s.more more_in in
          let h1 = s.lighter in
          let h4 = s.is.same_weight in
          let h6 = weight_by-append (weight_in t b) s.more s.is.at in (
            s.more,
            free_movable IsLabel c m heap labels code part b t k d s.i s.more s.free,
            sym (m.identity _ rl) ∙ m.commutes _ _ m.some rl ∙ ap (c.times (label_of c s.more)) (sym q) ∙ same_grown,
            omega arith,
            subst (λ v. IsBadBeside code c v s.more)
                (ap (c.times x) q ∙ m.commutes _ _ l m.some ∙ m.identity x l) (bad_grown x l bad).1,
            alone,
          )
      covered_at x l bad (By j some h e less all) =
          let v = found j h in
          let v_in = all_heaps heap code v.at v.in_at in
          let y = beside x s.more l more_in in
          let q : label_of c v.at ≡ label_of c grown = sym v.same_label ∙ ap b.label e ∙ named in
          let h1 = s.lighter in
          let h3 = v.same_weight in
          let h4 = s.is.same_weight in
          let h5 = weight_by-append (weight_in t b) s.more v.at in
          let h6 = weight_by-append (weight_in t b) s.more s.is.at in (
            s.more ++ v.at,
            IsPosition-append (IsMovable heap code) s.more v.at
                (free_movable IsLabel c m heap labels code part b t k d s.i s.more s.free) v.in_at,
            same_with v.at v_in q,
            omega arith,
            bad_in_place x l v.at v_in q bad (bad_found j v some (c.times x (label_of c s.more)) y all),
            λ g. alone (nothing_before s.more v.at g),
          )

      goes_on : ComesTo (n ∷ Z) ⊎ IsCoveredBy IsLabel heap code c (weight_in t b) (n ∷ Z)
      goes_on = elim w.onward [
        | inl (j, to) ↦ inl (onward j to)
        | inr all ↦ inr (λ x l bad. covered_at x l bad
            (all (b.class (c.times x (label_of c s.more))) (d.classes _ (beside x s.more l more_in)) (numbers_bad x l bad)))
      ]

    comes : ComesTo (n ∷ Z) ⊎ IsCoveredBy IsLabel heap code c (weight_in t b) (n ∷ Z)
    comes = elim (f.closed s.i (b.number n) s.i_in number_in) [
      | inl free ↦ inl (added free)
      | inr w ↦ goes_on w
    ]

  begins : ComesTo []
  begins = record {
    i = 0;
    i_in = f.empty.some;
    is = found 0 f.empty.some;
    more = [];
    free = tt;
    same = ap (label_of c) ((found 0 f.empty.some).empty refl);
    lighter = let w = f.empty.weight in let v = (found 0 f.empty.some).same_weight in omega arith;
    worse = λ x l bad. subst (IsBadBeside code c x) (sym ((found 0 f.empty.some).empty refl)) bad;
    never = λ n Y e. absurd (nothing_first n Y e);
  }

  kept : AreKept IsLabel heap code c (weight_in t b) ComesTo
  kept = record {
    nothing = begins;
    never_bad = λ n Z p s bad. s.never n Z refl bad;
    closed = comes;
  }

  pub none_bad_of_families : AreNeverBad heap code c
  none_bad_of_families = none_is_bad IsLabel c m heap labels code part (weight_in t b) ComesTo kept

-- The same where no heap is free.
pub none_bad : {L : Type 0} (IsLabel : L → Type 0) (c : LabelClaim L) (m : AreLabels IsLabel c.one c.times)
    (heap : ℕ → Type 0) (labels : (n : ℕ) → heap n → IsLabel (c.label n))
    (code : List ℕ) (part : IsPart heap code)
    (b : Numbering L) (t : LabelTables) (k : KeptPositions) → AreTablesOf IsLabel heap code c b t
    → AreFoundTested t k → AreNeverBad heap code c
none_bad IsLabel c m heap labels code part b t k d found =
    none_bad_of_families IsLabel c m heap labels code part b t k d no_turns
    (λ i g _ free _ _. absurd (found.none_free i g free)) found.tested

-- The states that turns reach, said of positions.
-- By induction on the heaps of a word: the product of their pairs is exactly the position's pair.
use Rattle.std.proofs.Common.{◌≡◌, ℕ, zero, suc, ◌+◌, ◌-◌, ◌<◌, ◌≤◌, Bool, true, false, cond, List, [], ◌∷◌, ◌++◌, length, get_or, refl, sym, ap, ap₂, ◌∙◌, subst, inl, inr, arith, length-append, nat_lt, ltb-true, ltb-false}
use Rattle.std.specs.List.{AllByRecursion}
use Rattle.std.proofs.lemmas.List.{get_or-map, length-map}
use Rattle.std.proofs.lemmas.List.Elements.{All-contains}
use Rattle.misere_theory.specs.Games.{IsHeapUpTo, IsPosition}
use Rattle.misere_theory.specs.Games.Move.{Here, There}
use Rattle.misere_theory.specs.Quotients.{Claim, value, OptionValue, ReachesMoreThan}
use Rattle.misere_theory.specs.Pairs as theory
use Rattle.misere_theory.proofs.Different.{more_from_different}
use Rattle.misere_theory.proofs.Sums.{first_or_rest, no_move_of_none, value-append, heaps_up_to_kept}
use Rattle.monoid_table.specs.Grids.{Grid, times_in}
use Rattle.transition_algebra.specs.OverSets.{Pair}
use Rattle.pair_closure.specs.OverSets.{Member}
use Rattle.transition_algebra.specs.Pairs.{one, times, IsPair, covers}
use Rattle.transition_algebra.specs.Heaps.{IsHeapPair}
use Rattle.transition_algebra.specs.PairLaws.{has, empty_has, same_pair, times_has, has_left, has_right}
use Rattle.pair_closure.specs.Chains.{blank}
use Rattle.pair_closure.proofs.OptionLaws.{items_have, has_items}
use Rattle.pair_closure.specs.Turns.{State, start, blank_held, pending, is_done, product_of_heaps, word_of}
use Rattle.pair_closure.specs.Positions.{as_pair, kept, IsClaimOver, DescribesPositions, ShowsPairs, IsMinimal}
use Rattle.pair_closure.proofs.Invariant.{Holds, HasPlace}
use Rattle.pair_closure.proofs.WhichTurn.{done_parts, none_before}
use Rattle.pair_closure.proofs.Lists.{find_any, not_both}
use Rattle.pair_closure.proofs.Machine.{Reached, kept_by_turns}
use Rattle.pair_closure.proofs.PairLaws.{covering, covers_from}
use Rattle.pair_closure.proofs.Theorem as reached

module _ (code : List ℕ) (c : Claim) (s : State) (v : Holds s)
    (g : IsClaimOver code c s.table s.heaps) where
  abbrev dot : ℕ → ℕ → ℕ
  dot x y = times_in s.table x y

  pub record Exact (p : Pair) (X : List ℕ) : Type 0 where
    pub value : p.value ≡ value c X
    pub to : (x : ℕ) → has p.options x → OptionValue code c X x
    pub from : (x : ℕ) → OptionValue code c X x → has p.options x

  pub pair_of : (p : Pair) (X : List ℕ) → Exact p X → theory.IsPairOf code c (as_pair p) X
  pair_of p X e =
      record {
        same_value = e.value;
        options = λ x.
            (λ h. e.to x (items_have p.options x h), λ o. has_items p.options x (e.from x o));
      }

  abbrev heap : ℕ → Pair
  heap n = get_or s.heaps (n - 1) one

  each : (n : ℕ) → 1 ≤ n → n ≤ length s.heaps → IsHeapPair code c n (heap n)
  each n a b = let q : n - 1 + 1 ≡ n = omega arith in
      subst (λ k. IsHeapPair code c k (heap n)) q (g.heaps_are.each (n - 1) one (omega arith))

  heap_in : (n : ℕ) → 1 ≤ n → n ≤ length s.heaps → IsPair s.table.order (heap n)
  heap_in n a b = v.heaps_in (n - 1) one (omega arith)

  abbrev product : List ℕ → Pair
  product w = product_of_heaps s.table s.heaps w

  abbrev IsGiven : ℕ → Type 0
  IsGiven = IsHeapUpTo (length s.heaps)

  abbrev IsWord : List ℕ → Type 0
  IsWord w = AllByRecursion (λ h. (1 ≤ h) × (h ≤ length s.heaps)) w

  pub word_exact : (w : List ℕ) → IsWord w → Exact (product w) w
  word_exact [] p =
      record {
        value = refl;
        to = λ x h. absurd (empty_has x h);
        from = λ x o. absurd (no_move_of_none o.1);
      }
  word_exact (n ∷ w) p =
      let e = word_exact w p.1 in
      let (a, b) = p.0 in
      let hn = heap_in n a b in
      let pw = reached.word_in s v w p.1 in
      record {
        value =
            sym (g.times_is _ _ hn.value pw.value) ∙ ap₂ c.times ((each n a b).value_is) e.value;
        to = λ y h. elim (times_has s.table v.lawful (heap n) (product w) y h) [
          | inl (x, k, d) ↦
              let (Y, i, q) = e.to x k in (
                n ∷ Y,
                There i refl,
                ap₂ c.times (sym ((each n a b).value_is)) q
                    ∙ g.times_is _ _ hn.value (pw.options x k) ∙ d,
              )
          | inr (x, k, d) ↦
              let (H, o, q) = ((each n a b).options_are x).0 k in
              let xin = hn.options x k in (
                H ++ w,
                Here o refl,
                value-append IsGiven c g.monoid g.elements H w
                    (heaps_up_to_kept (length s.heaps) code n H (a, b) o) p.1
                    ∙ ap₂ c.times q (sym e.value) ∙ g.times_is _ _ xin pw.value
                    ∙ pair_commutes x (product w).value xin pw.value ∙ d,
              )
        ];
        from = λ y o. elim (first_or_rest o.1) [
          | inl (H, i, q) ↦
              let k = ((each n a b).options_are (value c H)).1 (H, i, refl) in
              let xin = hn.options _ k in
              subst (has (times s.table (heap n) (product w)).options)
              (pair_commutes (product w).value (value c H) pw.value xin
              ∙ sym (g.times_is _ _ xin pw.value) ∙ ap (c.times (value c H)) e.value
              ∙ sym (value-append IsGiven c g.monoid g.elements H w
              (heaps_up_to_kept (length s.heaps) code n H (a, b) i) p.1)
              ∙ sym (ap (value c) q) ∙ o.2)
              (has_left s.table v.lawful (heap n) (product w) hn _ k)
          | inr (Y, i, q) ↦
              let k = e.from (value c Y) (Y, i, refl) in
              subst (has (times s.table (heap n) (product w)).options)
              (sym (g.times_is _ _ hn.value (pw.options _ k)) ∙ ap (λ z. c.times z (value c Y))
              ((each n a b).value_is) ∙ sym (ap (value c) q) ∙ o.2)
              (has_right s.table v.lawful (heap n) (product w) pw _ k)
        ];
      }
    where
      pair_commutes : (x y : ℕ) → x < s.table.order → y < s.table.order → dot x y ≡ dot y x
      pair_commutes x y p q = v.lawful.monoid.commutes x y p q

  table_words : (i : ℕ) → i < length s.members → IsWord (word_of s.members i i)
      × ((get_or s.members i blank).pair ≡ product (word_of s.members i i))
  table_words i l = reached.word_is s v i i (omega arith) l

  abbrev member_at : ℕ → Member
  member_at i = get_or s.members i blank

  abbrev word_at : ℕ → List ℕ
  word_at i = word_of s.members i i

  pub member_exact : (i : ℕ) → i < length s.members → Exact (member_at i).pair (word_at i)
  member_exact i l = let (w, e) = table_words i l in
      subst (λ z. Exact z (word_at i)) (sym e) (word_exact (word_at i) w)

  -- a member that covers a position's exact pair covers the position
  covers_position : (p r : Pair) (X : List ℕ) → covers p r ≡ true → Exact r X
      → theory.Covers code c (as_pair p) X
  covers_position p r X k e =
      let w = covering p r k in
      record {
        same_value = w.value ∙ e.value;
        among = λ x h. e.to x (w.among x (items_have p.options x h));
        some = λ x o. let (y, h) = w.some x (e.from x o) in (y, has_items p.options y h);
      }

  covers_product : (p q : Pair) (n : ℕ) → IsHeapUpTo (length s.heaps) n → IsPair s.table.order q
      → covers p (times s.table (heap n) q) ≡ true
      → theory.CoversProduct code c (as_pair p) n (as_pair q)
  covers_product p q n (a, b) qin k =
      let w = covering p (times s.table (heap n) q) k in
      let hn = heap_in n a b in
      record {
        same_value = w.value ∙ sym (g.times_is _ _ hn.value qin.value)
            ∙ ap (λ z. c.times z q.value) ((each n a b).value_is);
        among =
            λ x h.
            elim (times_has s.table v.lawful (heap n) q x (w.among x (items_have p.options x h))) [
              | inl (y, i, d) ↦ inr (
                y,
                has_items q.options y i,
                sym d ∙ sym (g.times_is _ _ hn.value (qin.options y i))
                    ∙ ap (λ z. c.times z y) ((each n a b).value_is),
              )
              | inr (y, i, d) ↦ inl (
                y,
                ((each n a b).options_are y).0 i,
                sym d
                    ∙ v.lawful.monoid.commutes _ _ qin.value (hn.options y i)
                    ∙ sym (g.times_is _ _ (hn.options y i) qin.value),
              )
            ];
        some = λ x h. elim h [
          | inl (y, o, d) ↦ let i = ((each n a b).options_are y).1 o in let (z, u) =
              w.some _ (has_left s.table v.lawful (heap n) q hn y i) in (z, has_items p.options z u)
          | inr (y, i, d) ↦ let (z, u) =
              w.some _ (has_right s.table v.lawful (heap n) q qin y (items_have q.options y i)) in
              (z, has_items p.options z u)
        ];
      }

  abbrev pair_at : ℕ → Pair
  pair_at k = (get_or s.held k blank_held).pair

  kept_at : (k : ℕ) (p : theory.Pair) → k < length s.held → get_or (kept s) k p ≡ as_pair (pair_at k)
  kept_at k p l = get_or-map (λ m. as_pair m.pair) s.held k blank_held p l

  pub closed : length s.held ≤ pending s → length s.heaps ≤ s.next
      → theory.IsClosed code c (IsHeapUpTo (length s.heaps)) (kept s)
  closed none all =
      let words =
      reached.words_covered s v (λ k l. none_before _ _ k blank_held (omega arith)) all in
      let same = length-map s.held (λ m. as_pair m.pair) in
      record {
        start =
            let (k, l, d) = find_any (λ m. covers m.pair one) s.held blank_held v.one_held in (
              as_pair (pair_at k),
              (k, omega arith, kept_at k _ l),
              covers_position (pair_at k) one [] d (word_exact [] tt),
            );
        step = λ q h n up.
            let (k, long, e) = h in
            let l : k < length s.held = omega arith in
            let (i, f) = v.held_members k blank_held l in
            let place = (get_or s.held k blank_held).place in
            let (w, g) = table_words place i in
            let (j, m, d) =
            find_any (λ u. covers u.pair (product (n ∷ word_at place))) s.held blank_held
            (words (n ∷ word_at place) (up, w)) in
            let covered : covers (pair_at j) (times s.table (heap n) (pair_at k)) ≡ true =
            rw (sym f ∙ g) d in (
              as_pair (pair_at j),
              (j, omega arith, kept_at j _ m),
              rw (sym e ∙ kept_at k q l)
                  (covers_product (pair_at j) (pair_at k) n up (v.held_in k blank_held l) covered),
            );
      }

  -- pairs that have the same numbers are the same
  same_members : (p r : Pair) → theory.IsSamePair (as_pair p) (as_pair r) → p ≡ r
  same_members p r same =
      same_pair p r same.0 (λ x h. items_have r.options x ((same.1 x).0 (has_items p.options x h)))
      (λ x h. items_have p.options x ((same.1 x).1 (has_items r.options x h)))

  pub more_than : (limit : ℕ) → limit < length s.members → ReachesMoreThan IsGiven code c limit
  more_than limit l =
      more_from_different IsGiven code c (length s.members) (λ i. as_pair (member_at i).pair) word_at
      (λ i h. pair_of (member_at i).pair (word_at i) (member_exact i h)) (λ i h. (table_words i h).0)
      (λ i j h k same.
      v.apart i j blank h k (same_members (member_at i).pair (member_at j).pair same)) limit l

  ended : is_done s ≡ true → theory.IsClosed code c (IsHeapUpTo (length s.heaps)) (kept s)
  ended e = let (a, b) = done_parts s e in closed (ltb-false _ _ a) (ltb-false _ _ b)

-- the start says all this of nothing
start_says : (code : List ℕ) (c : Claim) (t : Grid) (heaps : List Pair) (limit : ℕ)
    → DescribesPositions code c (start t heaps limit)
start_says code c t heaps limit = record {
  words = λ i l. absurd (omega arith);
  positions = λ i l. absurd (omega arith);
  held = λ m h. let l = h.1 in absurd (omega arith);
  done = λ e. absurd (never (nat_lt limit 0) e);
  over = λ e. let l = ltb-true limit 0 e in absurd (omega arith);
}
  where
    never : (b : Bool) → cond b false false ≡ true → ⊥
    never true e = cc
    never false e = cc

pub shows : (s : State) → Reached s → ShowsPairs s
shows s r code c g = elim (kept_by_turns s r) [
  | inl e ↦ subst (DescribesPositions code c) (sym e) (start_says code c s.table s.heaps s.limit)
  | inr v ↦ record {
    words = λ i l. pair_of code c s v g _ _ (member_exact code c s v g i l);
    positions = λ i l. (table_words code c s v g i l).0;
    held = λ m h. All-contains (HasPlace s.members) s.held m v.held_members h;
    done = λ e. ended code c s v g e;
    over = λ e. more_than code c s v g s.limit (ltb-true _ _ e);
  }
]

uncovered : (p r : Pair) → covers p r ≡ false → theory.PairCovers (as_pair p) (as_pair r) → ⊥
uncovered p r e k = not_both (covers_from p r (record {
  value = k.same_value;
  among = λ x h. items_have r.options x (k.among x (has_items p.options x h));
  some = λ x h. let (y, i) = k.some x (has_items r.options x h) in (y, items_have p.options y i);
})) e

pub minimal : (s : State) → Reached s → IsMinimal s
minimal s r = elim (kept_by_turns s r) [
  | inl e ↦ subst IsMinimal (sym e)
      (record {
        different = λ i j d p q. absurd (omega arith);
        minimal = λ i j d p q. absurd (omega arith);
      })
  | inr v ↦ record {
    different = v.apart;
    minimal = λ i j d p q. let (a, b) = v.minimal i j d p q in
        (uncovered _ _ a, uncovered _ _ b);
  }
]

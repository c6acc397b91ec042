-- What a state reached by turns says: of its words, and, once it is done, of every product of
-- heaps.
-- A product by a generator keeps what is covered covered, and so does one by any product of
-- generators.
use Rattle.std.proofs.Common.{◌≡◌, ℕ, zero, suc, ◌-◌, ◌<◌, ◌≤◌, true, List, [], ◌∷◌, length, get_or, refl, sym, ap, ◌∙◌, subst, inl, inr, arith}
use Rattle.std.specs.List.{AllByRecursion}
use Rattle.std.proofs.lemmas.List.Folds.{list_any_at}
use Rattle.monoid_table.specs.Laws.{CommMonoidLaws}
use Rattle.transition_algebra.specs.OverSets.{Pair}
use Rattle.transition_algebra.specs.Pairs.{IsPair, one, times, covers}
use Rattle.transition_algebra.specs.PairLaws.{pair_laws}
use Rattle.pair_closure.specs.OverSets.{Member}
use Rattle.pair_closure.specs.Chains.{blank}
use Rattle.pair_closure.specs.Turns.{State, blank_held, blank_generator, covered, product_of_heaps, word_of}
use Rattle.pair_closure.proofs.Lists.{find_any}
use Rattle.pair_closure.proofs.PairLaws.{covers_trans, covers_grows}
use Rattle.pair_closure.proofs.Invariant.{Made, Holds, generator_in, made_in}
use Rattle.pair_closure.proofs.Invariant.Made.{Empty, More}

module _ (s : State) (v : Holds s) where
  abbrev IsIn : Pair → Type 0
  IsIn x = IsPair s.table.order x

  abbrev dot : Pair → Pair → Pair
  dot x y = times s.table x y

  laws : CommMonoidLaws IsIn one dot
  laws = pair_laws s.table v.lawful

  abbrev cov : Pair → Type 0
  cov y = covered s.held y ≡ true

  pub cov_trans : (x y : Pair) → cov x → covers x y ≡ true → cov y
  cov_trans x y c k =
      let (i, l, d) = find_any (λ m. covers m.pair x) s.held blank_held c in
      list_any_at (λ m. covers m.pair y) s.held i blank_held l (covers_trans _ x y d k)

  grows : (x y z : Pair) → IsIn x → IsIn y → IsIn z → covers x y ≡ true
      → covers (dot x z) (dot y z) ≡ true
  grows x y z a b c k = covers_grows s.table v.lawful x y z a b c k

  abbrev pub IsWord : List ℕ → Type 0
  IsWord w = AllByRecursion (λ h. (1 ≤ h) × (h ≤ length s.heaps)) w

  abbrev pub product : List ℕ → Pair
  product w = product_of_heaps s.table s.heaps w

  heap_in : (h : ℕ) → (1 ≤ h) × (h ≤ length s.heaps) → IsIn (get_or s.heaps (h - 1) one)
  heap_in h (a, b) = v.heaps_in (h - 1) one (omega arith)

  pub word_in : (w : List ℕ) → IsWord w → IsIn (product w)
  word_in [] p = laws.one_in
  word_in (h ∷ w) p = laws.times_in _ _ (heap_in h p.0) (word_in w p.1)

  module _ (finished : (k : ℕ) → k < length s.held
      → length s.generators ≤ (get_or s.held k blank_held).by) (all_heaps : length s.heaps ≤ s.next) where
    -- products by x keep what is covered covered
    abbrev Good : Pair → Type 0
    Good x = (y : Pair) → IsIn y → cov y → cov (dot y x)

    generator_good : (j : ℕ) → j < length s.generators
        → Good (get_or s.generators j blank_generator).pair
    generator_good j l y hy c =
        let (k, i, d) = find_any (λ m. covers m.pair y) s.held blank_held c in
        let g = get_or s.generators j blank_generator in
        let hg = generator_in s v j blank_generator l in
        cov_trans (dot (get_or s.held k blank_held).pair g.pair) (dot y g.pair)
        (elim (v.products k blank_held i) [
          | inl e ↦ subst cov (sym (ap (λ z. dot z g.pair) e ∙ laws.identity _ hg))
              (v.gens_held j blank_generator l)
          | inr (b, all) ↦ let f = finished k i in all j (omega arith)
        ])
        (grows _ _ _ (v.held_in k blank_held i) hy hg d)

    made_good : {x : Pair} → Made s.table s.generators x → Good x
    made_good (Empty e) y hy c =
        subst cov (sym (ap (dot y) e ∙ laws.comm _ _ hy laws.one_in ∙ laws.identity y hy)) c
    made_good (More j l w e) y hy c =
        let hx = made_in s v w in
        let hg = generator_in s v j blank_generator l in
        subst cov (sym (ap (dot y) e ∙ sym (laws.assoc y _ _ hy hx hg)))
        (generator_good j l (dot y _) (laws.times_in _ _ hy hx) (made_good w y hy c))

    heap_good : (h : ℕ) → (1 ≤ h) × (h ≤ length s.heaps) → Good (get_or s.heaps (h - 1) one)
    heap_good h (a, b) y hy c =
        let (x, w, k) = v.heaps_made (h - 1) (omega arith) in
        let hx = made_in s v w in
        let hh = heap_in h (a, b) in
        cov_trans (dot y x) (dot y _) (made_good w y hy c)
        (subst (λ z. covers z (dot y (get_or s.heaps (h - 1) one)) ≡ true) (laws.comm x y hx hy)
        (subst (λ z. covers (dot x y) z ≡ true) (laws.comm _ _ hh hy) (grows _ _ _ hx hh hy k)))

    -- every product of heaps is covered
    pub words_covered : (w : List ℕ) → IsWord w → cov (product w)
    words_covered [] p = v.one_held
    words_covered (h ∷ w) p =
        subst cov (laws.comm _ _ (word_in w p.1) (heap_in h p.0))
        (heap_good h p.0 _ (word_in w p.1) (words_covered w p.1))

  abbrev member_at : ℕ → Member
  member_at i = get_or s.members i blank

  -- the words of the members ever kept
  pub word_is : (n i : ℕ) → i ≤ n → i < length s.members → IsWord (word_of s.members n i)
      × ((member_at i).pair ≡ product (word_of s.members n i))
  word_is zero i l k =
      (tt, let q : 0 ≡ i = omega arith in subst (λ j. (member_at j).pair ≡ one) q (v.first.1))
  word_is (suc n) zero l k = (tt, v.first.1)
  word_is (suc n) (suc i) l k =
      let w = v.steps (suc i) (omega arith) k in
      let less = w.earlier in
      let (a, b) = word_is n (member_at (suc i)).parent (omega arith) (omega arith) in (
        (w.heap, a),
        w.product ∙ ap (λ z. dot z (get_or s.heaps ((member_at (suc i)).heap - 1) one))
            b ∙ laws.comm _ _ (word_in _ a) (heap_in _ w.heap),
      )

  -- a word doesn't depend on the bound of its length
  pub word_bound : (n m i : ℕ) → i ≤ n → i ≤ m → i < length s.members
      → word_of s.members n i ≡ word_of s.members m i
  word_bound zero zero i a b l = refl
  word_bound zero (suc m) zero a b l = refl
  word_bound zero (suc m) (suc i) a b l = absurd (omega arith)
  word_bound (suc n) zero zero a b l = refl
  word_bound (suc n) zero (suc i) a b l = absurd (omega arith)
  word_bound (suc n) (suc m) zero a b l = refl
  word_bound (suc n) (suc m) (suc i) a b l =
      let w = v.steps (suc i) (omega arith) l in
      let less = w.earlier in
      ap (λ z. (member_at (suc i)).heap ∷ z)
      (word_bound n m (member_at (suc i)).parent (omega arith) (omega arith) (omega arith))

-- What the numbers are tested for is what is tested of the claim.
use Rattle.std.proofs.Common.{◌≡◌, ◌≢◌, ℕ, ◌+◌, ◌<◌, ◌≤◌, ◌⊎◌, true, List, [], ◌∷◌, length, map, refl, sym, ◌∙◌, ap, subst, inl, inr, arith, Contains, nat_le, IsPermutation}
use Rattle.std.proofs.lemmas.List.{get_or_past}
use Rattle.std.proofs.lemmas.List.Elements.{All-contains}
use Rattle.std.proofs.lemmas.Bool.Decides.{nat_tests}
use Rattle.misere_theory.specs.Games.{HeapOption}
use Rattle.misere_theory.proofs.Shuffles.{from_permutation}
use Rattle.heap_options.specs.Exact.{heaps_of, IsInOrder}
use Rattle.heap_options.specs.Options.{options_of, options_up_to}
use Rattle.heap_options.specs.declared.left.Left.{Left}
use Rattle.dominance.specs.Triples.{Triple, xor, times, is_p, triple_of}
use Rattle.dominance.specs.Tested.{Change, AreApart, MayStandBeside, IsStateOf, IsSettled, AreClosed, IsHeapChange, IsWithin, together, size_of}
use Rattle.dominance.specs.Tested.{State as Known}
use Rattle.dominance.specs.Finite.{IsExtent, AreTestedBelow, is_listed, heaps_from}
use Rattle.dominance.proofs.Triples.{same_triple}
use Rattle.dominance.proofs.Positions.{triple_shuffled}
use Rattle.dominance.proofs.Options.{heaps_from_shuffled}
use Rattle.dominance_checker.specs.declared.numbers.Numbers.{Numbers}
use Rattle.dominance_checker.specs.declared.rank.Rank.{Rank}
use Rattle.dominance_checker.specs.declared.shape.Shape.{Shape}
use Rattle.dominance_checker.specs.declared.side.Side.{Side}
use Rattle.dominance_checker.specs.declared.state.State.{State}
use Rattle.dominance_checker.specs.Ranks.{triple_in, label_by}
use Rattle.dominance_checker.specs.Sides.{side_by, sides_by}
use Rattle.dominance_checker.specs.States.{has_change, state_in, standing, with_change, IsSideSettled, IsSettledBelow, HasStateWithin, HasStatesWithin}
use Rattle.dominance_checker.specs.Passed.{IsSideApart, IsHeapPassed, LosesFew, extent_in, IsClaimTested}
use Rattle.dominance_checker.proofs.Mapped.{mapped, unmapped}
use Rattle.dominance_checker.proofs.Repeats.{repeats}

module _ (code : List ℕ) (s : Shape) (ranks : List Rank) (kinds kept : List State) (e : Numbers)
    (each : (n : ℕ) (H : List ℕ) → HeapOption code n H
    → (left : Left) × Contains (options_of code n) left × IsPermutation (heaps_of left) H)
    (only : (n most : ℕ) (left : Left) → Contains (options_up_to code n most) left
    → HeapOption code n (heaps_of left) × IsInOrder left)
    (tested : IsClaimTested code s ranks kinds kept e) where
  abbrev label : ℕ → Triple
  label = label_by s ranks

  -- an option is among those that were tested, in some order, and each of these is one
  record HasSideOf (n : ℕ) (H : List ℕ) : Type 0 where
    side : Side
    in_list : Contains (sides_by code s ranks n) side
    same : triple_of label H ≡ triple_in side.rank
    listed : side.listed ≡ is_listed s.start H

  side_of : (n : ℕ) (H : List ℕ) → HeapOption code n H → HasSideOf n H
  side_of n H o =
      let (left, i, p) = each n H o in
      let t = from_permutation (heaps_of left) H p in record {
        side = side_by s ranks left;
        in_list = mapped (side_by s ranks) (options_of code n) left i;
        same = sym (triple_shuffled label t);
        listed = ap (λ c. nat_le c 1) (heaps_from_shuffled s.start t);
      }

  record HasOptionOf (n : ℕ) (v : Side) : Type 0 where
    heaps : List ℕ
    option : HeapOption code n heaps
    same : triple_of label heaps ≡ triple_in v.rank
    listed : is_listed s.start heaps ≡ v.listed

  option_of : (n : ℕ) (v : Side) → Contains (sides_by code s ranks n) v → HasOptionOf n v
  option_of n v i =
      let (left, j, f) = unmapped (side_by s ranks) (options_of code n) v i in record {
        heaps = heaps_of left;
        option = (only n n left j).0;
        same = ap (λ w. triple_in w.rank) f;
        listed = ap (λ w. w.listed) f;
      }

  some_side : (n : ℕ) → 0 < length (sides_by code s ranks n) → (H : List ℕ) × HeapOption code n H
  some_side n l = some (sides_by code s ranks n) (λ v i. option_of n v i) l
    where
      some : (sides : List Side) → ((v : Side) → Contains sides v → HasOptionOf n v)
          → 0 < length sides → (H : List ℕ) × HeapOption code n H
      some [] of l = absurd (omega arith)
      some (v ∷ sides) of l = let h = of v (0, omega arith, refl) in (h.heaps, h.option)

  no_option : (n : ℕ) → length (sides_by code s ranks n) ≡ 0 → (H : List ℕ) → HeapOption code n H → ⊥
  no_option n f H o = let h = side_of n H o in let (k, l, g) = h.in_list in omega arith

  module _ (n : ℕ) (p : IsHeapPassed code s ranks kinds kept e n) where
    abbrev u : Triple
    u = triple_in p.rank

    apart_here : (H : List ℕ) → HeapOption code n H
        → AreApart (label n) (triple_of label H)
        × ((heaps_from s.start H ≤ 1) ⊎ ((label n).odd ≢ (triple_of label H).odd))
    apart_here H o =
        let h = side_of n H o in
        let a = All-contains (IsSideApart p.rank e.most) (sides_by code s ranks n) h.side
        p.passed.apart h.in_list in (
          subst (λ v. AreApart v (triple_of label H)) p.is_rank
              (subst (λ w. AreApart u w) (sym h.same) a.apart),
          elim a.parity [
            | inl t ↦ inl (few (heaps_from s.start H) (sym h.listed ∙ t))
            | inr f ↦ inr (λ g. f (ap (λ w. w.odd) p.is_rank ∙ g ∙ ap (λ w. w.odd) h.same))
          ],
        )
      where
        few : (c : ℕ) → nat_le c 1 ≡ true → c ≤ 1
        few c t = grind (arith, nat_tests)

    low_here : (H : List ℕ) → HeapOption code n H → (triple_of label H).lead ≤ e.most
    low_here H o =
        let h = side_of n H o in
        let a = All-contains (IsSideApart p.rank e.most) (sides_by code s ranks n) h.side
        p.passed.apart h.in_list in
        let l = a.low in
        let g = ap (λ w. w.lead) h.same in
        omega arith

    change_here : (x : Change) → has_change p.passed.kind.kind x ≡ true
        → IsHeapChange code (is_listed s.start) label n x
    change_here x i =
        let (v, j, t, odd, weight, lead) = p.passed.kind.state.changes x i in
        let h = option_of n v j in
        let r = p.is_rank in
        let rw = ap (λ w. w.weight) r in
        let hw = ap (λ w. w.weight) h.same in
        let hl = ap (λ w. w.lead) h.same in (
          h.heaps,
          h.option,
          h.listed ∙ t,
          ap (λ w. w.odd) h.same ∙ odd ∙ ap (λ w. xor x.0 w.odd) r,
          omega arith,
          omega arith,
        )

    kind_here : (h : Known) × Contains (map state_in kinds) h
        × IsStateOf code (is_listed s.start) label n h
    kind_here =
        let k = p.passed.kind in
        let r = p.is_rank in (
          state_in k.kind,
          mapped state_in kinds k.kind k.in_list,
          record {
            same_odd = k.state.same_odd ∙ ap (λ w. w.odd) r;
            same_size = k.state.same_size ∙ ap (λ w. size_of w.weight) r;
            moves = λ t. some_side n (k.state.moves t);
            ended = λ t. no_option n (k.state.ended t);
            changes = change_here;
          },
        )

    settled_side : (k : State) (y : Triple) → IsSideSettled p.rank (sides_by code s ranks n) k y
        → IsSettled code (is_listed s.start) label n (state_in k) y
    settled_side k y t = record {
      inside = λ f. elim (t.inside (ap (λ w. is_p (times w y)) p.is_rank ∙ f)) [
        | inl a ↦ inl a
        | inr l ↦ inr (some_side n l)
      ];
      outside = λ f. elim (t.outside (ap (λ w. is_p (times w y)) p.is_rank ∙ f)) [
        | inl (dead, none) ↦ inl (dead, no_option n none)
        | inr (inl (v, i, l, g)) ↦ let h = option_of n v i in inr (inl (
          h.heaps,
          h.option,
          h.listed ∙ l,
          ap (λ w. is_p (times w y)) h.same ∙ g,
        ))
        | inr (inr (x, i, g)) ↦ inr (inr (
          x,
          i,
          ap (λ w. is_p (times w (with_change y x))) (sym p.is_rank) ∙ g,
        ))
      ];
    }

    settled_here : (k : Known) (y : Triple) → Contains (map state_in kept) k
        → y.weight ≤ e.most + 2 → MayStandBeside (label n) k y
        → IsSettled code (is_listed s.start) label n k y
    settled_here k y i light may =
        let (h, j, f) = unmapped state_in kept k i in
        subst (λ z. IsSettled code (is_listed s.start) label n z y) f
        (at_state h j (subst (λ z. MayStandBeside (label n) z y) (sym f) may))
      where
        at_state : (h : State) → Contains kept h → MayStandBeside (label n) (state_in h) y
            → IsSettled code (is_listed s.start) label n (state_in h) y
        at_state h j may =
            let same : standing h y.weight y.lead ≡ y = same_triple _ _ may.same_odd refl refl in
            let below =
            All-contains (IsSettledBelow p.rank (sides_by code s ranks n) (e.most + 3)) kept h
            p.passed.settled j in
            let low : y.lead ≤ y.weight =
            elim may.element [ inl z ↦ omega arith | inr z ↦ omega arith ] in
            settled_side h y
            (subst (λ z. IsSideSettled p.rank (sides_by code s ranks n) h z) same
            (((below.settled y.weight (omega arith)).settled y.lead (omega arith)).settled
            (subst (λ v. MayStandBeside v (state_in h) (standing h y.weight y.lead)) (sym p.is_rank)
            (subst (λ z. MayStandBeside (label n) (state_in h) z) (sym same) may))))

  extent : IsExtent code label (map state_in kept) (extent_in s e)
  extent =
      let m = tested.numbers in record {
        last_digit = λ j l. let d = m.digits in get_or_past code j 0 (omega arith);
        from_one = m.from_one;
        some = m.some;
        rises = m.rises;
        repeats = repeats s ranks m.some;
        few = λ n h l. (tested.few n h l).few;
        far = λ n h l. (tested.far n h l).far;
        from_start = m.from_start;
        beyond = m.beyond;
        losses = λ k x i t. let (h, j, f) = unmapped state_in kept k i in
            (All-contains LosesFew kept h tested.losses j).few x (ap (λ z. z.changes x) f ∙ t);
      }

  closed : AreClosed (map state_in kinds) (map state_in kept)
  closed =
      let (h, i, w) = tested.closed.start in record {
        start = (state_in h, mapped state_in kept h i, w);
        step = λ k g i j.
            let (k', i', f) = unmapped state_in kept k i in
            let (g', j', r) = unmapped state_in kinds g j in
            let all = All-contains (HasStatesWithin kinds kept) kept k' tested.closed.step i' in
            let one = All-contains (HasStateWithin kept k') kinds g' all.each j' in (
              state_in one.state,
              mapped state_in kept one.state one.in_list,
              subst (λ z. IsWithin (state_in one.state) (together z g)) f
                  (subst (λ z. IsWithin (state_in one.state) (together (state_in k') z)) r one.within),
            );
      }

  pub tested_below : AreTestedBelow code label (map state_in kinds) (map state_in kept) (extent_in s e)
  tested_below = record {
    extent = extent;
    elements = λ n h l. (tested.elements n h l).element;
    apart = λ n H h l o. apart_here n (tested.heaps n h l) H o;
    alive = λ n h l.
        let m = tested.numbers in
        let f = m.from_one in
        let b = m.beyond in
        some_side n ((tested.heaps n (omega arith) l).alive h);
    kinds_of = λ n h l. kind_here n (tested.heaps n h l);
    closed = closed;
    enough = λ n h l.
        let p = tested.heaps n h l in
        let q = p.passed.low in
        let r = ap (λ w. w.weight) p.is_rank in (omega arith, low_here n p);
    settled = λ n k y h l i light may. settled_here n (tested.heaps n h l) k y i light may;
  }

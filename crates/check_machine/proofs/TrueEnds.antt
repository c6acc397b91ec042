-- A turn of the last stages keeps what they hold true of the bytes, and answers what is.
use Rattle.std.proofs.Common.{◌≡◌, ℕ, suc, ◌+◌, ◌-◌, ◌<◌, Bool, true, false, not, ◌&&◌, ◌==◌, nat_lt, if◌then◌else◌, List, ◌∷◌, length, slice_index_or, refl, sym, ◌∙◌, ap, subst, inl, inr, arith, tests}
use Rattle.std.specs.List.{All, concat, list_any}
use Rattle.std.specs.FinSet as set
use Rattle.std.specs.Ordering.{nat_cmp}
use Rattle.std.proofs.lemmas.List.Elements.{Contains-get_or}
use Rattle.misere_theory.specs.Games.{IsHeapUpTo, IsPosition}
use Rattle.misere_theory.specs.Quotients.{ReachesMoreThan, Monoid}
use Rattle.misere_theory.specs.Pairs.{IsClosed, KeptObey, ElementsObey}
use Rattle.misere_theory.specs.Pairs as theory
use Rattle.misere_theory.specs.Certificates.{Certificate, IsHeapOf, InRanges, Canonical, Accepted, claim_of, times_of}
use Rattle.misere_theory.proofs.Written.{phi_in}
use Rattle.misere_theory.proofs.Counting.{reaches_where}
use Rattle.misere_theory.proofs.Shuffles.{to_permutation, position_shuffled}
use Rattle.monoid_table.specs.Grids.{Grid, IsShaped, entry}
use Rattle.monoid_table.specs.Tables.{IsTableGrid}
use Rattle.transition_algebra.specs.OverSets.{Pair}
use Rattle.transition_algebra.specs.Pairs.{IsPair, is_empty}
use Rattle.monoid_table.specs.Pretending.{Pretending, IsPretending}
use Rattle.monoid_table.specs.PretendingTables.{Agrees, IsInto}
use Rattle.transition_algebra.specs.Heaps.{IsHeapPairs, AreAllHeapPairs, all_heap_pairs}
use Rattle.transition_algebra.specs.Work.{heap_cost}
use Rattle.certificate.specs.Fields.{grid_of, pretending_of}
use Rattle.pair_closure.specs.Turns.{State}
use Rattle.pair_closure.specs.Turns as turning
use Rattle.pair_closure.specs.ClosureViews as closing
use Rattle.pair_closure.specs.Keeping.{KeepsOne}
use Rattle.pair_closure.specs.Positions.{IsClaimOver, ShowsPairs, as_pair, kept, rising, word}
use Rattle.answers.specs.ByteVerdicts.{ByteVerdict, Fits}
use Rattle.answers.specs.ByteVerdicts.ByteVerdict.{Yes, Outcome, Limit, Memory}
use Rattle.answers.specs.Portions.{IsPortion}
use Rattle.check_machine.specs.Rules.{Obeys, Breaks}
use Rattle.check_machine.specs.Closings.{HavePairs}
use Rattle.check_machine.specs.Bounds.{bound_of}
use Rattle.check_machine.specs.Views.{HeapsView, ElementsView, ClosingView}
use Rattle.check_machine.specs.Turns.{holds, obeys, newest, keeps_more, first_from, leads_in, keys_from, closing_at, closing_turn, elements_at, elements_turn, heaps_at, heaps_turn}
use Rattle.check_machine.specs.Turns.Phase.{Heaps, Elements, Closing, Ended}
use Rattle.check_machine.proofs.FallSteps.{by_test}
use Rattle.check_machine.proofs.FittingLaws.{fitting_is_true}
use Rattle.check_machine.proofs.TableLaws.{monoid_along}
use Rattle.check_machine.proofs.RuleLaws.{inside_some, inside_none, outside_none, outside_leads, outside_stays, breach_fails}
use Rattle.check_machine.proofs.SpellLaws.{fails_along, element_fails}
use Rattle.check_machine.proofs.HeapLaws.{obeying, up_to_bound, position_within}
use Rattle.check_machine.proofs.AnyLemmas.{any_of, any_in}
use Rattle.check_machine.proofs.TrueTests.{opposite, both, less_is, not_less, same_is, not_same, not_true, not_false}
use Rattle.check_machine.proofs.TruePhases.{LooksSoFar, IsSpelled, IsClosure, AreHeaps, AreElements, AreClosing, IsRight}
use Rattle.check_machine.proofs.TrueElements.{shuffled_rising, first_has, first_none, keys_spell, here, leads, obeyed, value_turn, heap_turn}

-- what the crates below tell of certificates, of the pairs of heaps and of closures
pub record HeapsAreKnown : Type 0 where
  pub agrees : (c : Certificate) → InRanges c → Agrees (claim_of c) (grid_of c) (pretending_of c)
  pub shaped : (c : Certificate) → InRanges c → IsShaped c.order (concat c.rows)
  pub pretending : (c : Certificate) → InRanges c → IsPretending (pretending_of c)
  pub into : (c : Certificate) → InRanges c → IsInto (grid_of c) (pretending_of c)
  pub exact : (code : List ℕ) (table : Grid) (phi : Pretending) → IsTableGrid table
      → IsPretending phi → IsInto table phi
      → AreAllHeapPairs code table phi (all_heap_pairs code table phi)
      × All (IsPair table.order) (all_heap_pairs code table phi)
  pub shows : (table : Grid) (heaps : List Pair) (limit units : ℕ) → IsTableGrid table
      → All (IsPair table.order) heaps
      → ShowsPairs (closing.turns units (turning.start table heaps limit))
  pub keeps : (p : closing.ClosureView) → KeepsOne p.state (closing.moved p).state
  pub same : (p : closing.ClosureView) → closing.SameData p.state (closing.moved p).state
  pub accepted : (c : Certificate) (members : List theory.Pair) → InRanges c
      → Monoid c.order (times_of c) → Canonical c
      → IsClosed c.code (claim_of c) (IsHeapUpTo (bound_of c)) members
      → KeptObey (claim_of c) members
      → ElementsObey c.code (claim_of c) (IsHeapUpTo (bound_of c)) → Accepted c

-- the rule at a pair, as a turn asks for it
module _ (c : Certificate) (inside : set.FinSet nat_cmp) (portion : IsPortion c inside) (p : Pair)
  where
    obeys_by : (v e : Bool) → holds c p.value ≡ v → is_empty p.options ≡ e → obeys c p ≡ true
        → Obeys inside p
    obeys_by true true v e o = absurd (let f : obeys c p ≡ false = rw (v, e) refl in opposite o f)
    obeys_by true false v e o = inside_some inside p (portion p.value ∙ v) e
    obeys_by false true v e o = outside_none inside p (portion p.value ∙ v) e
    obeys_by false false v e o =
        let t : list_any (λ y. set.contains p.options y) c.portion ≡ true = rw (v, e) at o in
        let (y, m, u) = any_in (λ y. set.contains p.options y) c.portion t in
        outside_leads inside p (portion p.value ∙ v) (y, u, portion y ∙ m)

    rule_holds : obeys c p ≡ true → Obeys inside p
    rule_holds o = obeys_by (holds c p.value) (is_empty p.options) refl refl o

    breaks_by : (v e : Bool) → holds c p.value ≡ v → is_empty p.options ≡ e → obeys c p ≡ false
        → Breaks inside p
    breaks_by true true v e o = inside_none inside p (portion p.value ∙ v) e
    breaks_by true false v e o = absurd (let t : obeys c p ≡ true = rw (v, e) refl in opposite t o)
    breaks_by false true v e o = absurd (let t : obeys c p ≡ true = rw (v, e) refl in opposite t o)
    breaks_by false false v e o =
        let f : list_any (λ y. set.contains p.options y) c.portion ≡ false = rw (v, e) at o in
        outside_stays inside p (portion p.value ∙ v) e
        (λ m. (let (y, h, k) = m in
        opposite (any_of (λ z. set.contains p.options z) c.portion y (sym (portion y) ∙ k) h) f))

    rule_breaks : obeys c p ≡ false → Breaks inside p
    rule_breaks o = breaks_by (holds c p.value) (is_empty p.options) refl refl o

-- the portion as a set
the_portion : (c : Certificate) → (inside : set.FinSet nat_cmp) × IsPortion c inside
the_portion c = (set.from_list c.portion, λ x. set.contains-from_list_nat c.portion x)

module _ (bytes : List ℕ) (limit : ℕ) where
  -- what is true of the certificate is of the bytes
  pub faulty : (c : Certificate) → IsSpelled bytes limit c → (a : ByteVerdict) → Fits c limit a
      → (a ≡ Memory → ⊥) → IsRight bytes limit (Ended a)
  faulty c s a f n = (fitting_is_true bytes c s.spelled limit a f, n)

  module _ (known : HeapsAreKnown) (c : Certificate) (is : IsSpelled bytes limit c)
      (canonical : Canonical c) where
    elements_at-right : (pairs : List Pair) (i h : ℕ) → LooksSoFar c pairs i h
        → IsRight bytes limit (elements_at limit c pairs i h)
    unfolding elements_at
    elements_at-right pairs i h e =
        by_test (IsRight bytes limit) (nat_lt i (length pairs))
        (Elements (record { certificate = c; pairs = pairs; heap = i; option = h }))
        (Closing (record { certificate = c; closure = closing.begun (grid_of c) pairs limit }))
        (λ t. record {
          is = is;
          canonical = canonical;
          so_far = e;
          more = less_is i (length pairs) t;
        })
        (λ t. let l = not_less i (length pairs) t in record {
          is = is;
          canonical = canonical;
          pairs = pairs;
          exact = e.exact;
          elements =
              λ n g y b o k u. (let w = e.exact.exact.length_is in
              e.heaps n g b.0 (let m = b.1 in omega arith) o y k u);
          closure =
              record {
                taken = 0;
                reached = refl;
                same = record { table = refl; heaps = refl; limit = refl };
                obey = λ j b. absurd (omega arith);
              };
        })

    table_is : IsTableGrid (grid_of c)
    table_is =
        let r = is.lawful.in_ranges in
        let a = known.agrees c r in
        record {
          shaped = known.shaped c r;
          monoid =
              monoid_along c.order (entry c.order (concat c.rows)) (times_of c)
              (λ x y k l. sym (a.times_is x y k l)) is.lawful.monoid;
        }

    all_pairs : HavePairs c (all_heap_pairs c.code (grid_of c) (pretending_of c))
    all_pairs =
        let r = is.lawful.in_ranges in
        let x = known.exact c.code (grid_of c) (pretending_of c) table_is (known.pretending c r)
        (known.into c r) in
        record { exact = x.0 (claim_of c) (known.agrees c r); within = x.1 }

    heaps_at-right : (spent : ℕ) → IsRight bytes limit (heaps_at limit c spent)
    unfolding heaps_at
    heaps_at-right spent =
        by_test (IsRight bytes limit) (nat_lt spent (heap_cost c.code (pretending_of c)))
        (Heaps (record { certificate = c; spent = spent }))
        (elements_at limit c (all_heap_pairs c.code (grid_of c) (pretending_of c)) 0 0)
        (λ t. record { is = is; canonical = canonical })
        (λ t. let o = is.lawful.in_ranges.order.0 in
        elements_at-right (all_heap_pairs c.code (grid_of c) (pretending_of c)) 0 0 (record {
          exact = all_pairs;
          place = omega arith;
          value = omega arith;
          heaps = λ n g p b. absurd (omega arith);
          heap = λ g b. absurd (omega arith);
        }))

    pub heaps_begin : IsRight bytes limit (heaps_at limit c 0)
    heaps_begin = heaps_at-right 0

  pub heaps_right : HeapsAreKnown → (h : HeapsView) → AreHeaps bytes limit h
      → IsRight bytes limit (heaps_turn limit h)
  unfolding heaps_turn
  heaps_right known h a = heaps_at-right known h.certificate a.is a.canonical (h.spent + 1)

  pub elements_right : HeapsAreKnown → (v : ElementsView) → AreElements bytes limit v
      → IsRight bytes limit (elements_turn limit v)
  unfolding elements_turn
  elements_right known v a =
      let c = v.certificate in
      let r = a.is.lawful.in_ranges in
      let m = a.is.lawful.monoid in
      let e = a.so_far in
      let l = a.more in
      let has = leads_in c (here c r v.pairs v.heap v.option e l) v.option in
      let y = first_from has 0 c.order in
      let b = e.value in
      by_test (IsRight bytes limit) (nat_lt y c.order)
      (Ended (Outcome c.code (rising ((v.heap + 1) ∷ keys_from c c.order y))))
      (if v.option + 1 == c.order then elements_at limit c v.pairs (v.heap + 1) 0 else elements_at
      limit c v.pairs v.heap (v.option + 1))
      (λ t. let w = less_is y c.order t in
      let K = keys_from c c.order y in
      let (x, is) = keys_spell c r m a.canonical c.order y (omega arith) w in
      let f = leads c r v.pairs v.heap v.option e l y (first_has has 0 c.order (omega arith)) in
      let s = shuffled_rising ((v.heap + 1) ∷ K) in
      let X = rising ((v.heap + 1) ∷ K) in
      let heap =
      up_to_bound c (v.heap + 1)
      (omega arith, (let n = e.exact.exact.length_is in omega arith)) in
      let fails =
      element_fails c a.is.lawful (v.heap + 1) y K X heap f x is (to_permutation s) in
      faulty c a.is (Outcome c.code X)
      (refl, (m, a.canonical, position_shuffled (IsHeapOf c) s (heap, x), fails)) (λ q. cc))
      (λ t. let n = not_less y c.order t in
      let o =
      obeyed c r v.pairs v.heap v.option e l
      (λ z k. first_none has 0 c.order (omega arith) z (omega arith) (omega arith)) in
      by_test (IsRight bytes limit) (v.option + 1 == c.order)
      (elements_at limit c v.pairs (v.heap + 1) 0)
      (elements_at limit c v.pairs v.heap (v.option + 1))
      (λ d. elements_at-right known c a.is a.canonical v.pairs (v.heap + 1) 0
      (heap_turn c r v.pairs v.heap v.option e l o (same_is (v.option + 1) c.order d)))
      (λ d. let n = not_same (v.option + 1) c.order d in
      elements_at-right known c a.is a.canonical v.pairs v.heap (v.option + 1)
      (value_turn c r v.pairs v.heap v.option e l o (omega (arith, n)))))

  -- the closure, a turn later
  module _ (known : HeapsAreKnown) (c : Certificate) (is : IsSpelled bytes limit c)
      (canonical : Canonical c) (pairs : List Pair) (exact : HavePairs c pairs)
      (elements : ElementsObey c.code (claim_of c) (IsHeapUpTo (bound_of c))) (p : closing.ClosureView)
      (k : IsClosure bytes limit c pairs p) where
    abbrev q : closing.ClosureView
    q = closing.moved p

    abbrev t : State
    t = (closing.moved p).state

    same : closing.SameData (turning.start (grid_of c) pairs limit) t
    same = let a = k.same in let b = known.same p in
        record { table = b.table ∙ a.table; heaps = b.heaps ∙ a.heaps; limit = b.limit ∙ a.limit }

    reached : t ≡ closing.turns (suc k.taken) (turning.start (grid_of c) pairs limit)
    reached = ap turning.turn k.reached

    over : IsClaimOver c.code (claim_of c) t.table t.heaps
    over =
        let r = is.lawful.in_ranges in
        let n = exact.exact.length_is in
        let of : IsClaimOver c.code (claim_of c) (grid_of c) pairs = record {
          monoid = is.lawful.monoid;
          elements = λ n _. phi_in c r n;
          order_is = refl;
          times_is = (known.agrees c r).times_is;
          heaps_are = subst (λ n. IsHeapPairs c.code (claim_of c) n pairs) (sym n) exact.exact;
        } in
        subst (λ g. IsClaimOver c.code (claim_of c) g t.heaps) (sym same.table)
        (subst (λ hs. IsClaimOver c.code (claim_of c) (grid_of c) hs) (sym same.heaps) of)

    shows : ShowsPairs t
    shows =
        subst ShowsPairs (sym reached)
        (known.shows (grid_of c) pairs limit (suc k.taken) (table_is known c is canonical)
        exact.within)

    count : length t.heaps ≡ bound_of c
    count = ap length same.heaps ∙ exact.exact.length_is

    -- the member kept breaks the rule
    broken : length p.state.members < length t.members → obeys c (newest t).pair ≡ false
        → Fits c limit (Outcome c.code (rising (word t (newest t).place)))
    broken more f =
        let keeps = known.keeps p in
        let some = keeps.last more in
        let says = shows c.code (claim_of c) over in
        let at =
        says.held (newest t)
        (Contains-get_or t.held (length t.held - 1) closing.blank_held (omega arith)) in
        let m = newest t in
        let W = word t m.place in
        let (inside, portion) = the_portion c in
        let pair =
        subst (λ x. theory.IsPairOf c.code (claim_of c) (as_pair x) W) at.1
        (says.words m.place at.0) in
        let fails =
        breach_fails inside m.pair c.code (claim_of c) W portion pair
        (rule_breaks c inside portion m.pair f) in
        let place =
        position_within c W
        (subst (λ b. IsPosition (IsHeapUpTo b) W) count (says.positions m.place at.0)) in
        let s = shuffled_rising W in (
          refl,
          (
            is.lawful.monoid,
            canonical,
            position_shuffled (IsHeapOf c) s place,
            fails_along c is.lawful W (rising W) (to_permutation s) place fails,
          ),
        )

    all_obey : (keeps_more p.state t && not (obeys c (newest t).pair)) ≡ false → (i : ℕ)
        → i < length t.held → obeys c (slice_index_or t.held i closing.blank_held).pair ≡ true
    all_obey quiet i l = elim ((known.keeps p).held i l) [
      | inl (j, b, e) ↦ subst (λ x. obeys c x ≡ true) e (k.obey j b)
      | inr (more, e) ↦
          let kept : keeps_more p.state t ≡ true = grind (arith, tests) in
          let f : not (obeys c (newest t).pair) ≡ false = rw kept at quiet in
          subst (λ x. obeys c x ≡ true) (sym e) (not_false (obeys c (newest t).pair) f)
    ]

    pub closing_right-at : IsRight bytes limit (closing_at c (keeps_more p.state t) q)
    unfolding closing_at
    closing_right-at =
        let says = shows c.code (claim_of c) over in
        by_test (IsRight bytes limit) (keeps_more p.state t && not (obeys c (newest t).pair))
        (Ended (Outcome c.code (rising (word t (newest t).place))))
        (if closing.is_over t then Ended Limit else if closing.is_done t then Ended (Yes c) else
        Closing (record { certificate = c; closure = q }))
        (λ e. let (a, b) = both (keeps_more p.state t) (not (obeys c (newest t).pair)) e in
        faulty c is (Outcome c.code (rising (word t (newest t).place)))
        (broken (less_is (length p.state.members) (length t.members) a)
        (not_true (obeys c (newest t).pair) b)) (λ d. cc))
        (λ e. by_test (IsRight bytes limit) (closing.is_over t) (Ended Limit)
        (if closing.is_done t then Ended (Yes c) else Closing
        (record { certificate = c; closure = q }))
        (λ o. faulty c is Limit (
          is.lawful.monoid,
          canonical,
          subst (ReachesMoreThan (IsHeapOf c) c.code (claim_of c)) same.limit
              (reaches_where (IsHeapUpTo (bound_of c)) (IsHeapOf c) (up_to_bound c) c.code
              (claim_of c) t.limit
              (subst (λ b. ReachesMoreThan (IsHeapUpTo b) c.code (claim_of c) t.limit) count
              (says.over o))),
        ) (λ d. cc))
        (λ _. by_test (IsRight bytes limit) (closing.is_done t) (Ended (Yes c))
        (Closing (record { certificate = c; closure = q }))
        (λ o. let closed =
        subst (λ n. IsClosed c.code (claim_of c) (IsHeapUpTo n) (kept t)) count (says.done o) in
        let (inside, portion) = the_portion c in
        let obey =
        obeying c inside portion t
        (λ i l. rule_holds c inside portion (slice_index_or t.held i closing.blank_held).pair
        (all_obey e i l)) in
        faulty c is (Yes c) (
          refl,
          known.accepted c (kept t) is.lawful.in_ranges is.lawful.monoid canonical closed
              obey elements,
        ) (λ d. cc))
        (λ _. record {
          is = is;
          canonical = canonical;
          pairs = pairs;
          exact = exact;
          elements = elements;
          closure =
              record { taken = suc k.taken; reached = reached; same = same; obey = all_obey e };
        })))

  pub closing_right : HeapsAreKnown → (s : ClosingView) → AreClosing bytes limit s
      → IsRight bytes limit (closing_turn s)
  unfolding closing_turn
  closing_right known s a =
      closing_right-at known s.certificate a.is a.canonical a.pairs a.exact a.elements s.closure
      a.closure

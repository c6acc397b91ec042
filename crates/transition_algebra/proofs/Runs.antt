-- The runs of options: a single one, splits, triples with one first part, and what is turned to once
-- all of them are tried.
-- The options tried are the first of those to come, and the values seen are theirs.
use Rattle.std.proofs.Common.{◌≡◌, ℕ, ◌+◌, ◌-◌, ◌*◌, ◌<◌, ◌≤◌, inl, inr, ◌⊎◌, Bool, true, false, List, [], ◌++◌, length, min, refl, sym, ◌∙◌, ap, ap₂, subst, arith, append_assoc}
use Rattle.std.specs.Prelude.{if◌then◌else◌}
use Rattle.std.specs.FinSet as set
use Rattle.std.specs.Ordering.{nat_cmp}
use Rattle.std.proofs.lemmas.List.{length-append, append-nil}
use Rattle.std.proofs.lemmas.List.FromFn.{length-map-range_with_len}
use native.Mathlib.Decide.{dec_le}
use Rattle.monoid_table.specs.Grids.{Grid}
use Rattle.octal_code.specs.Bits.{allows}
use Rattle.octal_code.specs.declared.leaving.Leaving.TheVariants.{TwoHeaps, ThreeHeaps}
use Rattle.heap_options.specs.Options.{splits, row, last_first, last_second, three_left}
use Rattle.heap_options.specs.Walks as walks
use Rattle.heap_options.specs.Walks.{single_left, options_from, last_part, splits_from, triples_from, splits_to_try, triples_to_try, left_at, stages, stages_left}
use Rattle.heap_options.proofs.WalkLaws.{single_then_splits, splits_off, splits_over, splits_first, three_off, triples_from_one, triples_first, next_row, no_row_left}
use Rattle.heap_options.proofs.Turns.{stage_falls, after_all_falls}
use Rattle.heap_options.specs.declared.left.Left.{Left}
use Rattle.heap_options.specs.declared.left.Left.TheVariants.{Two, Three}
use Rattle.heap_options.specs.declared.walk.Untried.{Untried}
use Rattle.heap_options.specs.declared.walk.Untried.TheVariants.{Everything, Splits, Triples}
use Rattle.monoid_table.specs.Pretending.{Pretending}
use Rattle.transition_algebra.specs.Heaps.{bound_of, largest_part}
use Rattle.transition_algebra.specs.Work.{turns}
use Rattle.transition_algebra.specs.Trials.{cuts, tried_before, seen_at, with_left, after_single, after_splits, after_triples, after_row, after_cut, IsUntried, trying_of, IsTrial, IsRun}
use Rattle.transition_algebra.specs.OverSets.{Pair, Trial}
use Rattle.transition_algebra.specs.declared.cut_values.Cut.TheVariants.{InTwo, InThree}
use Rattle.transition_algebra.proofs.Coming.{left_add, left_beside, parts_add}
use Rattle.transition_algebra.proofs.Triples.{before_next_row, before_all, before_more, none_before}
use Rattle.transition_algebra.proofs.Running.{moved_on, list_turns}

no_splits : (code : List ℕ) (n most j a : ℕ)
    → (allows code j TwoHeaps ≡ true → last_part n most j < a)
    → splits_from code n most j a ≡ []
no_splits code n most j a over = by_bit (allows code j TwoHeaps) refl
  where
    by_bit : (b : Bool) → allows code j TwoHeaps ≡ b → splits_from code n most j a ≡ []
    by_bit true e = splits_over code n most j a (over e)
    by_bit false e = splits_off code n most j a e

-- Some of them are tried where a digit allows them, and no more than there are; none where the last is
-- tried.
some_tried : (bit : Bool) (last a units r : ℕ) → r ≡ min units (if bit then last + 1 - a else 0)
    → 1 ≤ r → (bit ≡ true) × (a + r ≤ last + 1)
some_tried true last a units r count some = (refl, omega arith)
some_tried false last a units r count some = absurd (omega arith)

none_tried : (bit : Bool) (last a units r : ℕ) → r ≡ min units (if bit then last + 1 - a else 0)
    → 1 ≤ units → r ≡ 0 → bit ≡ true → last < a
none_tried true last a units r count some none is = omega arith
none_tried false last a units r count some none is = absurd (cc)

module _ (code : List ℕ) (table : Grid) (phi : Pretending) (s : Trial) (ps : List Pair)
    (units : ℕ) (is : IsTrial code table phi s ps) (going : s.walk.heap ≤ bound_of code phi) where
  abbrev n : ℕ
  n = s.walk.heap

  abbrev j : ℕ
  j = s.walk.away

  abbrev most : ℕ
  most = largest_part phi

  abbrev whole : ℕ
  whole = n - j

  -- the first of the options to come are tried
  run_more : (t : Trial) (xs : List Left) (r : ℕ) → t.bound ≡ s.bound
      → t.walk.most ≡ s.walk.most → t.walk.heap ≡ n → t.spent ≡ s.spent + r → length xs ≡ r
      → left_at code n most j s.walk.untried
      ≡ xs ++ left_at code t.walk.heap most t.walk.away t.walk.untried
      → seen_at table phi (t.walk.heap - t.walk.away) t.seen t.walk.untried
      ≡ with_left table phi (seen_at table phi whole s.seen s.walk.untried) xs
      → t.walk.away ≤ length code
      → IsUntried code t.walk.heap most t.walk.away t.walk.untried
      → r ≤ units
      → (1 ≤ r) ⊎ (stages_left code t.walk < stages_left code s.walk)
      → IsRun code table phi s t ps units r
  run_more t xs r bound same heap spent long coming seen away stage few falls =
      let rest = left_at code t.walk.heap most t.walk.away t.walk.untried in
      let enough : r ≤ length (left_at code n most j s.walk.untried) + 1 =
      let e = ap length coming ∙ length-append xs rest in omega arith in
      let reached : trying_of code table phi t ps
      ≡ turns code table phi r (trying_of code table phi s ps) =
      ap₂ (λ h v. record { heap = h; coming = rest; seen = v; pairs = ps }) heap seen
      ∙ list_turns code table phi n (seen_at table phi whole s.seen s.walk.untried) ps xs
      (left_at code n most j s.walk.untried) rest going coming
      ∙ ap (λ k. turns code table phi k (trying_of code table phi s ps)) long in
      moved_on code table phi s t ps ps units r is going reached spent enough bound same away stage
      few falls (omega arith)

  -- they take the same number away
  run_on : (u v : Untried) (t : Trial) (xs : List Left) (r : ℕ) → s.walk.untried ≡ u
      → t ≡ record s { walk = record s.walk { untried = v }; spent = s.spent + r }
      → length xs ≡ r
      → left_at code n most j u ≡ xs ++ left_at code n most j v
      → tried_before whole most v ≡ tried_before whole most u ++ xs
      → IsUntried code n most j v
      → r ≤ units
      → (1 ≤ r) ⊎ (stages n v < stages n u)
      → IsRun code table phi s t ps units r
  run_on u v t xs r from after long coming before stage few falls =
      subst (λ w. IsRun code table phi s w ps units r) (sym after)
      (run_more (record s { walk = record s.walk { untried = v }; spent = s.spent + r }) xs r refl refl
      refl refl long (ap (left_at code n most j) from ∙ coming)
      (ap (with_left table phi s.seen) before
      ∙ left_add table phi s.seen (tried_before whole most u) xs
      ∙ sym (ap (λ w. with_left table phi (seen_at table phi whole s.seen w) xs) from))
      is.away_in stage few (elim falls [
        | inl some ↦ inl some
        | inr less ↦ inr
            (stage_falls ((n + 3) * (length code - j)) (stages n v) (stages n s.walk.untried)
            (let e = ap (stages n) from in omega arith))
      ]))

  pub run_single : (t : Trial) (r : ℕ) → j < length code → s.walk.untried ≡ Everything
      → 1 ≤ units → length (single_left code n j) ≤ 1
      → r ≡ length (single_left code n j) → t ≡ after_single code table phi s
      → IsRun code table phi s t ps units r
  unfolding with_left
  run_single t r inside from some short count after =
      let xs = single_left code n j in
      subst (λ w. IsRun code table phi s w ps units r) (sym after)
      (run_more (after_single code table phi s) xs r refl refl refl (omega arith) (sym count)
      (ap (left_at code n most j) from ∙ single_then_splits code n most j inside)
      (sym (ap (λ w. with_left table phi (seen_at table phi whole s.seen w) xs) from))
      is.away_in (omega arith, λ two. absurd (omega arith)) (omega arith)
      (inr (stage_falls ((n + 3) * (length code - j)) (stages n (Splits 1))
      (stages n s.walk.untried) (let e = ap (stages n) from in omega arith))))

  pub run_splits : (t : Trial) (r a : ℕ) → s.walk.untried ≡ Splits a → 1 ≤ r
      → r ≡ min units (splits_to_try code n s.walk.most j a)
      → t ≡ after_splits s a r
      → IsRun code table phi s t ps units r
  run_splits t r a from some count after =
      let one_up : 1 ≤ a = (subst (IsUntried code n most j) from is.untried_in).0 in
      let (bit, fits) = some_tried (allows code j TwoHeaps) (last_part n most j) a units r
      (subst (λ m. r ≡ min units (splits_to_try code n m j a)) is.most_is count) some in
      let later = three_left code n most j ++ options_from code n most (j + 1) in
      let e : a + r - 1 ≡ a - 1 + r = omega arith in
      let f : 1 + (a - 1) ≡ a = omega arith in
      let part : ℕ → Left = λ b. Two b (whole - b) in
      run_on (Splits a) (Splits (a + r)) t (splits whole a r) r from after
      (length-map-range_with_len part a r)
      (ap (λ xs. xs ++ later) (splits_first code n most j a r bit fits)
      ∙ append_assoc (splits whole a r) (splits_from code n most j (a + r)) later)
      (ap (splits whole 1) e ∙ parts_add part 1 (a - 1) r
      ∙ ap (λ b. splits whole 1 (a - 1) ++ splits whole b r) f)
      (omega arith, λ two. (bit, fits)) (omega arith) (inl some)

  -- what is untried of the triples
  untried_triples : (a b : ℕ) → s.walk.untried ≡ Triples a b
      → IsUntried code n most j (Triples a b)
  untried_triples a b from = subst (IsUntried code n most j) from is.untried_in

  -- how many of them are tried
  tried_triples : (r a b : ℕ) → r ≡ min units (triples_to_try code n s.walk.most j a b)
      → r ≡ min units (triples_to_try code n most j a b)
  tried_triples r a b =
      subst (λ m. r ≡ min units (triples_to_try code n m j a b)) is.most_is

  pub run_triples : (t : Trial) (r a b : ℕ) → s.walk.untried ≡ Triples a b → 1 ≤ r
      → r ≡ min units (triples_to_try code n s.walk.most j a b)
      → t ≡ after_triples s a b r
      → IsRun code table phi s t ps units r
  run_triples t r a b from some count after =
      let (bit, one_up, order, first_in, _) = untried_triples a b from in
      let (_, fits) = some_tried (allows code j ThreeHeaps) (last_second whole most a) b units r
      (tried_triples r a b count) some in
      let later = options_from code n most (j + 1) in
      run_on (Triples a b) (Triples a (b + r)) t (row whole a b r) r from after
      (length-map-range_with_len (λ c. Three a c (whole - a - c)) b r)
      (ap (λ ys. ys ++ later) (triples_first code n most j a b r bit fits)
      ∙ append_assoc (row whole a b r) (triples_from code n most j a (b + r)) later)
      (before_more whole most a b r order)
      (bit, one_up, omega arith, first_in, λ l. fits) (omega arith) (inl some)

  pub run_row : (t : Trial) (r a b : ℕ) → s.walk.untried ≡ Triples a b → 1 ≤ units → r ≡ 0
      → r ≡ min units (triples_to_try code n s.walk.most j a b)
      → a < last_first whole s.walk.most
      → t ≡ after_row s a
      → IsRun code table phi s t ps units 0
  run_row t r a b from some zero count more after =
      let (bit, one_up, order, first_in, second_in) = untried_triples a b from in
      let tried = tried_triples r a b count in
      let none : triples_to_try code n most j a b ≡ 0 = omega arith in
      let more' : a < last_first whole most =
      subst (λ v. a < last_first whole v) is.most_is more in
      let over =
      none_tried (allows code j ThreeHeaps) (last_second whole most a) b units r tried some zero bit in
      let same : s.spent ≡ s.spent + 0 = omega arith in
      run_on (Triples a b) (Triples (a + 1) (a + 1)) t [] 0 from
      (after ∙ ap (λ m. record s {
        walk = record s.walk { untried = Triples (a + 1) (a + 1) };
        spent = m;
      }) same) refl
      (ap (λ xs. xs ++ options_from code n most (j + 1)) (next_row code n most j a b none more'))
      (before_next_row whole most a b one_up order over second_in
      ∙ sym (append-nil (tried_before whole most (Triples a b))))
      (bit, omega arith, omega arith, λ two. omega arith, λ l. absurd (omega arith))
      (omega arith) (inr (omega arith))

  -- once all splits or all triples are tried, the values seen are those of all of them
  taken : (b : Bool) (xs ys : List Left) → (b ≡ true → ys ≡ xs) → (b ≡ false → ys ≡ [])
      → (if b then set.union s.seen (with_left table phi set.empty xs) else s.seen)
      ≡ with_left table phi s.seen ys
  unfolding with_left
  taken true xs ys all none =
      left_beside table phi s.seen xs ∙ sym (ap (with_left table phi s.seen) (all refl))
  taken false xs ys all none = sym (ap (with_left table phi s.seen) (none refl))

  -- more is taken away, once nothing is to come of what takes as much
  to_more : (v : set.FinSet nat_cmp) → j < length code
      → left_at code n most j s.walk.untried ≡ options_from code n most (j + 1)
      → v ≡ seen_at table phi whole s.seen s.walk.untried
      → IsRun code table phi s (record s { walk = walks.after_all s.walk; seen = v }) ps units 0
  unfolding with_left
  to_more v inside coming seen =
      run_more (record s { walk = walks.after_all s.walk; seen = v }) [] 0 refl refl refl (omega arith)
      refl coming seen (omega arith) tt (omega arith) (inr (after_all_falls code s.walk inside))

  -- or the triples are
  to_triples : (v : set.FinSet nat_cmp) (a : ℕ) → allows code j ThreeHeaps ≡ true
      → s.walk.untried ≡ Splits a
      → left_at code n most j s.walk.untried
      ≡ three_left code n most j ++ options_from code n most (j + 1)
      → v ≡ seen_at table phi whole s.seen s.walk.untried
      → IsRun code table phi s (record s { walk = walks.at_triples s.walk; seen = v }) ps units 0
  unfolding with_left
  to_triples v a bit from coming seen =
      run_more (record s { walk = walks.at_triples s.walk; seen = v }) [] 0 refl refl refl (omega arith)
      refl
      (coming ∙ ap (λ xs. xs ++ options_from code n most (j + 1)) (triples_from_one code n most j))
      (ap (with_left table phi v) (none_before whole most) ∙ seen) is.away_in
      (bit, omega arith, omega arith, λ two. absurd (omega arith), λ l. absurd (omega arith))
      (omega arith)
      (inr (stage_falls ((n + 3) * (length code - j)) (stages n (Triples 1 1))
      (stages n s.walk.untried) (let e = ap (stages n) from in omega arith)))

  pub run_none : (t : Trial) (r a : ℕ) → r ≡ 0 → j < length code → s.walk.untried ≡ Splits a
      → 1 ≤ units → r ≡ min units (splits_to_try code n s.walk.most j a)
      → t ≡ after_cut InTwo code table phi s
      → IsRun code table phi s t ps units r
  run_none t r a zero inside from some count after =
      subst (IsRun code table phi s t ps units) (sym zero)
      (subst (λ w. IsRun code table phi s w ps units 0) (sym after)
      (by_bit (allows code j ThreeHeaps) refl))
    where
      past : allows code j TwoHeaps ≡ true → last_part n most j < a
      past =
          none_tried (allows code j TwoHeaps) (last_part n most j) a units r
          (subst (λ m. r ≡ min units (splits_to_try code n m j a)) is.most_is count) some zero

      coming : left_at code n most j s.walk.untried
          ≡ three_left code n most j ++ options_from code n most (j + 1)
      coming =
          ap (left_at code n most j) from
          ∙ ap (λ xs. xs ++ (three_left code n most j ++ options_from code n most (j + 1)))
          (no_splits code n most j a past)

      at : IsUntried code n most j (Splits a)
      at = subst (IsUntried code n most j) from is.untried_in

      all : allows code j TwoHeaps ≡ true → a - 1 ≡ last_part n most j
      all bit = let l = past bit in let one_up = at.0 in elim (dec_le 2 a) [
        | yes two ↦ let m = (at.1 two).1 in omega arith
        | no few ↦ omega arith
      ]

      none : allows code j TwoHeaps ≡ false → a - 1 ≡ 0
      none off = elim (dec_le 2 a) [
        | yes two ↦ absurd (let f = sym off ∙ (at.1 two).0 in cc)
        | no few ↦ omega arith
      ]

      seen : set.FinSet nat_cmp
      seen = (after_cut InTwo code table phi s).seen

      values : seen ≡ seen_at table phi whole s.seen s.walk.untried
      values =
          taken (allows code j TwoHeaps) (cuts InTwo whole most) (splits whole 1 (a - 1))
          (λ bit. ap (splits whole 1) (all bit)) (λ off. ap (splits whole 1) (none off))
          ∙ sym (ap (seen_at table phi whole s.seen) from)

      by_bit : (b : Bool) → allows code j ThreeHeaps ≡ b
          → IsRun code table phi s (record s {
            walk = if b then walks.at_triples s.walk else walks.after_all s.walk;
            seen = seen;
          }) ps units 0
      by_bit true e = to_triples seen a e from coming values
      by_bit false e =
          to_more seen inside
          (coming ∙ ap (λ xs. xs ++ options_from code n most (j + 1)) (three_off code n most j e))
          values

  pub run_last_row : (t : Trial) (r a b : ℕ) → j < length code → s.walk.untried ≡ Triples a b
      → 1 ≤ units → r ≡ 0
      → r ≡ min units (triples_to_try code n s.walk.most j a b)
      → last_first whole s.walk.most ≤ a
      → t ≡ after_cut InThree code table phi s
      → IsRun code table phi s t ps units 0
  run_last_row t r a b inside from some zero count last after =
      let (bit, one_up, order, first_in, second_in) = untried_triples a b from in
      let tried = tried_triples r a b count in
      let none : triples_to_try code n most j a b ≡ 0 = omega arith in
      let last' : last_first whole most ≤ a =
      subst (λ v. last_first whole v ≤ a) is.most_is last in
      let over =
      none_tried (allows code j ThreeHeaps) (last_second whole most a) b units r tried some zero bit in
      subst (λ w. IsRun code table phi s w ps units 0) (sym after)
      (to_more (after_cut InThree code table phi s).seen inside
      (ap (left_at code n most j) from
      ∙ ap (λ xs. xs ++ options_from code n most (j + 1))
      (no_row_left code n most j a b none last'))
      (taken (allows code j ThreeHeaps) (cuts InThree whole most) (tried_before whole most (Triples a b))
      (λ _. before_all whole most a b one_up order over second_in first_in last')
      (λ off. absurd (let f = sym bit ∙ off in cc))
      ∙ sym (ap (seen_at table phi whole s.seen) from)))

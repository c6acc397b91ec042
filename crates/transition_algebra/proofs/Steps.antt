-- The options of a heap, one tried after another.
-- What was tried and what is to come are all options, and the set has the values of those tried.
use Rattle.std.proofs.Common.{◌≡◌, ℕ, ◌+◌, ◌<◌, ◌↔◌, inl, inr, List, [], ◌∷◌, ◌++◌, length, refl, sym, ◌∙◌, ap, subst, arith, append_assoc, get_or}
use Rattle.std.specs.Prelude.{IsTrue}
use Rattle.std.specs.List.{Contains}
use Rattle.std.specs.Ordering.{nat_cmp}
use Rattle.std.specs.FinSet as set
use Rattle.std.proofs.lemmas.List.{append-nil, length_push, get_or_append_left}
use native.Mathlib.Decide.{dec_le}
use Rattle.std.proofs.lemmas.List.Elements.{Contains-append_left, Contains-push, Contains-push_cases}
use Rattle.misere_theory.specs.Quotients.{Claim, Monoid, HeapOptionValue}
use Rattle.heap_options.specs.declared.left.Left.{Left}
use Rattle.misere_theory.proofs.ListLaws.{nothing_in}
use Rattle.monoid_table.specs.Grids.{Grid, times_in}
use Rattle.monoid_table.specs.Pretending.{Pretending, phi_at, IsPretending, HasElement}
use Rattle.monoid_table.specs.PretendingTables.{Agrees, IsInto}
use Rattle.transition_algebra.specs.Heaps.{IsHeapPair, IsHeapPairs, left_value}
use Rattle.transition_algebra.specs.PairLaws.{has, has_insert, insert_has, empty_has}
use Rattle.transition_algebra.specs.Work.{tries}
use Rattle.transition_algebra.specs.OverSets.{Pair}
use Rattle.transition_algebra.proofs.Claims.{tried_values}

-- the set has the values of the options so far, and no others
pub record SeenSo (table : Grid) (phi : Pretending) (all yielded coming : List Left)
    (seen : set.FinSet nat_cmp) : Type 0 where
  pub so_far : yielded ++ coming ≡ all
  pub values : (x : ℕ)
      → has seen x ↔ ((left : Left) × Contains yielded left × (left_value table phi left ≡ x))

pub none_seen : (table : Grid) (phi : Pretending) (all coming : List Left)
    (seen : set.FinSet nat_cmp) → coming ≡ all → seen ≡ set.empty
    → SeenSo table phi all [] coming seen
none_seen table phi all coming seen e f = record {
  so_far = e;
  values = λ x. (
    λ h. absurd (empty_has x (subst (λ s. has s x) f h)),
    λ h. let (l, i, g) = h in
        absurd (nothing_in l i),
  );
}

pub one_more : (table : Grid) (phi : Pretending) (all yielded coming : List Left)
    (seen : set.FinSet nat_cmp) (x : Left) (v : ℕ) (old : List Left) (more : set.FinSet nat_cmp)
    → SeenSo table phi all yielded old seen → old ≡ x ∷ coming → v ≡ left_value table phi x
    → more ≡ set.insert seen v → SeenSo table phi all (yielded ++ (x ∷ [])) coming more
one_more table phi all yielded coming seen x v old more so next e ins = record {
  so_far = append_assoc yielded (x ∷ []) coming ∙ ap (λ xs. yielded ++ xs) (sym next) ∙ so.so_far;
  values = λ q. (
    λ h. elim (has_insert seen v q (subst (λ s. has s q) ins h)) [
      | inl s ↦ (x, Contains-push yielded x, sym e ∙ sym s)
      | inr s ↦ let (l, i, f) = (so.values q).0 s in
          (l, Contains-append_left yielded (x ∷ []) l i, f)
    ],
    λ h. let (l, i, f) = h in
        subst (λ s. has s q) (sym ins)
        (insert_has seen v q (elim (Contains-push_cases yielded x l i) [
          | inl m ↦ inr ((so.values q).1 (l, m, f))
          | inr s ↦ inl (sym f ∙ ap (left_value table phi) (sym s) ∙ sym e)
        ])),
  );
}

-- once all are tried, the set has the values of all options
pub all_seen : (table : Grid) → Monoid table.order (times_in table) → (phi : Pretending)
    → IsPretending phi → IsInto table phi
    → (code : List ℕ) (n : ℕ) (yielded coming : List Left) (seen : set.FinSet nat_cmp)
    → SeenSo table phi (tries code phi n) yielded coming seen
    → coming ≡ []
    → HasElement phi n
    → (c : Claim) → Agrees c table phi
    → (x : ℕ) → IsTrue (set.contains seen x) ↔ HeapOptionValue code c n x
all_seen table monoid phi pretending into code n yielded coming seen so none counts c agrees x =
    let whole : yielded ≡ tries code phi n =
    sym (append-nil yielded) ∙ ap (λ v. yielded ++ v) (sym none) ∙ so.so_far in
    let all = tried_values table monoid phi into c agrees code n counts pretending x in (
      λ h. let (l, i, e) = (so.values x).0 h in all.0 (l, subst (λ xs. Contains xs l) whole i, e),
      λ h. let (l, i, e) = all.1 h in
          (so.values x).1 (l, subst (λ xs. Contains xs l) (sym whole) i, e),
    )

-- the pair of the heap n, for every claim that agrees
abbrev pub IsTheHeapPair : List ℕ → Grid → Pretending → ℕ → Pair → Type 0
IsTheHeapPair code table phi n p = (c : Claim) → Agrees c table phi → IsHeapPair code c n p

abbrev pub AreFirstHeapPairs : List ℕ → Grid → Pretending → ℕ → List Pair → Type 0
AreFirstHeapPairs code table phi B pairs = (c : Claim) → Agrees c table phi
    → IsHeapPairs code c B pairs

pub the_pair : (table : Grid) → Monoid table.order (times_in table) → (phi : Pretending)
    → IsPretending phi → IsInto table phi
    → (code : List ℕ) (n : ℕ) (yielded coming : List Left) (p : Pair)
    → SeenSo table phi (tries code phi n) yielded coming p.options
    → coming ≡ []
    → HasElement phi n
    → p.value ≡ phi_at phi n
    → IsTheHeapPair code table phi n p
the_pair table monoid phi pretending into code n yielded coming p so none counts e c agrees =
    record {
      value_is = e ∙ sym (agrees.phi_is n counts);
      options_are =
          all_seen table monoid phi pretending into code n yielded coming p.options so none counts c
          agrees;
    }

-- one pair more
more_pairs : (code : List ℕ) (c : Claim) (B : ℕ) (ps qs : List Pair) (p : Pair)
    → IsHeapPairs code c B ps → IsHeapPair code c (B + 1) p → qs ≡ ps ++ (p ∷ [])
    → IsHeapPairs code c (B + 1) qs
more_pairs code c B ps qs p h q e = record {
  length_is = ap length e ∙ length_push ps p ∙ ap (λ n. n + 1) h.length_is;
  each = λ i d l.
      let n : length qs ≡ length ps + 1 = ap length e ∙ length_push ps p in
      let At : List Pair → Type 0 = λ xs. IsHeapPair code c (i + 1) (get_or xs i d) in
      subst At (sym e) (elim (dec_le (length ps) i) [
        | no k ↦ let here : i < length ps = omega arith in
            subst (IsHeapPair code c (i + 1)) (sym (get_or_append_left ps (p ∷ []) d i here))
            (h.each i d here)
        | yes k ↦
            let m : i ≡ length ps = omega arith in
            let b : i + 1 ≡ B + 1 = let w = h.length_is in omega arith in
            subst (λ v. IsHeapPair code c v (get_or (ps ++ (p ∷ [])) i d)) (sym b)
            (subst (IsHeapPair code c (B + 1))
            (sym (ap (λ v. get_or (ps ++ (p ∷ [])) v d) m ∙ get_or_append_here ps p d)) q)
      ]);
}
  where
    get_or_append_here : (xs : List Pair) (x d : Pair) → get_or (xs ++ (x ∷ [])) (length xs) d ≡ x
    get_or_append_here [] x d = refl
    get_or_append_here (y ∷ xs) x d = get_or_append_here xs x d

pub pairs_more : (code : List ℕ) (table : Grid) (phi : Pretending) (B : ℕ) (ps qs : List Pair)
    (p : Pair)
    → AreFirstHeapPairs code table phi B ps → IsTheHeapPair code table phi (B + 1) p
    → qs ≡ ps ++ (p ∷ []) → AreFirstHeapPairs code table phi (B + 1) qs
pairs_more code table phi B ps qs p h q e c agrees =
    more_pairs code c B ps qs p (h c agrees) (q c agrees) e

pub no_pairs : (code : List ℕ) (table : Grid) (phi : Pretending) (ps : List Pair) → ps ≡ []
    → AreFirstHeapPairs code table phi 0 ps
no_pairs code table phi ps e c agrees =
    record { length_is = ap length e; each = λ i d l. absurd (let n = ap length e in omega arith) }

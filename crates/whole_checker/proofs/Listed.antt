-- The ranks that are made are the triples of a text, one more at a time.
use Rattle.std.proofs.Common.{◌≡◌, ℕ, zero, suc, ◌+◌, ◌<◌, ◌≤◌, ◌==◌, Bool, false, List, [], ◌∷◌, ◌++◌, length, get_or, slice_index, refl, sym, ◌∙◌, ap, subst, arith, length-append}
use Rattle.std.proofs.lemmas.List.{get_or_past, get_or_push, get_or_append_left}
use native.Mathlib.Decide.{dec_lt}
use Rattle.dominance.specs.Triples.{Triple}
use Rattle.dominance_checker.specs.Ranks.{rank_at, triple_in}
use Rattle.dominance_checker.specs.declared.rank.Rank.{Rank}
use Rattle.dominance_text.specs.Said.{DominanceSaid}
use Rattle.dominance_text.specs.Labels.{listed_triple}

-- those of the heaps 0 to i
pub record AreRanks (c : DominanceSaid) (i : ℕ) (all : List Rank) : Type 0 where
  pub count : length all ≡ i + 1
  pub each : (n : ℕ) → n < i + 1 → triple_in (rank_at all n) ≡ listed_triple c n

pub first_rank : (c : DominanceSaid) → AreRanks c 0 (record { odd = false; weight = 0; lead = 0 } ∷ [])
first_rank c = record {
  count = omega arith;
  each = λ n l. let e : 0 ≡ n = omega arith in
      subst (λ n. triple_in (rank_at (record { odd = false; weight = 0; lead = 0 } ∷ []) n)
      ≡ listed_triple c n) e refl;
}

pub one_more : (c : DominanceSaid) (i : ℕ) (all : List Rank) (x : Rank) → AreRanks c i all
    → triple_in x ≡ listed_triple c (suc i) → AreRanks c (suc i) (all ++ x ∷ [])
one_more c i all x a same = record {
  count = omega (arith, length-append all (x ∷ []), a.count);
  each = λ n l. elim (dec_lt n (i + 1)) [
    | yes less ↦ ap triple_in (get_or_append_left all (x ∷ []) _ n (omega (arith, a.count)))
        ∙ a.each n less
    | no far ↦ let e : suc i ≡ n = omega arith in
        subst (λ n. triple_in (rank_at (all ++ x ∷ []) n) ≡ listed_triple c n) e
        (ap triple_in (get_or_push all x _ (suc i) (a.count ∙ (omega arith))) ∙ same)
  ];
}

pub all_ranks : (c : DominanceSaid) (all : List Rank) → AreRanks c (length c.odd) all
    → length c.weights ≡ length c.odd → length c.leads ≡ length c.odd
    → (n : ℕ) → triple_in (rank_at all n) ≡ listed_triple c n
all_ranks c all a w d n = elim (dec_lt n (length c.odd + 1)) [
  | yes l ↦ a.each n l
  | no far ↦
      ap triple_in (get_or_past all n _ (omega (arith, a.count)))
      ∙ sym (past c n (get_or_past (0 ∷ c.odd) n 0 (omega arith))
      (get_or_past (0 ∷ c.weights) n 0 (omega (arith, w))) (get_or_past (0 ∷ c.leads) n 0 (omega (arith, d))))
]
  where
    past : (c : DominanceSaid) (n : ℕ) → slice_index (0 ∷ c.odd) n ≡ 0
        → slice_index (0 ∷ c.weights) n ≡ 0 → slice_index (0 ∷ c.leads) n ≡ 0
        → listed_triple c n ≡ record { odd = false; weight = 0; lead = 0 }
    past c n p q r = rw (p, q, r) refl

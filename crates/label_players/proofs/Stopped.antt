-- Weights that stop above all leads are as good as the weights themselves.
use Rattle.std.proofs.Common.{◌≡◌, ℕ, ◌+◌, ◌-◌, ◌≤◌, max, inl, inr, ◌∙◌, ap, ap₂, subst, arith}
use Rattle.dominance.specs.Triples.{Triple, xor, times}
use Rattle.label_players.specs.declared.triples.TheConstants.{LARGEST_SUM}
use Rattle.label_players.specs.declared.triples.StoppedTriple.{StoppedTriple}
use Rattle.label_players.specs.Triples.{IsStopped, IsTripleOf}

-- of a sum
pub stopped_sum : (w v a b s : ℕ) → IsStopped w a → IsStopped v b → IsStopped (a + b) s
    → IsStopped (w + v) s
stopped_sum w v a b s p q r = elim p [
  | inl e ↦ elim q [
    | inl f ↦ subst (λ n. IsStopped n s) (ap₂ (λ x y. x + y) e f) r
    | inr g ↦ elim r [
      | inl h ↦ inr (omega (arith, g), omega (arith, g), omega (arith, g))
      | inr h ↦ inr (omega (arith, g, h), omega (arith, g, h), omega (arith, g, h))
    ]
  ]
  | inr e ↦ elim q [
    | inl f ↦ elim r [
      | inl h ↦ inr (omega (arith, e), omega (arith, e), omega (arith, e))
      | inr h ↦ inr (omega (arith, e, h), omega (arith, e, h), omega (arith, e, h))
    ]
    | inr g ↦ elim r [
      | inl h ↦ inr (omega (arith, e, g), omega (arith, e, g), omega (arith, e, g))
      | inr h ↦ inr (omega (arith, e, g, h), omega (arith, e, g, h), omega (arith, e, g, h))
    ]
  ]
]

-- what a lead keeps beside a weight
pub lead_beside : (l v b : ℕ) → l ≤ LARGEST_SUM → IsStopped v b → l - b ≡ l - v
lead_beside l v b small q = elim q [ inl e ↦ omega arith | inr g ↦ omega (arith, g) ]

-- the triple of two positions together
pub together_is : (a b r : StoppedTriple) → r.odd ≡ xor a.odd b.odd
    → IsStopped (a.weight + b.weight) r.weight → r.weight ≤ LARGEST_SUM + 1
    → r.lead ≡ max (a.lead - b.weight) (b.lead - a.weight)
    → (u v : Triple) → IsTripleOf u a → IsTripleOf v b → IsTripleOf (times u v) r
together_is a b r odd sum small lead u v p q = record {
  odd = odd ∙ ap₂ xor p.odd q.odd;
  weight = stopped_sum u.weight v.weight a.weight b.weight r.weight p.weight q.weight sum;
  lead =
      lead
      ∙ ap₂ (λ x y. max x y)
      (lead_beside a.lead v.weight b.weight p.small.1 q.weight ∙ ap (λ l. l - v.weight) p.lead)
      (lead_beside b.lead u.weight a.weight q.small.1 p.weight ∙ ap (λ l. l - u.weight) q.lead);
  small = (small, let l = p.small.1 in let m = q.small.1 in omega arith);
}

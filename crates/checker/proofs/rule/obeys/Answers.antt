use Rattle.std.proofs.Common.{◌≡◌, ◌⊎◌, Bool, true, false, not, refl, inl, inr, sym, ◌∙◌}
use Rattle.check_machine.proofs.RuleLaws.{inside_some, inside_none, outside_none, outside_stays}
use Rattle.checker.proofs.rule.obeys.Goals as goal

either : (b : Bool) → (b ≡ true) ⊎ (b ≡ false)
either true = inl refl
either false = inr refl

not_true : (b : Bool) → not b ≡ true → b ≡ false
not_true true e = absurd (cc)
not_true false e = refl

not_false : (b : Bool) → b ≡ false → not b ≡ true
not_false true e = absurd (cc)
not_false false e = refl

pub returns-then-contains-clause-yes : goal.returns-then-contains-clause-yes
returns-then-contains-clause-yes g c = λ t.
    inside_some c.args.inside.now c.args.pair.now (sym c.contains.ensures ∙ c.if-contains.true)
    (sym c.is_empty.ensures ∙ not_true _ t)

pub returns-then-contains-clause-no : goal.returns-then-contains-clause-no
returns-then-contains-clause-no g c =
    elim (either c.is_empty.result) [
      | inl t ↦ inr
          (inside_none c.args.inside.now c.args.pair.now
          (sym c.contains.ensures ∙ c.if-contains.true) (sym c.is_empty.ensures ∙ t))
      | inr f ↦ inl (not_false _ f)
    ]

pub returns-then-is_empty-clause-yes : goal.returns-then-is_empty-clause-yes
returns-then-is_empty-clause-yes g c = λ _.
    outside_none c.args.inside.now c.args.pair.now (sym c.contains.ensures ∙ c.if-contains.false)
    (sym c.is_empty-else-contains.ensures ∙ c.if-is_empty.true)

pub returns-else-is_empty-clause-no : goal.returns-else-is_empty-clause-no
returns-else-is_empty-clause-no g c =
    elim (either c.meets.result) [
      | inl t ↦ inl t
      | inr f ↦ inr
          (outside_stays c.args.inside.now c.args.pair.now
          (sym c.contains.ensures ∙ c.if-contains.false)
          (sym c.is_empty-else-contains.ensures ∙ c.if-is_empty.false)
          (λ m. let t : c.meets.result ≡ true = c.meets.ensures.1 m in cc))
    ]

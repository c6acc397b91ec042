use Rattle.std.proofs.Common.{◌∙◌, ℕ, ap, subst}
use Rattle.presented_claims.specs.Led.{RunsOn}
use Rattle.class_tables.specs.Classes.{word_at}
use Rattle.class_tables.specs.Tables.{ClassLists}
use Rattle.class_tables.proofs.separating.is_alone.Goals as goal

pub returns-in-Some : goal.returns-in-Some
returns-in-Some g c = λ t.
    subst (λ (v : ClassLists). (j : ℕ) → RunsOn v.folds (word_at v.classes c.args.x) j → ⊥) c.l.view_is
    (subst (λ f. (j : ℕ) → RunsOn f (word_at c.l.inside.classes c.args.x) j → ⊥) c.deref.ensures.value
    (subst (λ v. (j : ℕ) → RunsOn c.deref.result.now v j → ⊥) c.in-Some.ensures.1 (c.runs_none.ensures t)))

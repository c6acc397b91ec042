-- Classes that are lowered, by what was found.
use Rattle.std.proofs.Common.{◌≡◌, ℕ, ◌+◌, ◌<◌, List, length, subst}
use Rattle.presented_text.specs.Said.{PresentedSaid}
use Rattle.presented_claims.specs.Led.{weight_of}
use Rattle.class_tables.specs.Leads.{Led, Leads}
use Rattle.class_tables.specs.Classes.{word_at}
use Rattle.class_tables.specs.Tables.{ClassLists}
use Rattle.class_tables.specs.Separated.{DoDiffer, HaveOwn, AreLowered, IsLowered}

module _ (c : PresentedSaid) (l : ClassLists) (ws : List ℕ) where
  record AreFound (one other : Led) (base folds : List (ℕ × ℕ)) (a b z : List ℕ) : Type 0 where
    leads : Leads c base folds ws a z one
    leads_other : Leads c base folds ws b z other
    lighter : weight_of ws one.to + weight_of ws other.to < weight_of ws a + weight_of ws b
    differ : (i : ℕ) × DoDiffer base folds a b one other i

  pub lowered-by : (x y w : ℕ) (base folds : List (ℕ × ℕ)) (a b z : List ℕ) (one other : Led)
      → base ≡ l.base → folds ≡ l.folds
      → (x < length l.classes) × (a ≡ word_at l.classes x)
      → (y < length l.classes) × (b ≡ word_at l.classes y)
      → (w < length l.labels) × (z ≡ word_at l.labels w)
      → Leads c base folds ws a z one → Leads c base folds ws b z other
      → weight_of ws one.to + weight_of ws other.to < weight_of ws a + weight_of ws b
      → (i : ℕ) × DoDiffer base folds a b one other i → AreLowered c l ws x y w
  lowered-by x y w base folds a b z one other base_is folds_is x_at y_at w_at leads leads_other lighter differ =
      let found : AreFound one other l.base l.folds (word_at l.classes x) (word_at l.classes y) (word_at l.labels w) =
      subst (λ v. AreFound one other v l.folds (word_at l.classes x) (word_at l.classes y) (word_at l.labels w)) base_is
      (subst (λ v. AreFound one other base v (word_at l.classes x) (word_at l.classes y) (word_at l.labels w)) folds_is
      (subst (λ v. AreFound one other base folds v (word_at l.classes y) (word_at l.labels w)) x_at.1
      (subst (λ v. AreFound one other base folds a v (word_at l.labels w)) y_at.1
      (subst (AreFound one other base folds a b) w_at.1
      (record { leads = leads; leads_other = leads_other; lighter = lighter; differ = differ }))))) in
      record {
        inside = w_at.0;
        one = one;
        other = other;
        leads = found.leads;
        leads_other = found.leads_other;
        lighter = found.lighter;
        differ = found.differ;
      }

  record IsFound (one : Led) (base folds : List (ℕ × ℕ)) (a z : List ℕ) : Type 0 where
    leads : Leads c base folds ws a z one
    lighter : weight_of ws one.to < weight_of ws a
    own : HaveOwn folds a one

  pub class-by : (x w : ℕ) (base folds : List (ℕ × ℕ)) (a z : List ℕ) (one : Led)
      → base ≡ l.base → folds ≡ l.folds
      → (x < length l.classes) × (a ≡ word_at l.classes x)
      → (w < length l.labels) × (z ≡ word_at l.labels w)
      → Leads c base folds ws a z one → weight_of ws one.to < weight_of ws a → HaveOwn folds a one → IsLowered c l ws x w
  class-by x w base folds a z one base_is folds_is x_at w_at leads lighter own =
      let found : IsFound one l.base l.folds (word_at l.classes x) (word_at l.labels w) =
      subst (λ v. IsFound one v l.folds (word_at l.classes x) (word_at l.labels w)) base_is
      (subst (λ v. IsFound one base v (word_at l.classes x) (word_at l.labels w)) folds_is
      (subst (λ v. IsFound one base folds v (word_at l.labels w)) x_at.1
      (subst (IsFound one base folds a) w_at.1 (record { leads = leads; lighter = lighter; own = own })))) in
      record { inside = w_at.0; one = one; leads = found.leads; lighter = found.lighter; own = found.own }

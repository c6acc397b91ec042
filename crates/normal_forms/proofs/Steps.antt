-- Reductions: each falls in rank, so that every word reduces to a standard one, which is related to it.
use Rattle.std.proofs.Common.{◌≡◌, ◌⊎◌, ℕ, zero, suc, ◌<◌, List, [], ◌∷◌, length, refl, ap, ◌∙◌, inl, inr, arith}
use Rattle.std.specs.Prelude.{All, Contains}
use Rattle.std.proofs.lemmas.Bool.{cases_eq}
use Rattle.std.proofs.lemmas.List.Elements.{All-contains, All-nil, All-cons, Contains-append_right}
use Rattle.presentations.specs.Vectors.{plus}
use Rattle.presentations.specs.Congruences.{Related}
use Rattle.presentations.specs.Congruences.Related.{Given, Same, Chained, Beside}
use Rattle.presentations.proofs.VectorLaws.{plus-assoc}
use Rattle.relations.specs.Bases.{Divides, Precedes}
use Rattle.normal_forms.specs.Reductions.{minus, IsReduction, ReducesTo, AreOriented}
use Rattle.normal_forms.specs.Reductions.ReducesTo.{Stays, Goes}
use Rattle.normal_forms.specs.Forms.{IsStandard, IsNormalForm, NormalForms}
use Rattle.normal_forms.proofs.Words.{length-sum, length-minus, rest-sum, decide-divides}
use Rattle.normal_forms.proofs.Ranks.{rank, rank-less, precedes-plus}

module _ (n : ℕ) (relations : List (List ℕ × List ℕ)) where
  pub reduces-trans : (u v w : List ℕ) → ReducesTo n relations u v → ReducesTo n relations v w
      → ReducesTo n relations u w
  reduces-trans u v w (Stays x) r = r
  reduces-trans u v w (Goes s x y z at step more) r =
      Goes s x y w at step (reduces-trans y z w more r)

  -- beside a word
  pub reduces-beside : (u v z : List ℕ) → length z ≡ n → ReducesTo n relations u v
      → ReducesTo n relations (plus u z) (plus v z)
  reduces-beside u v z long (Stays x) = Stays (plus x z)
  reduces-beside u v z long (Goes r x y w at step more) =
      Goes r (plus x z) (plus y z) (plus w z) at
      (record {
        rest = plus step.rest z;
        long = length-sum n step.rest z step.long long;
        before = ap (λ t. plus t z) step.before ∙ plus-assoc r.0 step.rest z;
        after = ap (λ t. plus t z) step.after ∙ plus-assoc r.1 step.rest z;
      }) (reduces-beside y w z long more)

  pub step-related : (r : List ℕ × List ℕ) (w u : List ℕ) → Contains relations r
      → IsReduction n r w u → Related n relations w u
  step-related r w u at step =
      rw (step.before, step.after) (Beside r.0 r.1 step.rest step.long (Given r at))

  pub reduces-related : (w u : List ℕ) → length u ≡ n → ReducesTo n relations w u
      → Related n relations w u
  reduces-related w u long (Stays x) = Same x long
  reduces-related w u long (Goes r x y z at step more) =
      Chained x y z (step-related r x y at step) (reduces-related y z long more)

  -- the relation that can reduce the word, if one can
  pub decide : (rs : List (List ℕ × List ℕ)) (w : List ℕ)
      → ((r : List ℕ × List ℕ) × Contains rs r × Divides n r.0 w)
      ⊎ All (λ r. Divides n r.0 w → ⊥) rs
  decide [] w = inr (All-nil (λ r. Divides n r.0 w → ⊥))
  decide (r ∷ rs) w = elim (decide-divides n r.0 w) [
    | inl here ↦ inl (r, (0, omega arith, refl), here)
    | inr none ↦
        elim (decide rs w) [
          | inl found ↦
              inl (found.0, Contains-append_right (r ∷ []) rs found.0 found.1, found.2)
          | inr free ↦ inr (All-cons (λ s. Divides n s.0 w → ⊥) r rs none free)
        ]
  ]

  module _ (are : AreOriented n relations) where
    pub left-long : (r : List ℕ × List ℕ) → Contains relations r → length r.0 ≡ n
    left-long r at =
        (All-contains (λ s. (length s.0 ≡ n) × (length s.1 ≡ n)) relations r are.long at).0

    pub right-long : (r : List ℕ × List ℕ) → Contains relations r → length r.1 ≡ n
    right-long r at =
        (All-contains (λ s. (length s.0 ≡ n) × (length s.1 ≡ n)) relations r are.long at).1

    pub rule-falls : (r : List ℕ × List ℕ) → Contains relations r → Precedes n r.1 r.0
    rule-falls r at = All-contains (λ s. Precedes n s.1 s.0) relations r are.falls at

    pub step-falls : (r : List ℕ × List ℕ) (w u : List ℕ) → Contains relations r
        → IsReduction n r w u → rank n u < rank n w
    step-falls r w u at step =
        rw (step.before, step.after)
        (rank-less n (plus r.1 step.rest) (plus r.0 step.rest)
        (precedes-plus n r.1 r.0 step.rest (rule-falls r at)))

    pub step-long : (r : List ℕ × List ℕ) (w u : List ℕ) → Contains relations r
        → IsReduction n r w u → length u ≡ n
    step-long r w u at step =
        ap length step.after ∙ length-sum n r.1 step.rest (right-long r at) step.long

    pub reduces-long : (w u : List ℕ) → length w ≡ n → ReducesTo n relations w u → length u ≡ n
    reduces-long w u long (Stays x) = long
    reduces-long w u long (Goes r x y z at step more) =
        reduces-long y z (step-long r x y at step) more

    -- the step by a relation whose left word is in the word
    pub step-of : (r : List ℕ × List ℕ) (w : List ℕ) → Contains relations r → length w ≡ n
        → Divides n r.0 w → IsReduction n r w (plus r.1 (minus w r.0))
    step-of r w at long divides = record {
      rest = minus w r.0;
      long = length-minus w r.0 ∙ long;
      before = rest-sum n r.0 w (left-long r at) long divides;
      after = refl;
    }

    pub record Reduced (w : List ℕ) : Type 0 where
      pub word : List ℕ
      pub standard : IsStandard n relations word
      pub reduces : ReducesTo n relations w word

    reduced-by : (w : List ℕ) (r : List ℕ × List ℕ) (u : List ℕ) → Contains relations r
        → IsReduction n r w u → Reduced u → Reduced w
    reduced-by w r u at step from = record {
      word = from.word;
      standard = from.standard;
      reduces = Goes r w u from.word at step from.reduces;
    }

    reduced-within : (fuel : ℕ) (w : List ℕ) → rank n w < fuel → length w ≡ n → Reduced w
    reduced-within zero w lt long = absurd (omega (arith, lt))
    reduced-within (suc fuel) w lt long = elim (decide relations w) [
      | inl found ↦
          let r = found.0 in
          let u = plus r.1 (minus w r.0) in
          let step = step-of r w found.1 long found.2 in
          reduced-by w r u found.1 step
          (reduced-within fuel u
          (omega (arith, lt, step-falls r w u found.1 step)) (step-long r w u found.1 step))
      | inr free ↦
          record {
            word = w;
            standard = record { long = long; free = free };
            reduces = Stays w;
          }
    ]

    -- every word reduces to a standard one
    pub reduced : (w : List ℕ) → length w ≡ n → Reduced w
    reduced w long = reduced-within (suc (rank n w)) w (omega arith) long

    normal : (w : List ℕ) (long : length w ≡ n)
        → IsNormalForm n relations w (reduced w long).word
    normal w long =
        let found = reduced w long in
        record {
          standard = found.standard;
          related = reduces-related w found.word found.standard.long found.reduces;
        }

    formed : (w : List ℕ) → (length w ≡ n) ⊎ (length w ≡ n → ⊥) → List ℕ
    formed w (inl long) = (reduced w long).word
    formed w (inr other) = w

    is-formed : (w : List ℕ) (c : (length w ≡ n) ⊎ (length w ≡ n → ⊥)) → length w ≡ n
        → IsNormalForm n relations w (formed w c)
    unfolding formed
    is-formed w (inl long) e = normal w long
    is-formed w (inr other) e = absurd (other e)

    pub forms : NormalForms n relations
    forms = record {
      form = λ w. formed w (cases_eq (length w) n);
      is = λ w long. is-formed w (cases_eq (length w) n) long;
    }

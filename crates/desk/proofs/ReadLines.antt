-- Scripts that are read line by line.
use Rattle.std.proofs.Common.{◌≡◌, ◌≢◌, ◌∙◌, ◌+◌, ◌==◌, ℕ, Bool, true, false, List, [], ◌∷◌, ◌++◌, append_assoc, ap, append-nil, arith, length, refl, subst, sym}
use Rattle.std.proofs.lemmas.Bool.{eqb-true}
use Rattle.std.proofs.lemmas.List.{map-append}
use Rattle.desk.specs.declared.step.Step.{Step as StepGiven}
use Rattle.desk.specs.Views.{step_of, steps_of}
use Rattle.desk.specs.Scripts.{AreSteps, BeginsOtherwise, BeginsWith, IsFirstOther}
use Rattle.desk.specs.Scripts.AreSteps.{NoLine, Line}
use Rattle.desk.specs.Steps.{Lacks, Spells, Step}

-- one line more
are_more : {front line : List ℕ} {steps : List Step} {step : Step} → AreSteps front steps
    → Lacks 10 line → Spells line step
    → AreSteps (front ++ (line ++ 10 ∷ [])) (steps ++ step ∷ [])
are_more NoLine lacks s = Line lacks s NoLine
are_more {line = line} {steps = steps} {step = step} (Line {line = first} {rest = rest} l f more)
    lacks s =
    subst (λ (t : List ℕ). AreSteps t (steps ++ step ∷ []))
    (sym (append_assoc first (10 ∷ rest) (line ++ 10 ∷ []))) (Line l f (are_more more lacks s))

behind : (script front rest line back : List ℕ) → script ≡ front ++ rest → rest ≡ line ++ 10 ∷ back
    → script ≡ (front ++ (line ++ 10 ∷ [])) ++ back
behind script front rest line back is first =
    is ∙ ap (λ (t : List ℕ). front ++ t) (first ∙ sym (append_assoc line (10 ∷ []) back))
    ∙ sym (append_assoc front (line ++ 10 ∷ []) back)

abbrev pub IsRead : List ℕ → List ℕ → List Step → Type 0
IsRead script rest steps = (front : List ℕ) × (script ≡ front ++ rest) × AreSteps front steps

pub none_read : (script : List ℕ) → IsRead script script []
none_read script = ([], refl, NoLine)

pub one_more_read : (script rest back : List ℕ) (steps new : List Step) (step : Step)
    → IsRead script rest steps → BeginsWith rest step back
    → new ≡ steps ++ step ∷ [] → IsRead script back new
one_more_read script rest back steps new step r b is =
    subst (λ (s : List Step). IsRead script back s) (sym is)
    (r.0 ++ (b.0 ++ 10 ∷ []), behind script r.0 rest b.0 back r.1 b.1, are_more r.2 b.2 b.3)

pub first_other : (script rest : List ℕ) (steps : List Step) (n : ℕ) → IsRead script rest steps
    → rest ≢ [] → BeginsOtherwise rest
    → n ≡ length steps + 1 → IsFirstOther script n
first_other script rest steps n r some other is =
    record {
      front = r.0;
      back = rest;
      steps = steps;
      script_is = r.1;
      are_steps = r.2;
      number_is = is;
      some = some;
      other = other;
    }

pub not_empty : (b : Bool) (xs : List ℕ) → b ≡ false → b ≡ (length xs == 0) → xs ≢ []
not_empty b [] f h e = let no_test : false ≡ true = sym f ∙ h in absurd cc
not_empty b (x ∷ xs) f h e = absurd (let t : length (x ∷ xs) ≡ 0 = ap length e in omega arith)

pub is_nothing : (b : Bool) (xs : List ℕ) → b ≡ true → b ≡ (length xs == 0) → xs ≡ []
is_nothing b [] t h = refl
is_nothing b (x ∷ xs) t h =
    absurd (let none : length (x ∷ xs) ≡ 0 = eqb-true (length (x ∷ xs)) 0 (sym h ∙ t) in
    omega arith)

pub steps_more : {A : Type 0} (old new : List (StepGiven A)) (step : StepGiven A)
    → new ≡ old ++ step ∷ [] → steps_of new ≡ steps_of old ++ step_of step ∷ []
steps_more old new step is = ap steps_of is ∙ map-append step_of old (step ∷ [])

pub all_read : (script rest : List ℕ) (steps : List Step) → IsRead script rest steps → rest ≡ []
    → AreSteps script steps
all_read script rest steps r none =
    subst (λ (t : List ℕ). AreSteps t steps)
    (sym (r.1 ∙ ap (λ (t : List ℕ). r.0 ++ t) none ∙ append-nil r.0)) r.2

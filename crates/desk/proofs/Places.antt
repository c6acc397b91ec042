-- Places of jobs, and the state after one job was changed.
-- A client and a number have a place of their own, so that no other job changes.
use Rattle.std.proofs.Common.{◌≡◌, ◌≢◌, ℕ, ◌+◌, ◌-◌, ◌*◌, ◌≤◌, ◌==◌, Bool, true, false, if◌then◌else◌, List, Option, Some, None, refl, sym, ◌∙◌, ap, arith}
use Rattle.std.proofs.lemmas.Bool.{eq-eqb, eqb-true}
use Rattle.std.proofs.lemmas.Grind.{common_steps}
use mathlib.Core.Path.{fun_ext}
use Rattle.checker.specs.JobViews.{JobView}
use Rattle.desk.specs.declared.client.TheConstants.{MOST_CLIENTS, MOST_JOBS}
use Rattle.desk.specs.Places.{place_of}
use Rattle.desk.specs.Machine.{Jobs, with_job, with_jobs}
use Rattle.desk.specs.Desks.{job_at, state_of, IsWith}
use Rattle.desk.proofs.Lists.{with_here, with_other}

pub record IsPlace (client number place : ℕ) : Type 0 where
  pub client_in : (1 ≤ client) × (client ≤ MOST_CLIENTS)
  pub number_in : (1 ≤ number) × (number ≤ MOST_JOBS)
  pub place_is : place ≡ MOST_JOBS * (client - 1) + (number - 1)

pub place_is : (client number place : ℕ) → place_of client number ≡ Some place
    → IsPlace client number place
place_is client number place e =
    record {
      client_in = grind (arith, common_steps);
      number_in = grind (arith, common_steps);
      place_is = grind (arith, common_steps);
    }

pub places_differ : (c n d m place : ℕ) → place_of c n ≡ Some place → place_of d m ≡ Some place
    → (c ≡ d) × (n ≡ m)
places_differ c n d m place e f =
    let p = place_is c n place e in
    let q = place_is d m place f in
    (omega arith, omega arith)

differ : (i j : ℕ) → (i == j) ≡ false → i ≢ j
differ i j e = λ same. let t : (i == j) ≡ true = eq-eqb i j same in absurd (cc)

-- the machine's state after one job was changed
state_case : (old new : List (Option JobView)) (c n place : ℕ) (job : Option JobView)
    → place_of c n ≡ Some place → IsWith old place job new
    → (d m : ℕ) (o : Option ℕ) → place_of d m ≡ o → (a : Bool) → (c == d) ≡ a → (b : Bool)
    → (n == m) ≡ b
    → job_at new o ≡ (if a then (if b then job else job_at old (place_of c m)) else job_at old o)
state_case old new c n place job at w d m o is true e true f =
    let same_c : c ≡ d = eqb-true c d e in
    let same_n : n ≡ m = eqb-true n m f in
    let here : o ≡ Some place =
    sym is ∙ (ap (λ k. place_of k m) (sym same_c) ∙ (ap (λ k. place_of c k) (sym same_n) ∙ at))
    in
    ap (λ k. job_at new k) here ∙ with_here old new place job w
state_case old new c n place job at w d m None is true e false f =
    let same_c : c ≡ d = eqb-true c d e in
    ap (λ k. job_at old k) (sym is ∙ ap (λ k. place_of k m) (sym same_c))
state_case old new c n place job at w d m (Some i) is true e false f =
    let same_c : c ≡ d = eqb-true c d e in
    with_other old new place i job w
    (λ h. differ n m f (places_differ c n d m place at (is ∙ ap Some (sym h))).1)
    ∙ ap (λ k. job_at old k) (sym is ∙ ap (λ k. place_of k m) (sym same_c))
state_case old new c n place job at w d m None is false e b f = refl
state_case old new c n place job at w d m (Some i) is false e b f =
    with_other old new place i job w
    (λ h. differ c d e (places_differ c n d m place at (is ∙ ap Some (sym h))).0)

-- a choice of functions, at an argument
choice_at : (a : Bool) (f g : Jobs) (m : ℕ) → (if a then f m else g m) ≡ (if a then f else g) m
choice_at true f g m = refl
choice_at false f g m = refl

pub state_with : (old new : List (Option JobView)) (c n place : ℕ) (job : Option JobView)
    → place_of c n ≡ Some place → IsWith old place job new
    → state_of new ≡ with_jobs (state_of old) c (with_job (state_of old c) n job)
state_with old new c n place job at w =
    fun_ext
    (λ d. fun_ext
    (λ m. state_case old new c n place job at w d m (place_of d m) refl (c == d) refl
    (n == m) refl ∙ choice_at (c == d) (with_job (state_of old c) n job) (state_of old d) m))

-- Steps of the machine.
-- What a call does to slots and cores is a step on the jobs that are seen.
use Rattle.std.proofs.Common.{◌≡◌, ◌≢◌, ℕ, ◌+◌, ◌≤◌, ◌==◌, Bool, true, false, if◌then◌else◌, List, Option, Some, None, refl, sym, ◌∙◌, ap, subst, inl, inr, get_or, min}
use Rattle.std.proofs.lemmas.Bool.{eqb-true}
use mathlib.Core.Path.{fun_ext}
use Rattle.answers.specs.ByteVerdicts.ByteVerdict.{Memory}
use Rattle.check_machine.specs.Turns.{cost, verdict}
use Rattle.checker.specs.JobViews.{JobView}
use Rattle.desk.specs.Places.{place_of}
use Rattle.desk.specs.Machine.{Jobs, State, Event, Reply, Serves, Step, RunsOut, Works, Opens, Drops, NoneAsFar, is_free, least_free, with_job, with_jobs, fresh, worked, out_of_memory}
use Rattle.desk.specs.Machine.Event.{Work, Open, Drop}
use Rattle.desk.specs.Machine.Reply.{Opened, Dropped, Full, NoJob, NoMemory}
use Rattle.desk.specs.Deeds.{shown_reply}
use Rattle.desk.specs.Desks.{job_at, state_of, IsWith, NoneAsFarIn, HaveWorked}
use Rattle.desk.proofs.Lists.{with_here}
use Rattle.desk.proofs.Places.{state_with}

pub state_at : (jobs : List (Option JobView)) (c n place : ℕ) → place_of c n ≡ Some place
    → state_of jobs c n ≡ get_or jobs place None
state_at jobs c n place at = ap (job_at jobs) at

same_case : (s : State) (c d : ℕ) (b : Bool) → (c == d) ≡ b → s d ≡ (if b then s c else s d)
same_case s c d true e = ap s (sym (eqb-true c d e))
same_case s c d false e = refl

-- a client's jobs stay
pub with_same : (s : State) (c : ℕ) → s ≡ with_jobs s c (s c)
with_same s c = fun_ext (λ d. same_case s c d (c == d) refl)

-- a step that changes no job
pub same_step : (s : State) (c : ℕ) (e f : Event) (reply : Reply) → e ≡ f
    → Serves cost verdict (s c) f reply (s c)
    → Step cost verdict s (record { client = c; event = e }) reply s
same_step s c e f reply is serves = (
  s c,
  inl (subst (λ (g : Event). Serves cost verdict (s c) g reply (s c)) (sym is) serves),
  with_same s c,
)

first_case : (jobs : List (Option JobView)) (bytes : List ℕ) (limit spent : ℕ)
    → NoneAsFarIn jobs bytes limit spent
    → (o : Option ℕ) (job : JobView) → job_at jobs o ≡ Some job → job.ended ≢ Some Memory
    → job.bytes ≡ bytes → job.limit ≡ limit → spent ≤ job.spent → ⊥
first_case jobs bytes limit spent first None job at = absurd (cc)
first_case jobs bytes limit spent first (Some i) job at = first i job at

pub first_at : (jobs : List (Option JobView)) (bytes : List ℕ) (limit spent : ℕ)
    → NoneAsFarIn jobs bytes limit spent → NoneAsFar (state_of jobs) bytes limit spent
first_at jobs bytes limit spent first =
    λ client number job at. first_case jobs bytes limit spent first (place_of client number) job at

module _ (old new : List (Option JobView)) (c n units : ℕ) where
  pub work_nowhere : place_of c n ≡ None
      → Step cost verdict (state_of old) (record { client = c; event = Work n units })
      (shown_reply (state_of old c n)) (state_of old)
  work_nowhere at = same_step (state_of old) c _ (Work n units) _ refl
      (subst (λ (o : Option ℕ). Works cost verdict (state_of old c) n units (job_at old o)
      (shown_reply (job_at old o)) (state_of old c)) (sym at) (refl, refl))

  work_case : (place : ℕ) → place_of c n ≡ Some place → (o : Option JobView)
      → get_or old place None ≡ o → HaveWorked old place o units new
      → Step cost verdict (state_of old) (record { client = c; event = Work n units })
      (shown_reply (state_of new c n)) (state_of new)
  work_case place at None is same =
      subst (λ (jobs : List (Option JobView)). Step cost verdict (state_of old)
      (record { client = c; event = Work n units }) (shown_reply (state_of jobs c n))
      (state_of jobs)) (sym same) (same_step (state_of old) c _ (Work n units) _ refl
      (subst (λ (q : Option JobView). Works cost verdict (state_of old c) n units q
      (shown_reply q) (state_of old c)) (sym (state_at old c n place at ∙ is)) (refl, refl)))
  work_case place at (Some job) is (inl with) =
      let here : state_of old c n ≡ Some job = state_at old c n place at ∙ is in
      let now : state_of new c n ≡ Some (worked cost verdict job units) =
      state_at new c n place at ∙ with_here old new place (Some (worked cost verdict job units))
      with in
      let jobs : Jobs = with_job (state_of old c) n (Some (worked cost verdict job units)) in (
        jobs,
        inl (subst
            (λ (q : Option JobView). Works cost verdict (state_of old c) n units q
            (shown_reply (state_of new c n)) jobs) (sym here) (ap shown_reply now, refl)),
        state_with old new c n place (Some (worked cost verdict job units)) at with,
      )
  work_case place at (Some job) is (inr wanting) =
      let here : state_of old c n ≡ Some job = state_at old c n place at ∙ is in
      let now : state_of new c n ≡ Some (out_of_memory job) =
      state_at new c n place at ∙ with_here old new place (Some (out_of_memory job)) wanting.jobs_are
      in
      let jobs : Jobs = with_job (state_of old c) n (Some (out_of_memory job)) in (
        jobs,
        inr (subst
            (λ (q : Option JobView). RunsOut cost verdict (state_of old) (state_of old c) n units q
            (shown_reply (state_of new c n)) jobs) (sym here) (
              wanting.going,
              wanting.within,
              first_at old job.bytes job.limit (min (job.spent + units) (cost job.bytes job.limit))
                  wanting.first,
              ap shown_reply now,
              refl,
            )),
        state_with old new c n place (Some (out_of_memory job)) at wanting.jobs_are,
      )

  pub work_step : (place : ℕ) → place_of c n ≡ Some place
      → HaveWorked old place (get_or old place None) units new
      → Step cost verdict (state_of old) (record { client = c; event = Work n units })
      (shown_reply (state_of new c n)) (state_of new)
  work_step place at h = work_case place at (get_or old place None) refl h

module _ (old new : List (Option JobView)) (c : ℕ) (bytes : List ℕ) (limit : ℕ) where
  pub open_step : (n place : ℕ) → place_of c n ≡ Some place → least_free (state_of old c) ≡ Some n
      → IsWith old place (Some (fresh bytes limit)) new
      → Step cost verdict (state_of old) (record { client = c; event = Open bytes limit })
      (Opened n) (state_of new)
  open_step n place at free with =
      let jobs : Jobs = with_job (state_of old c) n (Some (fresh bytes limit)) in (
        jobs,
        inl (subst (λ (o : Option ℕ). Opens (state_of old c) bytes limit o (Opened n) jobs)
            (sym free) (refl, refl)),
        state_with old new c n place (Some (fresh bytes limit)) at with,
      )

  pub open_full : least_free (state_of old c) ≡ None
      → Step cost verdict (state_of old) (record { client = c; event = Open bytes limit }) Full
      (state_of old)
  open_full full = same_step (state_of old) c _ (Open bytes limit) Full refl
      (subst (λ (o : Option ℕ). Opens (state_of old c) bytes limit o Full (state_of old c))
      (sym full) (refl, refl))

  pub open_starved : (n : ℕ) → least_free (state_of old c) ≡ Some n → NoneAsFarIn old bytes limit 0
      → new ≡ old
      → Step cost verdict (state_of old) (record { client = c; event = Open bytes limit }) NoMemory
      (state_of new)
  open_starved n free first same =
      let no : least_free (state_of old c) ≢ None = λ e. absurd (cc) in (
        state_of old c,
        inr (no, first_at old bytes limit 0 first, refl, refl),
        ap state_of same ∙ with_same (state_of old) c,
      )

module _ (old new : List (Option JobView)) (c n : ℕ) where
  drop_case : (place : ℕ) → place_of c n ≡ Some place → (o : Option JobView)
      → get_or old place None ≡ o → is_free o ≡ false → IsWith old place None new
      → Step cost verdict (state_of old) (record { client = c; event = Drop n }) Dropped
      (state_of new)
  drop_case place at None is held with = absurd (cc)
  drop_case place at (Some job) is held with =
      let here : state_of old c n ≡ Some job = state_at old c n place at ∙ is in
      let jobs : Jobs = with_job (state_of old c) n None in (
        jobs,
        inl (subst (λ (q : Option JobView). Drops (state_of old c) n q Dropped jobs) (sym here)
            (refl, refl)),
        state_with old new c n place None at with,
      )

  pub drop_step : (place : ℕ) → place_of c n ≡ Some place → is_free (get_or old place None) ≡ false
      → IsWith old place None new
      → Step cost verdict (state_of old) (record { client = c; event = Drop n }) Dropped
      (state_of new)
  drop_step place at held with = drop_case place at (get_or old place None) refl held with

  pub drop_nothing : state_of old c n ≡ None → new ≡ old
      → Step cost verdict (state_of old) (record { client = c; event = Drop n }) NoJob
      (state_of new)
  drop_nothing none same =
      subst (λ (jobs : List (Option JobView)). Step cost verdict (state_of old)
      (record { client = c; event = Drop n }) NoJob (state_of jobs)) (sym same)
      (same_step (state_of old) c _ (Drop n) NoJob refl
      (subst (λ (q : Option JobView). Drops (state_of old c) n q NoJob (state_of old c))
      (sym none) (refl, refl)))

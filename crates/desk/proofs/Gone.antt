-- A slot has gone on, and with it its core.
-- The job at its place has worked as the machine has it, and no other job has changed.
use Rattle.std.proofs.Common.{◌≡◌, ◌≢◌, ℕ, ◌+◌, ◌<◌, ◌≤◌, List, length, Option, Some, None, refl, sym, ◌∙◌, ap, subst, inl, inr, arith, get_or, set, min}
use Rattle.std.proofs.lemmas.List.{get_or_default, length-set}
use Rattle.answers.specs.ByteVerdicts.{ByteVerdict}
use Rattle.answers.specs.ByteVerdicts.ByteVerdict.{Memory}
use Rattle.check_machine.specs.Turns.{cost, verdict}
use Rattle.checker.specs.JobViews.{JobView}
use Rattle.desk.specs.declared.slot.Slot.{Slot}
use Rattle.desk.specs.declared.slot.Standing.{Standing}
use Rattle.desk.specs.declared.slot.Standing.TheVariants.{Going, Ended, OutOfMemory}
use Rattle.desk.specs.Slots.{ending, job_of, StandsBeside, IsFurthest, HasGoneOn}
use Rattle.desk.specs.Machine.{out_of_memory, worked, worked_on}
use Rattle.desk.specs.Desks.{core_at, slot_at, seen, job_in, jobs_in, IsDesk, HasSlot, IsWith, NoneAsFarIn, HaveWorked}
use Rattle.desk.proofs.Few.{few_still}
use Rattle.desk.proofs.Lists.{is_with, with_here, with_item, with_other, with_set, some_within}
use Rattle.desk.proofs.Seen.{is_seen, job_at_place}

beside_same : (d : Standing) (spent : ℕ) (core new : JobView) → new.bytes ≡ core.bytes
    → new.limit ≡ core.limit → (core.ended ≢ None → new ≡ core)
    → StandsBeside d spent core → StandsBeside d spent new
beside_same Ended spent core new b l ended h =
    let same : new ≡ core =
    ended (λ none. let ending : core.ended ≡ Some (verdict core.bytes core.limit) = h.1 in
    absurd (cc)) in
    subst (λ (c : JobView). (spent ≡ cost c.bytes c.limit)
    × (c.ended ≡ Some (verdict c.bytes c.limit))) (sym same) h
beside_same other spent core new b l ended h =
    let e : cost new.bytes new.limit ≡ cost core.bytes core.limit = cc in omega arith

job_same : (core new : JobView) (s : Slot) → new.bytes ≡ core.bytes → new.limit ≡ core.limit
    → job_of new s ≡ job_of core s
job_same core new s b l = rw (b, l) refl

not_out_of_memory : (d : Standing) (v : ByteVerdict) → ending d v ≢ Some Memory → d ≢ OutOfMemory
not_out_of_memory OutOfMemory v h = λ e. h refl
not_out_of_memory other v h = λ e. absurd (cc)

pub core_within : (places : List (Option Slot)) (cores : List (Option JobView)) (i : ℕ) (s : Slot)
    → IsDesk places cores → get_or places i None ≡ Some s → s.core < length cores
core_within places cores i s desk at = let held = desk.held i s at in
    some_within cores s.core held.0 held.1

module _ (places : List (Option Slot)) (cores : List (Option JobView)) (i : ℕ) (s : Slot)
    (core : JobView) (d : Option JobView)
    (desk : IsDesk places cores) (at : get_or places i None ≡ Some s)
    (found : get_or cores s.core d ≡ Some core) where
  pub core_found : core_at cores s.core ≡ Some core
  core_found = get_or_default cores s.core None d (core_within places cores i s desk at) ∙ found

  pub below_cost : s.standing ≡ Going → s.spent < cost core.bytes core.limit
  below_cost going =
      let held = desk.held i s at in
      let here : core_at cores s.core ≡ Some core = core_found in
      let is : held.0 ≡ core = cc in
      let below : s.spent < cost held.0.bytes held.0.limit =
      subst (λ (d : Standing). StandsBeside d s.spent held.0) going held.2 in
      let e : cost held.0.bytes held.0.limit ≡ cost core.bytes core.limit =
      ap (λ (c : JobView). cost c.bytes c.limit) is in
      omega arith

  pub is_sound : core.ended ≢ Some Memory
  is_sound = desk.sound s.core core core_found

  spent_below : (d : Standing) (spent : ℕ) (c : JobView) → c.ended ≡ None → d ≢ OutOfMemory
      → StandsBeside d spent c → spent < cost c.bytes c.limit
  spent_below Going spent c none fed h = h
  spent_below Ended spent c none fed h = let ended : c.ended ≡ Some (verdict c.bytes c.limit) = h.1
      in absurd (cc)
  spent_below OutOfMemory spent c none fed h = absurd (fed refl)

  pub furthest_below : (most : ℕ) → s.standing ≡ Going → IsFurthest places s.core most
      → core.ended ≡ None → most < cost core.bytes core.limit
  furthest_below most going far none =
      elim far.reached [
        | inl nothing ↦ let below : s.spent < cost core.bytes core.limit = below_cost going in
            omega arith
        | inr there ↦
            let r : Slot = there.1 in
            let held = desk.held there.0 r there.2 in
            let here : core_at cores r.core ≡ Some core =
            ap (λ k. core_at cores k) there.3 ∙ core_found in
            let is : held.0 ≡ core = cc in
            let below : r.spent < cost core.bytes core.limit =
            spent_below r.standing r.spent core none there.4
            (subst (λ (c : JobView). StandsBeside r.standing r.spent c) is held.2) in
            omega arith
      ]

-- what is changed: the slot of a place, and its core
pub record IsChange (places places' : List (Option Slot)) (cores cores' : List (Option JobView))
    (i : ℕ) (s t : Slot) (core new : JobView) : Type 0 where
  pub desk : IsDesk places cores
  pub slot_is : slot_at places i ≡ Some s
  pub core_is : core_at cores s.core ≡ Some core
  pub places_are : IsWith places i (Some t) places'
  pub cores_are : IsWith cores s.core (Some new) cores'
  pub few : length cores' ≤ length places'

module _ (places places' : List (Option Slot)) (cores cores' : List (Option JobView)) (i : ℕ)
    (s t : Slot) (core new : JobView)
    (change : IsChange places places' cores cores' i s t core new) (most units : ℕ)
    (gone : HasGoneOn core most s units new t) where
  core_here : core_at cores' s.core ≡ Some new
  core_here = with_here cores cores' s.core (Some new) change.cores_are

  -- a core keeps its bytes and limit
  key : (k : ℕ) (a : JobView) → core_at cores' k ≡ Some a
      → (o : JobView) × (core_at cores k ≡ Some o) × (a.bytes ≡ o.bytes) × (a.limit ≡ o.limit)
      × (a.ended ≢ Some Memory)
  key k a at = elim (with_item cores cores' s.core (Some new) change.cores_are k) [
    | inl (same, here) ↦
        let is : a ≡ new = cc in (
          core,
          ap (λ n. core_at cores n) (sym same) ∙ change.core_is,
          ap (λ (c : JobView). c.bytes) is ∙ gone.bytes,
          ap (λ (c : JobView). c.limit) is ∙ gone.limit,
          subst (λ (c : JobView). c.ended ≢ Some Memory) (sym is) gone.sound,
        )
    | inr (_, other) ↦ (a, sym other ∙ at, refl, refl, change.desk.sound k a (sym other ∙ at))
  ]

  -- another slot's core
  beside : (r : Slot) (o : JobView) → core_at cores r.core ≡ Some o
      → StandsBeside r.standing r.spent o
      → (c : JobView) × (core_at cores' r.core ≡ Some c) × StandsBeside r.standing r.spent c
      × (job_of c r ≡ job_of o r)
  beside r o at h = elim (with_item cores cores' s.core (Some new) change.cores_are r.core) [
    | inl (same, here) ↦
        let was : core_at cores r.core ≡ Some core =
        ap (λ n. core_at cores n) (sym same) ∙ change.core_is in
        let is : o ≡ core = cc in (
          new,
          here,
          beside_same r.standing r.spent core new gone.bytes gone.limit gone.ended
              (subst (λ (c : JobView). StandsBeside r.standing r.spent c) is h),
          job_same core new r gone.bytes gone.limit
              ∙ ap (λ (c : JobView). job_of c r) (sym is),
        )
    | inr (_, other) ↦ (o, other ∙ at, h, refl)
  ]

  held_gone : (j : ℕ) (r : Slot) → slot_at places' j ≡ Some r
      → (c : JobView) × (core_at cores' r.core ≡ Some c) × StandsBeside r.standing r.spent c
  held_gone j r at = elim (with_item places places' i (Some t) change.places_are j) [
    | inl (_, here) ↦
        let is : t ≡ r = cc in
        subst (λ (x : Slot). (c : JobView) × (core_at cores' x.core ≡ Some c)
        × StandsBeside x.standing x.spent c) is
        (new, ap (λ n. core_at cores' n) gone.core ∙ core_here, gone.stands)
    | inr (_, other) ↦
        let held = change.desk.held j r (sym other ∙ at) in
        let (c, there, stands, _) = beside r held.0 held.1 held.2 in (c, there, stands)
  ]

  used_gone : (k : ℕ) (a : JobView) → core_at cores' k ≡ Some a → HasSlot places' k
  used_gone k a at =
      let o = key k a at in
      let (j, r, there, has) = change.desk.used k o.0 o.1 in
      elim (with_item places places' i (Some t) change.places_are j) [
        | inl (same, here) ↦
            let was : slot_at places i ≡ Some r = ap (λ n. slot_at places n) same ∙ there in
            let is : s ≡ r = cc in
            (j, t, here, gone.core ∙ (ap (λ (x : Slot). x.core) is ∙ has))
        | inr (_, other) ↦ (j, r, other ∙ there, has)
      ]

  pub desk_gone : IsDesk places' cores'
  desk_gone = record {
    held = held_gone;
    used = used_gone;
    sound = λ k a at. (key k a at).4;
    apart = λ k l a b at bt same_bytes same_limit.
        let x = key k a at in
        let y = key l b bt in
        change.desk.apart k l x.0 y.0 x.1 y.1 (sym x.2 ∙ (same_bytes ∙ y.2))
        (sym x.3 ∙ (same_limit ∙ y.3));
    few = change.few;
  }

  -- the jobs that are seen: that of the place is the new slot's, and no other's changes
  other_job_case : (j : ℕ) (o : Option Slot) → slot_at places j ≡ o
      → job_in cores' o ≡ job_in cores o
  other_job_case j None at = refl
  other_job_case j (Some r) at =
      let held = change.desk.held j r at in
      let now = beside r held.0 held.1 held.2 in
      ap (λ c. seen c r) now.1 ∙ (ap Some now.3 ∙ sym (ap (λ c. seen c r) held.1))

  pub jobs_gone : IsWith (jobs_in places cores) i (Some (job_of new t)) (jobs_in places' cores')
  jobs_gone = is_with (jobs_in places cores) (jobs_in places' cores') i (Some (job_of new t))
      (job_at_place places' cores' i
      ∙ (ap (job_in cores') (with_here places places' i (Some t) change.places_are)
      ∙ ap (λ c. seen c t) (ap (λ n. core_at cores' n) gone.core ∙ core_here)))
      (λ j apart. job_at_place places' cores' j
      ∙ (ap (job_in cores') (with_other places places' i j (Some t) change.places_are apart)
      ∙ (other_job_case j (slot_at places j) refl ∙ sym (job_at_place places cores j))))

  pub job_was : job_in cores (slot_at places i) ≡ Some (job_of core s)
  job_was = ap (job_in cores) change.slot_is ∙ ap (λ c. seen c s) change.core_is

  -- where no job of the core has spent more, no equal job has
  none_as_far : IsFurthest places s.core most → (spent : ℕ) → most < spent
      → NoneAsFarIn (jobs_in places cores) core.bytes core.limit spent
  none_as_far far spent less = λ j job at fed same_bytes same_limit further.
      let seen-so = is_seen places cores j job at in
      let r = seen-so.slot in
      let bytes : seen-so.core.bytes ≡ core.bytes =
      sym (ap (λ (v : JobView). v.bytes) seen-so.job_is) ∙ same_bytes in
      let limit : seen-so.core.limit ≡ core.limit =
      sym (ap (λ (v : JobView). v.limit) seen-so.job_is) ∙ same_limit in
      let one : r.core ≡ s.core =
      change.desk.apart r.core s.core seen-so.core core seen-so.core_is change.core_is bytes
      limit in
      let ends : job.ended ≡ ending r.standing (verdict seen-so.core.bytes seen-so.core.limit) =
      ap (λ (v : JobView). v.ended) seen-so.job_is in
      let fed_slot : r.standing ≢ OutOfMemory =
      not_out_of_memory r.standing (verdict seen-so.core.bytes seen-so.core.limit)
      (λ h. fed (ends ∙ h)) in
      let spent_is : job.spent ≡ r.spent = ap (λ (v : JobView). v.spent) seen-so.job_is in
      let within : r.spent ≤ most = far.above j r seen-so.slot_is one fed_slot in
      absurd (omega arith)

  out_of_memory_job : t.standing ≡ OutOfMemory → t.spent ≡ s.spent
      → job_of new t ≡ out_of_memory (job_of core s)
  out_of_memory_job ends spent = rw (gone.bytes, gone.limit, ends, spent) refl

  pub have_worked : s.standing ≡ Going → IsFurthest places s.core most
      → HaveWorked (jobs_in places cores) i (job_in cores (slot_at places i)) units
      (jobs_in places' cores')
  have_worked going far =
      subst (λ (o : Option JobView). HaveWorked (jobs_in places cores) i o units
      (jobs_in places' cores')) (sym job_was)
      (elim gone.gone [
        | inl worked_on ↦ inl
            (subst
            (λ (v : JobView). IsWith (jobs_in places cores) i (Some v) (jobs_in places' cores'))
            worked_on jobs_gone)
        | inr wanting ↦ inr (record {
          going = ap (λ d. ending d (verdict core.bytes core.limit)) going;
          first = none_as_far far (min (s.spent + units) (cost core.bytes core.limit)) wanting.2;
          within = let below = below_cost places cores i s core None change.desk change.slot_is
              change.core_is going in omega arith;
          jobs_are =
              subst (λ (v : JobView). IsWith (jobs_in places cores) i (Some v)
              (jobs_in places' cores')) (out_of_memory_job wanting.0 wanting.1) jobs_gone;
        })
      ])

-- What a call that works a job knows before and after

pub is_change : (places : List (Option Slot)) (cores : List (Option JobView)) (i : ℕ) (s t : Slot)
    (core new : JobView) (d : Option JobView)
    → IsDesk places cores → get_or places i None ≡ Some s → get_or cores s.core d ≡ Some core
    → IsChange places (set places i (Some t)) cores (set cores s.core (Some new)) i s t core new
is_change places cores i s t core new d desk at found =
    let held = desk.held i s at in
    let within : s.core < length cores = some_within cores s.core held.0 held.1 in
    record {
      desk = desk;
      slot_is = at;
      core_is = get_or_default cores s.core None d within ∙ found;
      places_are = with_set places i (Some t) (some_within places i s at);
      cores_are = with_set cores s.core (Some new) within;
      few =
          few_still places cores (set cores s.core (Some new)) i (Some t) desk.few
          (length-set cores s.core (Some new));
    }

-- a job that has ended stays as it is
still : (core : JobView) (s : Slot) (units : ℕ) (d : Standing) → s.standing ≡ d → (d ≡ Going → ⊥)
    → worked cost verdict (job_of core s) units ≡ job_of core s
still core s units Going is other = absurd (other refl)
still core s units done is other =
    ap (λ (d : Standing). worked_on cost verdict (ending d (verdict core.bytes core.limit))
    (job_of core s) units) is

pub idle : (places : List (Option Slot)) (cores : List (Option JobView)) (i : ℕ) (s : Slot)
    (units : ℕ)
    → IsDesk places cores → get_or places i None ≡ Some s → (s.standing ≡ Going → ⊥)
    → HaveWorked (jobs_in places cores) i (job_in cores (slot_at places i)) units
    (jobs_in places cores)
idle places cores i s units desk at other =
    let jobs = jobs_in places cores in
    let held = desk.held i s at in
    let here : job_in cores (slot_at places i) ≡ Some (job_of held.0 s) =
    ap (job_in cores) at ∙ ap (λ c. seen c s) held.1 in
    let is : get_or jobs i None ≡ Some (job_of held.0 s) = job_at_place places cores i ∙ here in
    subst (λ (o : Option JobView). HaveWorked jobs i o units jobs) (sym here)
    (inl (subst (λ (v : JobView). IsWith jobs i (Some v) jobs)
    (sym (still held.0 s units s.standing refl other))
    (is_with jobs jobs i (Some (job_of held.0 s)) is (λ j apart. refl))))

-- A slot is filled.
-- Its core, of the job's bytes and limit, is found or added; the other jobs are seen as before.
use Rattle.std.proofs.Common.{◌≡◌, ◌≢◌, ◌⊎◌, ℕ, ◌<◌, ◌≤◌, ◌+◌, List, length, Option, Some, None, refl, sym, ◌∙◌, ap, subst, inl, inr, arith, ◌++◌, ◌∷◌, []}
use Rattle.std.proofs.lemmas.List.{get_or_past}
use Rattle.answers.specs.ByteVerdicts.ByteVerdict.{Memory}
use Rattle.check_machine.specs.Turns.{cost}
use Rattle.checker.specs.JobViews.{JobView}
use Rattle.desk.specs.declared.slot.Slot.{Slot}
use Rattle.desk.specs.declared.slot.Standing.TheVariants.{Going}
use Rattle.desk.specs.Places.{place_of}
use Rattle.desk.specs.Slots.{job_of, StandsBeside}
use Rattle.desk.specs.Machine.{fresh}
use Rattle.desk.specs.Desks.{core_at, slot_at, seen, job_in, jobs_in, job_at, state_of, IsDesk, HasSlot, IsWith, NoneAsFarIn, IsCoreOf, IsCoreFor, HasNoCore, GrowsAtNeed}
use Rattle.desk.proofs.Few.{few_used, all_taken}
use Rattle.desk.proofs.Lists.{is_with, push_with, with_here, with_item, with_other}
use Rattle.desk.proofs.Seen.{is_seen, job_at_place}

-- beside these cores, and the jobs that are seen are the same
pub record IsDeskFor (places : List (Option Slot)) (cores cores' : List (Option JobView))
    (bytes : List ℕ) (limit k : ℕ) : Type 0 where
  pub held : (i : ℕ) (s : Slot) → slot_at places i ≡ Some s
      → (core : JobView) × (core_at cores' s.core ≡ Some core)
      × StandsBeside s.standing s.spent core
  pub used : (l : ℕ) (a : JobView) → core_at cores' l ≡ Some a → (k ≡ l) ⊎ HasSlot places l
  pub sound : (l : ℕ) (a : JobView) → core_at cores' l ≡ Some a → a.ended ≢ Some Memory
  pub apart : (l m : ℕ) (a b : JobView) → core_at cores' l ≡ Some a → core_at cores' m ≡ Some b
      → a.bytes ≡ b.bytes → a.limit ≡ b.limit → l ≡ m
  pub core : IsCoreOf cores' bytes limit k
  pub stay : (j : ℕ) (r : Slot) → slot_at places j ≡ Some r
      → core_at cores' r.core ≡ core_at cores r.core

module _ (places : List (Option Slot)) (cores cores' : List (Option JobView)) (bytes : List ℕ)
    (limit k : ℕ) (desk : IsDesk places cores)
    (none : HasNoCore cores bytes limit) (free : core_at cores k ≡ None)
    (added : IsWith cores k (Some (fresh bytes limit)) cores') where
  stay_added : (j : ℕ) (r : Slot) → slot_at places j ≡ Some r
      → core_at cores' r.core ≡ core_at cores r.core
  stay_added j r at =
      let (c, there, _) = desk.held j r at in
      elim (with_item cores cores' k (Some (fresh bytes limit)) added r.core) [
        | inl (same, _) ↦
            let empty : core_at cores r.core ≡ None = ap (λ n. core_at cores n) (sym same) ∙ free in
            absurd (cc)
        | inr (_, other) ↦ other
      ]

  -- a core is the new one or an old one
  added_at : (l : ℕ) (a : JobView) → core_at cores' l ≡ Some a
      → ((k ≡ l) × (a ≡ fresh bytes limit)) ⊎ (core_at cores l ≡ Some a)
  added_at l a at = elim (with_item cores cores' k (Some (fresh bytes limit)) added l) [
    | inl (same, here) ↦ inl (same, cc)
    | inr (_, other) ↦ inr (sym other ∙ at)
  ]

  sound_case : (l : ℕ) (a : JobView) → ((k ≡ l) × (a ≡ fresh bytes limit))
      ⊎ (core_at cores l ≡ Some a) → a.ended ≢ Some Memory
  sound_case l a (inl new) = λ e. let n : a.ended ≡ None = ap (λ (c : JobView). c.ended) new.1 in
      absurd (cc)
  sound_case l a (inr old) = desk.sound l a old

  apart_case : (l m : ℕ) (a b : JobView) → ((k ≡ l) × (a ≡ fresh bytes limit))
      ⊎ (core_at cores l ≡ Some a) → ((k ≡ m) × (b ≡ fresh bytes limit))
      ⊎ (core_at cores m ≡ Some b)
      → a.bytes ≡ b.bytes → a.limit ≡ b.limit → l ≡ m
  apart_case l m a b (inl x) (inl y) e f = sym x.0 ∙ y.0
  apart_case l m a b (inl x) (inr y) e f =
      absurd
      (none m b y (sym e ∙ ap (λ (c : JobView). c.bytes) x.1)
      (sym f ∙ ap (λ (c : JobView). c.limit) x.1))
  apart_case l m a b (inr x) (inl y) e f =
      absurd
      (none l a x (e ∙ ap (λ (c : JobView). c.bytes) y.1) (f ∙ ap (λ (c : JobView). c.limit) y.1))
  apart_case l m a b (inr x) (inr y) e f = desk.apart l m a b x y e f

  pub desk_added : IsDeskFor places cores cores' bytes limit k
  desk_added = record {
    held = λ j r at. let held = desk.held j r at in (held.0, stay_added j r at ∙ held.1, held.2);
    used = λ l a at. elim (added_at l a at) [
      | inl (same, _) ↦ inl same
      | inr old ↦ inr (desk.used l a old)
    ];
    sound = λ l a at. sound_case l a (added_at l a at);
    apart = λ l m a b at bt. apart_case l m a b (added_at l a at) (added_at m b bt);
    core =
        (fresh bytes limit, with_here cores cores' k (Some (fresh bytes limit)) added, refl, refl);
    stay = stay_added;
  }

desk_for : (places : List (Option Slot)) (cores cores' : List (Option JobView)) (bytes : List ℕ)
    (limit k : ℕ) → IsDesk places cores
    → IsCoreFor cores bytes limit k cores' → IsDeskFor places cores cores' bytes limit k
desk_for places cores cores' bytes limit k desk (inl old) =
    subst (λ (now : List (Option JobView)). IsDeskFor places cores now bytes limit k) (sym old.1)
    (record {
      held = desk.held;
      used = λ l a at. inr (desk.used l a at);
      sound = desk.sound;
      apart = desk.apart;
      core = old.0;
      stay = λ j r at. refl;
    })
desk_for places cores cores' bytes limit k desk (inr new) =
    desk_added places cores cores' bytes limit k desk new.0 new.1 new.2

-- the slot of a job that begins
abbrev begun : ℕ → Slot
begun k = record { core = k; spent = 0; standing = Going }

module _ (places places' : List (Option Slot)) (cores cores' : List (Option JobView))
    (bytes : List ℕ) (limit k i : ℕ) (desk : IsDesk places cores)
    (is : IsCoreFor cores bytes limit k cores')
    (costs : (b : List ℕ) (l : ℕ) → 0 < cost b l) (free : slot_at places i ≡ None)
    (filled : IsWith places i (Some (begun k)) places')
  where
    found : IsDeskFor places cores cores' bytes limit k
    found = desk_for places cores cores' bytes limit k desk is

    held_filled : (j : ℕ) (r : Slot) → slot_at places' j ≡ Some r
        → (c : JobView) × (core_at cores' r.core ≡ Some c) × StandsBeside r.standing r.spent c
    held_filled j r at = elim (with_item places places' i (Some (begun k)) filled j) [
      | inl (_, here) ↦
          let is : begun k ≡ r = cc in
          let below : 0 < cost found.core.0.bytes found.core.0.limit =
          costs found.core.0.bytes found.core.0.limit in
          subst (λ (x : Slot). (c : JobView) × (core_at cores' x.core ≡ Some c)
          × StandsBeside x.standing x.spent c) is (found.core.0, found.core.1, below)
      | inr (_, other) ↦ found.held j r (sym other ∙ at)
    ]

    used_filled : (l : ℕ) → (k ≡ l) ⊎ HasSlot places l → HasSlot places' l
    used_filled l (inl new) = (i, begun k, with_here places places' i _ filled, new)
    used_filled l (inr (j, r, at, has)) = elim (with_item places places' i (Some (begun k)) filled j) [
      | inl (same, _) ↦
          let none : slot_at places j ≡ None = ap (λ n. slot_at places n) (sym same) ∙ free in
          absurd (cc)
      | inr (_, other) ↦ (j, r, other ∙ at, has)
    ]

    -- where the cores took a new place, each of their places has a core, and so a slot
    few_filled : GrowsAtNeed cores cores' → length places' ≡ length places
        → length cores' ≤ length places'
    few_filled (inl same) long = let few = desk.few in omega arith
    few_filled (inr more) long =
        few_used places' cores' (λ q l. let (a, at) = all_taken cores cores' bytes limit k more is q l in
        used_filled q (found.used q a at))

    pub desk_filled : GrowsAtNeed cores cores' → length places' ≡ length places
        → IsDesk places' cores'
    desk_filled grows long = record {
      held = held_filled;
      used = λ l a at. used_filled l (found.used l a at);
      sound = found.sound;
      apart = found.apart;
      few = few_filled grows long;
    }

    old_case : (j : ℕ) (o : Option Slot) → slot_at places j ≡ o → job_in cores' o ≡ job_in cores o
    old_case j None at = refl
    old_case j (Some r) at = ap (λ c. seen c r) (found.stay j r at)

    new_job : job_of found.core.0 (begun k) ≡ fresh bytes limit
    new_job = rw (found.core.2, found.core.3) refl

    pub jobs_filled : IsWith (jobs_in places cores) i (Some (fresh bytes limit))
        (jobs_in places' cores')
    jobs_filled =
        is_with (jobs_in places cores) (jobs_in places' cores') i (Some (fresh bytes limit))
        (job_at_place places' cores' i
        ∙ (ap (job_in cores') (with_here places places' i _ filled)
        ∙ (ap (λ c. seen c (begun k)) found.core.1 ∙ ap Some new_job)))
        (λ j apart. job_at_place places' cores' j
        ∙ (ap (job_in cores') (with_other places places' i j _ filled apart)
        ∙ (old_case j (slot_at places j) refl ∙ sym (job_at_place places cores j))))

pub none_first : (places : List (Option Slot)) (cores : List (Option JobView)) (bytes : List ℕ)
    (limit : ℕ) → HasNoCore cores bytes limit → NoneAsFarIn (jobs_in places cores) bytes limit 0
none_first places cores bytes limit none = λ i job at fed same_bytes same_limit far.
    let one = is_seen places cores i job at in
    none one.slot.core one.core one.core_is
    (sym (ap (λ (v : JobView). v.bytes) one.job_is) ∙ same_bytes)
    (sym (ap (λ (v : JobView). v.limit) one.job_is) ∙ same_limit)

pub core_for_push : (cores cores' : List (Option JobView)) (k : ℕ) (bytes : List ℕ) (limit : ℕ)
    (new : Option JobView)
    → HasNoCore cores bytes limit → k ≡ length cores → new ≡ Some (fresh bytes limit)
    → cores' ≡ cores ++ new ∷ [] → IsCoreFor cores bytes limit k cores'
core_for_push cores cores' k bytes limit new none at is e =
    inr (
      none,
      get_or_past cores k None (omega arith),
      push_with cores cores' k (Some (fresh bytes limit)) at (e ∙ ap (λ x. cores ++ x ∷ []) is),
    )

-- A desk without jobs

pub empty_desk : (places : List (Option Slot)) (cores : List (Option JobView))
    → ((i : ℕ) → slot_at places i ≡ None) → cores ≡ [] → IsDesk places cores
empty_desk places cores empty none = rw none (record {
  held = λ i s at. let e : slot_at places i ≡ None = empty i in absurd (cc);
  used = λ k core at. absurd (cc);
  sound = λ k core at. absurd (cc);
  apart = λ k l a b at bt x y. absurd (cc);
  few = omega arith;
})

empty_at : (places : List (Option Slot)) (cores : List (Option JobView))
    → ((i : ℕ) → slot_at places i ≡ None) → (o : Option ℕ) → job_at (jobs_in places cores) o ≡ None
empty_at places cores empty None = refl
empty_at places cores empty (Some i) = job_at_place places cores i ∙ ap (job_in cores) (empty i)

pub empty_state : (places : List (Option Slot)) (cores : List (Option JobView))
    → ((i : ℕ) → slot_at places i ≡ None) → (client number : ℕ)
    → state_of (jobs_in places cores) client number ≡ None
empty_state places cores empty client number = empty_at places cores empty (place_of client number)

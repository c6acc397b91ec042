-- A slot is emptied.
-- Its core stays where another slot has it, and goes where none has.
use Rattle.std.proofs.Common.{◌≡◌, ◌≢◌, ℕ, ◌≤◌, List, length, Option, Some, None, refl, sym, ◌∙◌, ap, subst, inl, inr}
use Rattle.std.proofs.lemmas.Bool.Decides.{eqb_tells}
use Rattle.checker.specs.JobViews.{JobView}
use Rattle.desk.specs.declared.slot.Slot.{Slot}
use Rattle.desk.specs.Desks.{core_at, slot_at, seen, job_in, jobs_in, IsDesk, HasSlot, IsWith}
use Rattle.desk.proofs.Lists.{is_with, with_here, with_item, with_other}
use Rattle.desk.proofs.Seen.{job_at_place}

module _ (places places' : List (Option Slot)) (cores cores' : List (Option JobView)) (i : ℕ)
    (desk : IsDesk places cores) (emptied : IsWith places i None places')
    (stay : (j : ℕ) (r : Slot) → slot_at places' j ≡ Some r
    → core_at cores' r.core ≡ core_at cores r.core)
    (only : (k : ℕ) (a : JobView) → core_at cores' k ≡ Some a → core_at cores k ≡ Some a)
    (used : (k : ℕ) (a : JobView) → core_at cores' k ≡ Some a → HasSlot places' k) where
  slot_was : (j : ℕ) (r : Slot) → slot_at places' j ≡ Some r → slot_at places j ≡ Some r
  slot_was j r at = elim (with_item places places' i None emptied j) [
    | inl (_, none) ↦ absurd (cc)
    | inr (_, other) ↦ sym other ∙ at
  ]

  pub desk_emptied : length cores' ≤ length places' → IsDesk places' cores'
  desk_emptied few = record {
    held = λ j r at.
        let (core, there, stands) = desk.held j r (slot_was j r at) in
        (core, stay j r at ∙ there, stands);
    used = used;
    sound = λ k a at. desk.sound k a (only k a at);
    apart = λ k l a b at bt. desk.apart k l a b (only k a at) (only l b bt);
    few = few;
  }

  rest_case : (j : ℕ) (o : Option Slot) → slot_at places' j ≡ o → job_in cores' o ≡ job_in cores o
  rest_case j None at = refl
  rest_case j (Some r) at = ap (λ c. seen c r) (stay j r at)

  pub jobs_emptied : IsWith (jobs_in places cores) i None (jobs_in places' cores')
  jobs_emptied = is_with (jobs_in places cores) (jobs_in places' cores') i None
      (job_at_place places' cores' i ∙ ap (job_in cores') (with_here places places' i None emptied))
      (λ j apart. job_at_place places' cores' j ∙ (rest_case j (slot_at places' j) refl
      ∙ (ap (job_in cores) (with_other places places' i j None emptied apart)
      ∙ sym (job_at_place places cores j))))

-- with core k gone, where no slot has it
module _ (places' : List (Option Slot)) (cores cores' : List (Option JobView)) (k : ℕ)
    (gone : IsWith cores k None cores')
    (free : (j : ℕ) (r : Slot) → slot_at places' j ≡ Some r → r.core ≢ k) where
  pub stay_without : (j : ℕ) (r : Slot) → slot_at places' j ≡ Some r
      → core_at cores' r.core ≡ core_at cores r.core
  stay_without j r at = with_other cores cores' k r.core None gone (λ e. free j r at (sym e))

  pub only_without : (l : ℕ) (a : JobView) → core_at cores' l ≡ Some a → core_at cores l ≡ Some a
  only_without l a at = elim (with_item cores cores' k None gone l) [
    | inl (_, none) ↦ absurd (cc)
    | inr (_, other) ↦ sym other ∙ at
  ]

-- each core has a slot after the slot of a place is emptied, but that slot's core
module _ (places places' : List (Option Slot)) (cores : List (Option JobView)) (i : ℕ) (s : Slot)
    (desk : IsDesk places cores) (at_i : slot_at places i ≡ Some s)
    (emptied : IsWith places i None places') where
  still_used : (k : ℕ) (a : JobView) → core_at cores k ≡ Some a → s.core ≢ k → HasSlot places' k
  still_used k a at apart =
      let (j, r, there, has) = desk.used k a at in
      elim (with_item places places' i None emptied j) [
        | inl (same, _) ↦
            let here : slot_at places i ≡ Some r = ap (λ n. slot_at places n) same ∙ there in
            let is : s ≡ r = cc in
            absurd (apart (ap (λ (x : Slot). x.core) is ∙ has))
        | inr (_, other) ↦ (j, r, other ∙ there, has)
      ]

  -- where that core has a slot too
  pub used_held : HasSlot places' s.core → (k : ℕ) (a : JobView) → core_at cores k ≡ Some a
      → HasSlot places' k
  used_held held k a at = elim (eqb_tells s.core k) [
    | inl (_, same) ↦ subst (HasSlot places') same held
    | inr (_, apart) ↦ still_used k a at apart
  ]

  -- or where it is gone
  pub used_without : (cores' : List (Option JobView)) → IsWith cores s.core None cores'
      → (k : ℕ) (a : JobView) → core_at cores' k ≡ Some a → HasSlot places' k
  used_without cores' gone k a at = elim (with_item cores cores' s.core None gone k) [
    | inl (_, none) ↦ absurd (cc)
    | inr (apart, other) ↦ still_used k a (sym other ∙ at) apart
  ]

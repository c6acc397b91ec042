-- The least free number.
-- Slots and the jobs that are seen have the same numbers free.
use Rattle.std.proofs.Common.{◌≡◌, ℕ, ◌≤◌, Bool, true, false, if◌then◌else◌, List, Option, Some, None, refl, sym, ◌∙◌, ap, subst, get_or, not}
use Rattle.checker.specs.JobViews.{JobView}
use Rattle.desk.specs.declared.slot.Slot.{Slot}
use Rattle.desk.specs.declared.client.TheConstants.{MOST_JOBS}
use Rattle.desk.specs.Places.{place_of}
use Rattle.desk.specs.Machine.{is_free, least_free}
use Rattle.desk.specs.Desks.{slot_at, seen, job_in, jobs_in, job_at, state_of, IsDesk, slot_of, slots_of}
use Rattle.desk.proofs.Seen.{job_at_place}
use Rattle.desk.proofs.Steps.{state_at}

pick : Bool → Bool → Bool → Bool → Option ℕ
pick a b c d =
    if a then Some 1 else
    (if b then Some 2 else (if c then Some 3 else (if d then Some 4 else None)))

least_alike : {X Y : Type 0} (f : ℕ → Option X) (g : ℕ → Option Y)
    → ((n : ℕ) → is_free (f n) ≡ is_free (g n)) → least_free f ≡ least_free g
unfolding pick
least_alike f g e =
    ap (λ a. pick a (is_free (f 2)) (is_free (f 3)) (is_free (f 4))) (e 1)
    ∙ (ap (λ b. pick (is_free (g 1)) b (is_free (f 3)) (is_free (f 4))) (e 2)
    ∙ (ap (λ c. pick (is_free (g 1)) (is_free (g 2)) c (is_free (f 4))) (e 3)
    ∙ ap (λ d. pick (is_free (g 1)) (is_free (g 2)) (is_free (g 3)) d) (e 4)))

free_slot : (places : List (Option Slot)) (cores : List (Option JobView)) (i : ℕ) (o : Option Slot)
    → slot_at places i ≡ o → IsDesk places cores → is_free o ≡ is_free (job_in cores o)
free_slot places cores i None at desk = refl
free_slot places cores i (Some r) at desk = let held = desk.held i r at in
    sym (ap (λ c. is_free (seen c r)) held.1)

free_place : (places : List (Option Slot)) (cores : List (Option JobView)) (o : Option ℕ)
    → IsDesk places cores → is_free (slot_of places o) ≡ is_free (job_at (jobs_in places cores) o)
free_place places cores None desk = refl
free_place places cores (Some i) desk = free_slot places cores i (slot_at places i) refl desk
    ∙ sym (ap is_free (job_at_place places cores i))

pub least_slots : (places : List (Option Slot)) (cores : List (Option JobView)) (c : ℕ)
    → IsDesk places cores
    → least_free (slots_of places c) ≡ least_free (state_of (jobs_in places cores) c)
least_slots places cores c desk =
    least_alike (slots_of places c) (state_of (jobs_in places cores) c)
    (λ n. free_place places cores (place_of c n) desk)

-- the number that is free names a place without a slot
is_none : {X : Type 0} (o : Option X) → is_free o ≡ true → o ≡ None
is_none None e = refl
is_none (Some x) e = absurd (cc)

numbered : {X : Type 0} (f : ℕ → Option X) (k n : ℕ) → 1 ≤ k → k ≤ MOST_JOBS
    → is_free (f k) ≡ true → (let a : Option ℕ = Some k in a) ≡ Some n
    → (1 ≤ n) × (n ≤ MOST_JOBS) × (f n ≡ None)
numbered f k n low high free e =
    let is : k ≡ n = cc in
    subst (λ m. (1 ≤ m) × (m ≤ MOST_JOBS) × (f m ≡ None)) is (low, high, is_none (f k) free)

-- a place with a slot has a job, and one without has none
pub held_job : (places : List (Option Slot)) (cores : List (Option JobView)) (i : ℕ)
    → IsDesk places cores
    → is_free (slot_at places i) ≡ is_free (get_or (jobs_in places cores) i None)
held_job places cores i desk = free_slot places cores i (slot_at places i) refl desk
    ∙ sym (ap is_free (job_at_place places cores i))

pub free_job : (places : List (Option Slot)) (cores : List (Option JobView)) (i : ℕ)
    → IsDesk places cores → is_free (slot_at places i) ≡ true
    → get_or (jobs_in places cores) i None ≡ None
free_job places cores i desk free =
    is_none (get_or (jobs_in places cores) i None) (sym (held_job places cores i desk) ∙ free)

pub least_of : (places : List (Option Slot)) (cores jobs : List (Option JobView)) (c : ℕ)
    → IsDesk places cores → jobs_in places cores ≡ jobs
    → least_free (state_of jobs c) ≡ least_free (slots_of places c)
least_of places cores jobs c desk is =
    ap (λ (now : List (Option JobView)). least_free (state_of now c)) (sym is)
    ∙ sym (least_slots places cores c desk)

flip : (b r : Bool) → r ≡ not b → b ≡ not r
flip true r e = ap not (sym e)
flip false r e = ap not (sym e)

pub nothing_at : (places : List (Option Slot)) (cores jobs : List (Option JobView)) (c n i : ℕ)
    → IsDesk places cores → jobs_in places cores ≡ jobs → place_of c n ≡ Some i
    → false ≡ not (is_free (slot_at places i)) → state_of jobs c n ≡ None
nothing_at places cores jobs c n i desk is at free =
    state_at jobs c n i at
    ∙ (ap (λ (l : List (Option JobView)). get_or l i None) (sym is)
    ∙ free_job places cores i desk (flip (is_free (slot_at places i)) false free))

pub something_at : (places : List (Option Slot)) (cores jobs : List (Option JobView)) (i : ℕ)
    → IsDesk places cores → jobs_in places cores ≡ jobs
    → true ≡ not (is_free (slot_at places i)) → is_free (get_or jobs i None) ≡ false
something_at places cores jobs i desk is free =
    ap (λ (l : List (Option JobView)). is_free (get_or l i None)) (sym is)
    ∙ (sym (held_job places cores i desk) ∙ flip (is_free (slot_at places i)) true free)

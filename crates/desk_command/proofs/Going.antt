-- How far the steps of a script have gone, and how they end.
use Rattle.std.proofs.Common.{◌≡◌, ◌∙◌, ◌<◌, ℕ, List, [], ◌∷◌, ◌++◌, Option, None, refl, subst, sym}
use Rattle.std.specs.Io.KnownBytes.{Appends}
use Rattle.streams.specs.Stream.{AppendsSome}
use Rattle.desk.specs.Machine.{State}
use Rattle.desk.specs.Steps.{Step}
use Rattle.desk_command.specs.Scripts.{HaveClients, Takes}
use Rattle.desk_command.specs.Stops.{Breaks}
use Rattle.streams.specs.Printers.{Printer}
use Rattle.desk_command.specs.declared.stop.DeskStop.TheVariants.{Write}
use Rattle.streams.proofs.StreamLaws.{appends_nothing, appends_then, some_then}
use Rattle.desk_command.proofs.Runs.{Stands, has_run, stands_anew, stands_on}

abbrev pub Files : Type 0
Files = Option (List ℕ → Option (List ℕ))

-- The machine took the first of all these steps and is in this state; these are left; the lines
-- went out, and no device failed.
abbrev pub HasGone : Files → Files → List Step → List Step → State → ℕ → ℕ → Printer → Printer
    → Type 0
HasGone files now all left state reads reads' old new =
    (lines : List ℕ) × Stands files all left state lines × HaveClients left
    × Appends old.taken new.taken lines
    × (now ≡ files) × (reads' ≡ reads) × (new.failures ≡ old.failures)

pub gone_nowhere : (files : Files) (all left : List Step) (state : State) (reads : ℕ)
    (old : Printer) → ((client number : ℕ) → state client number ≡ None)
    → HaveClients all → left ≡ all → HasGone files files all left state reads reads old old
gone_nowhere files all left state reads old new clients is =
    subst (λ (steps : List Step). HasGone files files all steps state reads reads old old) (sym is)
    ([], stands_anew files all state new, clients, appends_nothing old.taken, refl, refl, refl)

module _ (files now : Files) (all front left : List Step) (step : Step) (state next : State)
    (reads reads' : ℕ) (old mid : Printer) (line bytes : List ℕ)
    (front_is : front ≡ step ∷ left) (bytes_are : bytes ≡ line)
    (gone : HasGone files now all front state reads reads' old mid)
    (taken : Takes now step state next line) where
  stands_now : Stands files all left next (gone.0 ++ line)
  stands_now =
      stands_on files all left step state next gone.0 line
      (subst (λ (steps : List Step). Stands files all steps state gone.0) front_is gone.1)
      (subst (λ (f : Files). Takes f step state next line) gone.4 taken)

  pub gone_on : (after : Files) (failed : ℕ) (new : Printer) → after ≡ now → failed ≡ reads'
      → Appends mid.taken new.taken bytes → new.failures ≡ mid.failures
      → HasGone files after all left next reads failed old new
  gone_on after failed new f r p n = (
    gone.0 ++ line,
    stands_now,
    (subst HaveClients front_is gone.2).1,
    appends_then old.taken mid.taken new.taken gone.0 line gone.3
        (subst (λ (t : List ℕ). Appends mid.taken new.taken t) bytes_are p),
    f ∙ gone.4,
    r ∙ gone.5,
    n ∙ gone.6,
  )

  pub breaks_in_writing : (failed : ℕ) (new : Printer) → AppendsSome mid.taken new.taken bytes
      → mid.failures < new.failures
      → Breaks files all reads failed old new Write
  breaks_in_writing failed new p n = (
    left,
    gone.0 ++ line,
    has_run files all left next (gone.0 ++ line) stands_now,
    some_then old.taken mid.taken new.taken gone.0 line gone.3
        (subst (λ (t : List ℕ). AppendsSome mid.taken new.taken t) bytes_are p),
    subst (λ (k : ℕ). k < new.failures) gone.6 n,
  )

-- the causes of a step's stop

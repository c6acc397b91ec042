-- Runs that go one step further.
use Rattle.std.proofs.Common.{◌≡◌, ◌∙◌, ℕ, List, [], ◌∷◌, ◌++◌, Option, None, append_assoc, append-nil, ap, refl, subst, sym}
use Rattle.std.proofs.Math.Path.{fun_ext}
use Rattle.check_machine.specs.Turns.{cost, verdict}
use Rattle.desk.specs.Machine.{Call, Reply, State, Step as MachineStep}
use Rattle.desk.specs.Runs.{Run, nothing_open}
use Rattle.desk.specs.Scripts.{AreSteps}
use Rattle.desk.specs.Scripts.AreSteps.{NoLine, Line}
use Rattle.desk.specs.Steps.{Step}
use Rattle.desk_command.specs.Calls.{AreCalls, IsCall}
use Rattle.desk_command.specs.Lines.{AreLinesOf, IsLineOf}
use Rattle.desk_command.specs.Scripts.{HasRunTo, HaveClients, HaveRun, Takes}

one_call_more : (files : Option (List ℕ → Option (List ℕ))) (steps : List Step) (calls : List Call)
    (step : Step) (asked : Call)
    → AreCalls files steps calls → IsCall files step asked
    → AreCalls files (steps ++ step ∷ []) (calls ++ asked ∷ [])
one_call_more files [] [] step asked h is = (is, tt)
one_call_more files (s ∷ steps) (a ∷ calls) step asked h is =
    (h.0, one_call_more files steps calls step asked h.1 is)
one_call_more files [] (a ∷ calls) step asked h is = absurd h
one_call_more files (s ∷ steps) [] step asked h is = absurd h

run_on : (S : State → Call → Reply → State → Type 0) (old mid new : State) (calls : List Call)
    (replies : List Reply) (asked : Call) (reply : Reply)
    → Run S old calls replies mid → S mid asked reply new
    → Run S old (calls ++ asked ∷ []) (replies ++ reply ∷ []) new
run_on S old mid new [] [] asked reply r s =
    (new, subst (λ (at : State). S at asked reply new) r s, refl)
run_on S old mid new (a ∷ calls) (b ∷ replies) asked reply r s =
    (r.0, r.1, run_on S r.0 mid new calls replies asked reply r.2 s)
run_on S old mid new [] (b ∷ replies) asked reply r s = absurd r
run_on S old mid new (a ∷ calls) [] asked reply r s = absurd r

one_line_more : (replies : List Reply) (lines : List ℕ) (reply : Reply) (line : List ℕ)
    → AreLinesOf replies lines → IsLineOf reply line
    → AreLinesOf (replies ++ reply ∷ []) (lines ++ line)
one_line_more [] lines reply line h is =
    (line, [], is, refl, ap (λ (t : List ℕ). t ++ line) h ∙ sym (append-nil line))
one_line_more (r ∷ replies) lines reply line h is = (
  h.0,
  h.1 ++ line,
  h.2,
  one_line_more replies h.1 reply line h.3 is,
  ap (λ (t : List ℕ). t ++ line) h.4 ∙ append_assoc h.0 h.1 line,
)

-- The machine took the first of all these steps, is in this state, the others are left, and the
-- lines are these.
pub record Stands (files : Option (List ℕ → Option (List ℕ))) (all left : List Step) (state : State)
    (lines : List ℕ) : Type 0 where
  pub done : List Step
  pub all_are : all ≡ done ++ left
  pub have_run : HaveRun files done state lines

pub stands_anew : (files : Option (List ℕ → Option (List ℕ))) (all : List Step) (state : State)
    → ((client number : ℕ) → state client number ≡ None)
    → Stands files all all state []
stands_anew files all state new =
    record {
      done = [];
      all_are = refl;
      have_run = record {
        calls = [];
        replies = [];
        are_calls = tt;
        run = fun_ext (λ client. fun_ext (λ number. new client number));
        are_lines = refl;
      };
    }

pub stands_on : (files : Option (List ℕ → Option (List ℕ))) (all left : List Step) (step : Step)
    (old new : State) (lines line : List ℕ)
    → Stands files all (step ∷ left) old lines → Takes files step old new line
    → Stands files all left new (lines ++ line)
stands_on files all left step old new lines line s t =
    record {
      done = s.done ++ step ∷ [];
      all_are = s.all_are ∙ sym (append_assoc s.done (step ∷ []) left);
      have_run = record {
        calls = s.have_run.calls ++ t.asked ∷ [];
        replies = s.have_run.replies ++ t.reply ∷ [];
        are_calls =
            one_call_more files s.done s.have_run.calls step t.asked s.have_run.are_calls t.is_call;
        run = run_on (MachineStep cost verdict) nothing_open old new s.have_run.calls
            s.have_run.replies t.asked t.reply s.have_run.run t.stepped;
        are_lines =
            one_line_more s.have_run.replies lines t.reply line s.have_run.are_lines t.is_line;
      };
    }

pub has_run : (files : Option (List ℕ → Option (List ℕ))) (all left : List Step) (state : State)
    (lines : List ℕ)
    → Stands files all left state lines → HasRunTo files all left lines
has_run files all left state lines s =
    record { done = s.done; end = state; steps_are = s.all_are; have_run = s.have_run }

-- the steps of a script have clients
pub have_clients : {script : List ℕ} {steps : List Step} → AreSteps script steps → HaveClients steps
have_clients NoLine = tt
have_clients (Line lacks spelled more) = (spelled.client, have_clients more)

use Rattle.std.proofs.Common.{◌≡◌, ◌∙◌, ap, sym, subst, inl, inr, refl, true, Bor, ℕ, map, List}
use Rattle.clap.specs.Words.{App, IsAmong, Text, kind_of, fault_of, is_simple, is_simple_and_free}
use Rattle.clap.specs.Words.{subcommand_of}
use Rattle.clap.specs.declared.error.kind.ErrorKind.{ErrorKind}
use Rattle.clap.proofs.OnLiterals.{clap_on_literals}
use Rattle.command_line.specs.Program.{program}
use Rattle.command_line.specs.Refusals.{IsOfKind, IsFaultOf}
use Rattle.command_line.specs.declared.faults.UsageFault.{UsageFault}
use Rattle.command_line.specs.declared.faults.UsageFault.TheVariants.{Memory, Help, Words}
use Rattle.command_line.proofs.Reading.{plan_of-refused, word_of-refused}
use Rattle.command_line.proofs.words.parsed.Goals as goal

free : is_simple_and_free program ≡ true
unfolding clap_on_literals
free = refl

simple : is_simple program ≡ true
unfolding clap_on_literals
simple = refl

-- a fault of reading the words tells the truth: they failed by an error of its kind
tells : (words : List Text) (kind : ErrorKind) (fault : UsageFault)
    → IsAmong kind (fault_of program words) → IsOfKind kind fault → IsFaultOf words fault
tells words kind Memory among own = tt
tells words kind (Help text) among own = (kind, among, own)
tells words kind (Words text) among own = (kind, among, own)
tells words kind fault among own = absurd own

pub returns-in-Err-clause-nothing : goal.returns-in-Err-clause-nothing
returns-in-Err-clause-nothing c =
    let words = map (λ (w : Bor (List ℕ)). w.now) c.args.words.now in
    elim (c.in-Err.ensures.kinds (ap is_simple_and_free c.in-Ok.ensures ∙ free)) [
      | inl memory ↦ λ other. absurd (other (c.refused.ensures.memory memory))
      | inr among ↦
          let here = subst (λ (a : App). IsAmong (kind_of c.in-Err.e) (fault_of a words)) c.in-Ok.ensures
          among in
          λ other. (
            plan_of-refused words (kind_of c.in-Err.e) here,
            word_of-refused words (kind_of c.in-Err.e) here,
          )
    ]

pub returns-in-Err-clause-fault : goal.returns-in-Err-clause-fault
returns-in-Err-clause-fault c =
    let words = map (λ (w : Bor (List ℕ)). w.now) c.args.words.now in
    elim (c.in-Err.ensures.kinds (ap is_simple_and_free c.in-Ok.ensures ∙ free)) [
      | inl memory ↦ subst (IsFaultOf words) (sym (c.refused.ensures.memory memory)) tt
      | inr among ↦ tells words (kind_of c.in-Err.e) c.refused.result
          (subst (λ (a : App). IsAmong (kind_of c.in-Err.e) (fault_of a words)) c.in-Ok.ensures
          among)
          c.refused.ensures.words
    ]

pub returns-in-Ok-try_get_matches_from-clause-taken
    : goal.returns-in-Ok-try_get_matches_from-clause-taken
returns-in-Ok-try_get_matches_from-clause-taken c =
    let words = map (λ (w : Bor (List ℕ)). w.now) c.args.words.now in
    sym (ap (λ (a : App). fault_of a words) c.in-Ok.ensures)
    ∙ c.in-Ok-try_get_matches_from.ensures.kinds (ap is_simple_and_free c.in-Ok.ensures ∙ free)

pub returns-in-Ok-try_get_matches_from-clause-found
    : goal.returns-in-Ok-try_get_matches_from-clause-found
returns-in-Ok-try_get_matches_from-clause-found c =
    let words = map (λ (w : Bor (List ℕ)). w.now) c.args.words.now in
    (c.in-Ok-try_get_matches_from.ensures.matches (ap is_simple c.in-Ok.ensures ∙ simple)).1
    ∙ ap (λ (a : App). subcommand_of a words) c.in-Ok.ensures

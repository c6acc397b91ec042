use Rattle.std.proofs.Common.{◌≡◌, ◌≢◌, ◌∙◌, ap, codes, false, refl, subst, sym, true, Bool, Option}
use Rattle.std.proofs.Common.{None, Some, if◌then◌else◌, option_and_then, List, IfErr, IfOk}
use Rattle.std.proofs.Common.{Result, Ok, Err}
use Rattle.std.proofs.lemmas.Slice.Eq.{bytes_eq-Decides}
use Rattle.std.specs.Option.{option_map_or}
use Rattle.std.specs.Str.{bytes_eq}
use Rattle.clap.specs.Words.{Row, Text, found_of, rows_of}
use Rattle.command_line.specs.Plans.{HasNumbersWithin}
use Rattle.command_line.specs.Refusals.{Answers, IsMistake, IsMistakeIn, IsMistakeOf, conflicts_in}
use Rattle.command_line.specs.Requests.{Asking, command_named, request_in}
use Rattle.command_line.specs.Requests.{check, solve, series, show, describe, play, compare, certify}
use Rattle.command_line.specs.Requests.{explain, present, catalogue, desk}
use Rattle.requests.specs.Requests.{request_of}
use Rattle.requests.specs.declared.plans.Plan.{Plan}
use Rattle.command_line.specs.declared.faults.UsageFault.{UsageFault}
use Rattle.command_line.specs.declared.faults.UsageFault.TheVariants.{Memory, Help, Words, Number, Exclusive, Incomplete}
use Rattle.command_line.proofs.asking.command_plan.Goals as goal

not_true : (b : Bool) → (b ≡ true → ⊥) → b ≡ false
not_true true h = absurd (h refl)
not_true false h = refl

-- the name is another word
other : (name word : Text) → (name ≡ word → ⊥) → bytes_eq word name ≡ false
other name word h = not_true (bytes_eq word name) (λ e. h (sym ((bytes_eq-Decides word name).0 e)))

passed : {X : Type 0} (b : Bool) (x rest : Option X) → b ≡ false → rest ≡ None
    → (if b then x else rest) ≡ None
passed true x rest e r = cc
passed false x rest e r = r

-- a name that is none of the commands' names no command
unnamed : (name : Text) → (name ≡ codes "check" → ⊥) → (name ≡ codes "solve" → ⊥)
    → (name ≡ codes "series" → ⊥) → (name ≡ codes "show" → ⊥) → (name ≡ codes "describe" → ⊥)
    → (name ≡ codes "play" → ⊥) → (name ≡ codes "compare" → ⊥) → (name ≡ codes "certify" → ⊥)
    → (name ≡ codes "explain" → ⊥) → (name ≡ codes "present" → ⊥) → (name ≡ codes "catalogue" → ⊥)
    → (name ≡ codes "desk" → ⊥) → (name ≡ codes "infinite" → ⊥) → (name ≡ codes "tail" → ⊥)
    → (name ≡ codes "verify" → ⊥) → (name ≡ codes "value" → ⊥) → (name ≡ codes "apart" → ⊥)
    → command_named name ≡ None
unnamed name check solve series show describe play compare certify explain present catalogue desk
    infinite tail verify value apart =
    passed _ _ _ (other name (codes "check") check)
    (passed _ _ _ (other name (codes "solve") solve)
    (passed _ _ _ (other name (codes "series") series)
    (passed _ _ _ (other name (codes "show") show)
    (passed _ _ _ (other name (codes "describe") describe)
    (passed _ _ _ (other name (codes "play") play)
    (passed _ _ _ (other name (codes "compare") compare)
    (passed _ _ _ (other name (codes "certify") certify)
    (passed _ _ _ (other name (codes "explain") explain)
    (passed _ _ _ (other name (codes "present") present)
    (passed _ _ _ (other name (codes "catalogue") catalogue)
    (passed _ _ _ (other name (codes "desk") desk)
    (passed _ _ _ (other name (codes "infinite") infinite)
    (passed _ _ _ (other name (codes "tail") tail)
    (passed _ _ _ (other name (codes "verify") verify)
    (passed _ _ _ (other name (codes "value") value)
    (passed _ _ _ (other name (codes "apart") apart) refl))))))))))))))))

-- what the command of the name answers
module _ (name : Text) (rows : List Row) (command : Asking) (is : command_named name ≡ Some command)
  where
    asked : (r : Result Plan UsageFault) → Answers command rows r
        → IfOk r (λ (plan : Plan). request_in (Some (name, rows)) ≡ Some (request_of plan))
    asked (Ok plan) h = ap (option_and_then (λ (a : Asking). a.request rows)) is ∙ h.0
    asked (Err fault) h = tt

    -- what is answered of the arguments, unless memory was wanting
    unless : (f : UsageFault) → f ≢ Memory → Answers command rows (Err f)
        → (command.request rows ≡ None) × IsMistake command rows f
    unless Memory other h = absurd (other refl)
    unless (Help text) other h = h
    unless (Words text) other h = h
    unless (Number quantity) other h = h
    unless (Exclusive which) other h = h
    unless Incomplete other h = h

    numbers : (r : Result Plan UsageFault) → Answers command rows r → IfOk r HasNumbersWithin
    numbers (Ok plan) h = h.1
    numbers (Err fault) h = tt

    apart : (r : Result Plan UsageFault) → Answers command rows r
        → IfOk r (λ (plan : Plan). conflicts_in (Some (name, rows)) ≡ false)
    apart (Ok plan) h =
        ap (λ (a : Option Asking). option_map_or (λ (c : Asking). c.conflicts rows) a false) is
        ∙ h.2
    apart (Err fault) h = tt

    nothing : (r : Result Plan UsageFault) → Answers command rows r
        → IfErr r (λ (f : UsageFault). f ≢ Memory → request_in (Some (name, rows)) ≡ None)
    nothing (Ok plan) h = tt
    nothing (Err fault) h = λ other.
        ap (option_and_then (λ (a : Asking). a.request rows)) is ∙ (unless fault other h).0

    mistake : (r : Result Plan UsageFault) → Answers command rows r
        → IfErr r (λ (f : UsageFault). f ≢ Memory → IsMistakeIn (Some (name, rows)) f)
    mistake (Ok plan) h = tt
    mistake (Err fault) h = λ other.
        subst (λ (a : Option Asking). IsMistakeOf a rows fault) (sym is) (unless fault other h).1

pub returns-in_default-clause-nothing : goal.returns-in_default-clause-nothing
returns-in_default-clause-nothing c = λ _.
    ap (option_and_then (λ (a : Asking). a.request (rows_of (found_of c.args.given.now))))
    (unnamed c.args.name.now c.in_default.not-check c.in_default.not-solve
    c.in_default.not-series c.in_default.not-show c.in_default.not-describe
    c.in_default.not-play c.in_default.not-compare c.in_default.not-certify
    c.in_default.not-explain c.in_default.not-present c.in_default.not-catalogue
    c.in_default.not-desk c.in_default.not-infinite c.in_default.not-tail
    c.in_default.not-verify c.in_default.not-value c.in_default.not-apart)

pub returns-in_default-clause-fault : goal.returns-in_default-clause-fault
returns-in_default-clause-fault c = λ _.
    subst (λ (a : Option Asking). IsMistakeOf a (rows_of (found_of c.args.given.now)) Incomplete)
    (sym (unnamed c.args.name.now c.in_default.not-check c.in_default.not-solve
    c.in_default.not-series c.in_default.not-show c.in_default.not-describe
    c.in_default.not-play c.in_default.not-compare c.in_default.not-certify
    c.in_default.not-explain c.in_default.not-present c.in_default.not-catalogue
    c.in_default.not-desk c.in_default.not-infinite c.in_default.not-tail
    c.in_default.not-verify c.in_default.not-value c.in_default.not-apart)) refl

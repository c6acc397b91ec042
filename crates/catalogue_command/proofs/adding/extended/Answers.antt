use Rattle.std.proofs.Common.{◌≡◌, ◌∙◌, ap, arith, ℕ, List, Option, Bool, true, false, sym, subst}
use Rattle.streams.specs.Files.{Replaces}
use Rattle.check_machine.specs.Turns.{verdict}
use Rattle.catalogue_command.proofs.Fronts.{whole_of}
use Rattle.misere_theory.specs.Certificates.{Certificate}
use Rattle.catalogue.specs.Texts.{catalogue_text}
use Rattle.catalogue_command.specs.Answers.{AddsTo, Saves}
use Rattle.catalogue_command.proofs.adding.extended.Goals as goal
use Rattle.catalogue_command.proofs.adding.extended.Goals.{then-report+in_ok-save, else-report}

saved : (before mid after : Option (List ℕ → Option (List ℕ))) (file : List ℕ) (succeeds : Bool)
    (new : List Certificate) → succeeds ≡ true → mid ≡ before
    → Replaces mid after file (catalogue_text new) → Saves before after file succeeds new
saved before mid after file succeeds new is same h =
    subst (λ w. Saves before after file w new) (sym is)
    (subst (λ m. Replaces m after file (catalogue_text new)) same h)

unsaved : (before after : Option (List ℕ → Option (List ℕ))) (file : List ℕ) (succeeds : Bool)
    (new : List Certificate) → succeeds ≡ false → after ≡ before
    → Saves before after file succeeds new
unsaved before after file succeeds new is same =
    subst (λ w. Saves before after file w new) (sym is) same

pub returns-clause-told : goal.returns-clause-told
returns-clause-told g c =
    let before = g.F.Folder.files c.args.folder.now in
    let kept = c.read_front.ensures.kept in
    let report = c.in_ok-report.report in
    let file = c.args.file.now in
    let new = c.addition.new.catalogue in
    let whole = whole_of before c.args.certificate.now 4194305 c.in_ok-bytes.bytes.items
    c.in_ok-bytes.ensures.bytes (omega (arith, c.in_ok-bytes.ensures.bound, c.in_ok-bytes.bytes.ok)) in (
      whole.0,
      new,
      whole.1,
      subst (λ v. AddsTo c.args.catalogue.now v report.succeeds new report.text.items)
          (ap (λ b. verdict b c.args.limit) (c.deref.ensures.value ∙ whole.2)
          ∙ c.fronts_decide.ensures.same whole.0 c.args.limit) c.in_ok-report.ensures,
      elim c.if-report.branch [
        | then-report+in_ok-save w ↦
            subst (λ f. Saves before (g.F.Folder.files f) file report.succeeds new)
            (sym w.folder-is)
            (saved before (g.F.Folder.files c.read_front.new.folder)
            (g.F.Folder.files w.save.new.folder) file report.succeeds new
            w.if-report.true kept w.in_ok-save.ensures.saved)
        | else-report w ↦
            subst (λ f. Saves before (g.F.Folder.files f) file report.succeeds new)
            (sym w.folder-is)
            (unsaved before (g.F.Folder.files c.read_front.new.folder) file report.succeeds new
            w.if-report.false kept)
      ],
    )

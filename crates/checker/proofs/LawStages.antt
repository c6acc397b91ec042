-- What the table's job comes to, as the stage that holds it.
use Rattle.std.proofs.Common.{◌≡◌, ℕ, ◌+◌, ◌<◌, ◌≤◌, false, List, refl, sym, ◌∙◌, ap, subst, inl, arith}
use Rattle.misere_theory.specs.Certificates.{Certificate}
use Rattle.monoid_table.specs.Turns.{JobState, turns, triples, is_over}
use Rattle.monoid_table.specs.Pretending.{Pretending}
use Rattle.certificate.specs.Fields.{IsWhole}
use Rattle.check_machine.specs.LawfulCertificates.{IsUnderLaws}
use Rattle.check_machine.specs.Views.{LawsView}
use Rattle.check_machine.specs.Turns.{Phase, stage_of, Runs, laws_at}
use Rattle.check_machine.specs.Turns.Phase.{Laws}
use Rattle.check_machine.proofs.LawTurns.{laws_in, laws_works}
use Rattle.check_machine.proofs.TableLaws.{turns-grid}
use Rattle.check_machine.proofs.UnitLaws.{turns-range}
use Rattle.checker.specs.Parts.{parts_of, whole_of}
use Rattle.checker.specs.Stages.{Comes}
use Rattle.checker.specs.declared.lines.Lines.{Lines}

module _ {A : Type 0} (lines : Lines A) (code : List ℕ) (phi : Pretending) (s J : JobState) (n : ℕ)
    (is : J ≡ turns n s) where
  pub same_grid : J.grid ≡ s.grid
  same_grid = ap (λ j. j.grid) is ∙ turns-grid n s

  pub spent_range : IsUnderLaws (parts_of lines code s.grid phi) s.spent
      → (s.spent ≤ J.spent) × (J.spent ≤ s.spent + n)
  spent_range u =
      let r = turns-range n s u.within in
      let d : J.spent ≡ (turns n s).spent = ap (λ j. j.spent) is in
      (omega arith, omega arith)

  pub still_under : IsUnderLaws (parts_of lines code s.grid phi) s.spent
      → IsUnderLaws (parts_of lines code J.grid phi) J.spent
  still_under u = record {
    whole = subst (λ t. IsWhole (parts_of lines code t phi)) (sym same_grid) u.whole;
    within =
        let r = turns-range n s u.within in
        let o = ap (λ t. triples t.order) same_grid in
        let d : J.spent ≡ (turns n s).spent = ap (λ j. j.spent) is in
        omega arith;
  }

  pub still_at : is_over J ≡ false
      → Laws (record { certificate = whole_of lines code J.grid phi; job = J })
      ≡ laws_at (whole_of lines code s.grid phi) (turns n s)
  still_at o =
      ap (λ t. Laws (record { certificate = whole_of lines code t phi; job = J })) same_grid
      ∙ (ap (λ j. Laws (record { certificate = whole_of lines code s.grid phi; job = j })) is
      ∙ sym (laws_in _ (turns n s) (ap is_over (sym is) ∙ o)))

module _ (c : Certificate) (s : JobState) (v : LawsView)
    (is : record { certificate = c; job = s } ≡ v) (some : is_over s ≡ false) (bytes : List ℕ)
    (limit : ℕ) where
  module _ (before after : ℕ) (to : Phase) (e : after + (turns before s).spent ≡ before + s.spent)
      (at : to ≡ laws_at c (turns before s)) (later : 0 < after → 1 < stage_of to) where
    pub laws_run : Runs bytes limit (Laws v) before after to
    laws_run = subst (λ w. Runs bytes limit (Laws w) before after to) is
        (laws_works bytes limit c s some before after to e at later).runs

    pub laws_come : Comes bytes limit (Laws v) before after to
    laws_come = record { to = to; runs = laws_run; shown = inl refl; on = λ a b. later a }

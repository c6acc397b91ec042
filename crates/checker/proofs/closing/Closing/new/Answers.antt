use Rattle.std.proofs.Common.{◌≡◌, ◌<◌, ◌≤◌, ◌*◌, length, false, refl, arith, subst, sym, ap, ◌∙◌}
use Rattle.std.specs.FinSet as set
use Rattle.std.specs.Ordering.{nat_cmp}
use Rattle.std.specs.List.{All}
use Rattle.std.proofs.lemmas.List.Elements.{All-weaker}
use Rattle.misere_theory.specs.Games.{IsHeapUpTo}
use Rattle.misere_theory.specs.Pairs.{ElementsObey}
use Rattle.misere_theory.specs.Certificates.{Certificate, Canonical, claim_of}
use Rattle.monoid_table.specs.Grids.{Grid}
use Rattle.certificate.specs.Fields.{grid_of}
use Rattle.check_machine.specs.Rules.{HeldObey}
use Rattle.pair_closure.specs.ClosureViews.{ClosureView, begun, has_ended}
use Rattle.check_machine.specs.Views.{ClosingView}
use Rattle.check_machine.specs.Closings.{HavePairs, IsClosing}
use Rattle.check_machine.specs.Bounds.{bound_of}
use Rattle.pair_closure.proofs.Fit.{closure_fits}
use Rattle.transition_algebra.specs.Pairs.{IsPair}
use Rattle.check_machine.proofs.CloseTurns.{begun_going}
use Rattle.check_machine.proofs.UnitLaws.{bound_few}
use Rattle.checker.specs.Parts.{parts_of, whole_of}
use Rattle.checker.proofs.closing.Closing.new.Goals as goal

pub invariant_of-result : goal.invariant_of-result
invariant_of-result g c =
    let s = c.certificate.inside in
    let inside : set.FinSet nat_cmp = c.set_of-inside.result in
    subst (λ (p : ClosureView).
    IsClosing (parts_of s.lines s.code p.state.table s.phi) inside p.state.heaps
    × HeldObey inside p.state.held
    × (has_ended p.state ≡ false) × (p.failed ≡ false) × (g.row.LANES ≤ 64))
    (sym c.new.ensures) (
      record {
        certificate = c.certificate.invariant;
        portion = λ x. rw c.deref.ensures.value at c.set_of-inside.ensures x;
        canonical = subst Canonical (sym c.certificate.view_is) c.requires.canonical;
        exact = subst (λ d. HavePairs d c.args.pairs.items) (sym c.certificate.view_is) c.requires.pairs;
        elements =
            subst (λ d. ElementsObey d.code (claim_of d) (IsHeapUpTo (bound_of d)))
            (sym c.certificate.view_is) c.requires.elements;
      },
      λ i l. absurd (omega arith),
      begun_going s.table c.args.pairs.items c.args.limit,
      refl,
      c.requires.few,
    )

pub returns : goal.returns
returns g c =
    let s = c.certificate.inside in
    let whole = whole_of s.lines s.code s.table s.phi in
    let with : Certificate → Grid → ClosingView =
    λ d t. record { certificate = d; closure = begun t c.args.pairs.items c.args.limit } in
    let over : ClosureView → ClosingView =
    λ q. record { certificate = whole_of s.lines s.code q.state.table s.phi; closure = q } in
    let joined : grid_of whole ≡ s.table =
    ap (λ es. record { order = s.table.order; entries = es })
    c.certificate.invariant.whole.rows_joined in
    record {
      value = ap over c.new.ensures
          ∙ (ap (with whole) (sym joined)
          ∙ ap (λ d. with d (grid_of d)) c.certificate.view_is);
    }

pub set_of-inside-requires : goal.set_of-inside-requires
set_of-inside-requires g c =
    let s = c.certificate.inside in
    let few = c.requires.few in
    let fits : s.table.order ≤ 64 * g.row.LANES =
    subst (λ d. d.order ≤ 64 * g.row.LANES) (sym c.certificate.view_is) c.requires.fits in (
      omega arith,
      rw c.deref.ensures.value
          (All-weaker (λ x. x < s.table.order) (λ x. x < 64 * g.row.LANES) (λ x l. omega arith)
          s.lines.portion.items c.certificate.invariant.whole.writable.in_ranges.portion.1),
    )

pub new-requires : goal.new-requires
new-requires g c =
    let few = bound_few _ c.certificate.invariant.whole.writable.in_ranges in
    let long = subst (λ d. length c.args.pairs.items ≡ bound_of d) (sym c.certificate.view_is)
    c.requires.pairs.exact.length_is in
    let lanes = c.requires.few in (
      omega arith,
      (
        closure_fits g.row.LANES g.row.A g.A.Allocator g.met.A.SmallAllocator.small,
        (
          subst (λ d. d.order ≤ 64 * g.row.LANES) (sym c.certificate.view_is) c.requires.fits,
          (
            c.requires.few,
            (
              omega arith,
              subst (λ d. All (IsPair d.order) c.args.pairs.items) (sym c.certificate.view_is)
                  c.requires.pairs.within,
            ),
          ),
        ),
      ),
    )

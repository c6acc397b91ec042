use Rattle.std.proofs.Common.{◌≡◌, ℕ, List, ◌*◌, ◌<◌, ◌≤◌, true, refl, inl, inr, ap, ◌∙◌, subst, sym, arith}
use Rattle.std.specs.List.{All}
use native.Mathlib.Decide.{dec_lt}
use Rattle.misere_theory.specs.Certificates.{Canonical}
use Rattle.monoid_table.specs.Grids.{Grid}
use Rattle.monoid_table.specs.Pretending.{Pretending}
use Rattle.transition_algebra.specs.Heaps.{AreAllHeapPairs, all_heap_pairs}
use Rattle.transition_algebra.specs.Pairs.{IsPair}
use Rattle.transition_algebra.specs.Work.{HeapWork, IsDone, heap_cost}
use Rattle.transition_algebra.proofs.Fit.{heap_job_fits}
use Rattle.check_machine.specs.Closings.{IsCanonicalCertificate}
use Rattle.check_machine.specs.Turns.Phase.{Heaps, Elements}
use Rattle.check_machine.proofs.HeapLaws.{heaps_have_pairs}
use Rattle.check_machine.proofs.TurnLaws.{runs-to}
use Rattle.checker.specs.Parts.{parts_of, whole_of}
use Rattle.checker.proofs.Fit.{elements_fits}
use Rattle.checker.proofs.HeapStages.{with_work, next_of, all_of, heaps_going, heaps_made, refused_before}
use Rattle.checker.proofs.heaps.Heaps.work.Goals as goal

not_done : (J : HeapWork) → J.spent ≤ heap_cost J.code J.phi → (IsDone J → ⊥)
    → J.spent < heap_cost J.code J.phi
not_done J most not = elim (dec_lt J.spent (heap_cost J.code J.phi)) [
  | yes h ↦ h
  | no f ↦ absurd (not (let q : J.spent ≡ heap_cost J.code J.phi = omega arith in q))
]

-- A growth was refused in this call, or before it.
pub returns-in-Err : goal.returns-in-Err
returns-in-Err g c = λ bytes limit.
    let s = c.self.inside in
    let J = c.work-made.new.self in
    let r = c.work-made.ensures.spent in
    let a = c.spent.ensures in
    let b = c.spent-before.ensures in
    let w =
    refused_before s.job J _ c.in-Err.ensures.refused c.in-Err.ensures.short
    (λ t. (c.work-made.ensures.stays t).1) c.self.invariant.1 in
    record {
      to = Heaps (record { certificate = with_work s.lines s.job; spent = J.spent });
      runs = heaps_going s.lines s.job _ c.self.view_is c.self.invariant.1 bytes limit
          c.args.left.now _ J.spent r.0 (omega arith) (omega arith) w;
      shown = inr refl;
      on = λ _ _. omega arith;
    }

pub returns-in-Ok-false : goal.returns-in-Ok-false
returns-in-Ok-false g c = λ bytes limit.
    let s = c.self.inside in
    let J = c.work-made.new.self in
    let r = c.work-made.ensures.spent in
    let a = c.spent.ensures in
    let b = c.spent-before.ensures in
    let e = c.in-Ok-false.ensures.worked.1 in
    let m = ap (λ (j : HeapWork). j.spent) e in
    let k = ap (λ (j : HeapWork). heap_cost j.code j.phi) e in
    let l =
    not_done J r.2
    (λ d. (let t : c.in-Ok-false.field-0 ≡ true = c.in-Ok-false.ensures.done.1 d in cc)) in
    record {
      to = Heaps (record { certificate = with_work s.lines J; spent = J.spent });
      runs =
          runs-to bytes limit _ _ _ _ _
          (heaps_going s.lines s.job _ c.self.view_is c.self.invariant.1 bytes limit
          c.args.left.now _ J.spent r.0 (omega arith) (omega arith) (omega arith))
          (ap (λ j. Heaps (record { certificate = with_work s.lines j; spent = J.spent })) (sym e));
      shown = inl refl;
      on = λ h. absurd (omega arith);
    }

pub returns-in-Err-new : goal.returns-in-Err-new
returns-in-Err-new g c = λ bytes limit.
    let s = c.self.inside in
    let i = c.self.invariant.0.certificate.whole in
    let J = c.work-made.new.self in
    let r = c.work-made.ensures.spent in
    let a = c.spent.ensures in
    let b = c.spent-before.ensures in
    let k = ap (λ (j : HeapWork). heap_cost j.code j.phi) c.in-Ok-true.ensures.worked.1 in
    let d : IsDone J = c.in-Ok-true.ensures.done.0 c.in-Ok-true.field-0-test in
    let l : heap_cost s.job.code s.job.phi ≤ J.spent = omega (arith, d) in
    record {
      to = Elements
          (next_of s.lines s.job.code s.job.table s.job.phi
          (all_heap_pairs s.job.code s.job.table s.job.phi));
      runs = heaps_made s.lines s.job _ c.self.view_is c.self.invariant.1 bytes limit
          c.args.left.now _ J.spent r.0 (omega arith) (omega arith) l i.writable.in_ranges
          (ap (λ es. record { order = s.job.table.order; entries = es }) i.rows_joined);
      shown = inr refl;
      on = λ _ _. omega arith;
    }

pub returns-in-Ok : goal.returns-in-Ok
returns-in-Ok g c = λ bytes limit.
    let s = c.self.inside in
    let i = c.self.invariant.0.certificate.whole in
    let J = c.work-made.new.self in
    let r = c.work-made.ensures.spent in
    let a = c.spent.ensures in
    let b = c.spent-before.ensures in
    let e = c.in-Ok-true.ensures.worked.1 in
    let k = ap (λ (j : HeapWork). heap_cost j.code j.phi) e in
    let d : IsDone J = c.in-Ok-true.ensures.done.0 c.in-Ok-true.field-0-test in
    let l : heap_cost s.job.code s.job.phi ≤ J.spent = omega (arith, d) in
    let f = c.finish-code.ensures in
    record {
      to = Elements c.in-Ok.elements;
      runs =
          runs-to bytes limit _ _ _ _ _
          (heaps_made s.lines s.job _ c.self.view_is c.self.invariant.1 bytes limit
          c.args.left.now _ J.spent r.0 (omega arith) (omega arith) l i.writable.in_ranges
          (ap (λ es. record { order = s.job.table.order; entries = es }) i.rows_joined))
          (ap Elements
          (ap (λ (j : HeapWork). next_of s.lines j.code j.table j.phi (all_heap_pairs j.code j.table j.phi))
          (sym e)
          ∙ (sym (all_of s.lines J _ _ _ _ f.code f.table f.phi f.made)
          ∙ sym c.in-Ok.ensures.value)));
      shown = inl refl;
      on = λ _ _. omega arith;
    }

pub new-requires : goal.new-requires
new-requires g c =
    let s = c.self.inside in
    let i = c.self.invariant in
    let r = c.finish-code.result in
    let e = c.finish-code.ensures in
    let j = c.work-made.new.self in
    let Keeps : List ℕ → Grid → Pretending → Type 0 =
    λ code table phi. Canonical (whole_of s.lines code table phi)
    × (table.order ≤ 64 * g.row.LANES) × AreAllHeapPairs code table phi r.3.items in
    let old = subst (λ (w : HeapWork). Canonical (with_work s.lines w)
    × (w.table.order ≤ 64 * g.row.LANES)) (sym c.in-Ok-true.ensures.worked.1)
    (i.0.canonical, i.2) in
    let kept : Keeps r.0 r.1 r.2 = rw (e.code, e.table, e.phi) (old.0, old.1, e.exact) in
    let n = subst (λ k. All (IsPair k.order) r.3.items) (sym e.table) e.within in
    let few = i.3 in (
      omega arith,
      (
        elements_fits g.row.A g.A.Allocator g.met.A.SmallAllocator.small g.row.LANES few,
        (
          kept.1,
          (
            few,
            (kept.0, heaps_have_pairs (parts_of s.lines r.0 r.1 r.2) r.3.items kept.2 n),
          ),
        ),
      ),
    )

pub finish-code-requires : goal.finish-code-requires
finish-code-requires g c =
    let few = c.self.invariant.3 in (
      heap_job_fits g.row.LANES g.row.A g.A.Allocator few g.met.A.SmallAllocator.small,
      (omega arith, c.in-Ok-true.ensures.done.0 c.in-Ok-true.field-0-test),
    )

pub invariant_of-result : goal.invariant_of-result
invariant_of-result g c =
    let s = c.self.inside in
    let i = c.self.invariant in
    let J = c.work-made.new.self in
    let r = c.work-made.ensures.spent in
    let kept =
    subst (λ (j : HeapWork). IsCanonicalCertificate (parts_of s.lines j.code j.table j.phi)
    × (j.table.order ≤ 64 * g.row.LANES)) (sym c.in-Ok-false.ensures.worked.1) (i.0, i.2) in
    let going =
    not_done J r.2
    (λ d. (let t : c.in-Ok-false.field-0 ≡ true = c.in-Ok-false.ensures.done.1 d in cc)) in
    (kept.0, going, kept.1, i.3)

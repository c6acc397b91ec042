-- By what the closing came to: all closed, the limit, a breach, no memory, or turns left to take.
use Rattle.std.proofs.Common.{◌≡◌, ℕ, List, arith, inl, inr, subst, sym, ◌∙◌, ap, Result, Ok, refl}
use Rattle.std.specs.FinSet as set
use Rattle.std.specs.Ordering.{nat_cmp}
use Rattle.misere_theory.specs.Certificates.{Accepted}
use Rattle.allocation.specs.declared.Memory.{Memory}
use Rattle.monoid_table.specs.Grids.{Grid}
use Rattle.transition_algebra.specs.OverSets.{Pair}
use Rattle.pair_closure.specs.ClosureViews.{ClosureView}
use Rattle.pair_closure.proofs.Fit.{closure_fits}
use Rattle.answers.specs.ByteVerdicts.ByteVerdict.{Yes, Outcome}
use Rattle.check_machine.specs.Closings.{IsClosing}
use Rattle.check_machine.specs.Turns.Phase.{Closing, Ended}
use Rattle.check_machine.proofs.HeapLaws.{members_cover}
use Rattle.checker.specs.Parts.{parts_of, whole_of}
use Rattle.checker.specs.Closes.{HasClosed}
use Rattle.checker.specs.declared.closing.Looked.{Looked}
use Rattle.checker.specs.declared.closing.Looked.TheVariants.{More, Done, Over, Broken}
use Rattle.checker.proofs.CloseStages.{closes_come}
use Rattle.checker.proofs.closing.Closing.work.Goals as goal

-- what the closing came to
come : (inside : set.FinSet nat_cmp) (p q : ClosureView) (before after : ℕ)
    (r : Result Looked Memory) (f h : Looked) → HasClosed inside p before after q r → r ≡ Ok f
    → f ≡ h → HasClosed inside p before after q (Ok h)
come inside p q before after r f h k e d =
    subst (HasClosed inside p before after q) (e ∙ ap Ok d) k

pub close-closed-requires : goal.close-closed-requires
close-closed-requires g c =
    let i = c.self.invariant in
    let few = i.4 in (
      closure_fits g.row.LANES g.row.A g.A.Allocator g.met.A.SmallAllocator.small,
      (omega arith, (i.1, (i.2, i.3))),
    )

pub word-word-requires : goal.word-word-requires
word-word-requires g c =
    let r =
    come c.self.inside.inside c.self.inside.closure c.close-closed.new.closure _ _ _ _ (Broken c.in-Ok-Broken.i) c.close-closed.ensures.closed
    c.in-Ok-Broken.is (rw c.in-Ok-Broken.is at c.in-Ok-Broken.field-0-is) in
    (closure_fits g.row.LANES g.row.A g.A.Allocator g.met.A.SmallAllocator.small, r.0)

pub invariant_of-result : goal.invariant_of-result
invariant_of-result g c =
    let s = c.self.inside in
    let same = c.close-closed.ensures.same in
    let r =
    come s.inside s.closure c.close-closed.new.closure _ _ _ _ More c.close-closed.ensures.closed c.in-Ok-More.is
    (rw c.in-Ok-More.is at c.in-Ok-More.field-0-is) in
    let Is : Grid → List Pair → Type 0 =
    λ t heaps. IsClosing (parts_of s.lines s.code t s.phi) s.inside heaps in (
      subst (Is c.close-closed.new.closure.state.table) (sym same.heaps)
          (subst (λ t. Is t s.closure.state.heaps) (sym same.table) c.self.invariant.0),
      r.1,
      r.2,
      r.3,
      c.self.invariant.4,
    )

pub accepted-requires : goal.accepted-requires
accepted-requires g c =
    let s = c.self.inside in
    let i = c.self.invariant.0 in
    let p = parts_of s.lines s.code s.closure.state.table s.phi in
    let q = c.close-closed.new.closure in
    let same = c.close-closed.ensures.same in
    let r =
    come s.inside s.closure q _ _ _ _ Done c.close-closed.ensures.closed c.in-Ok-Done.is
    (rw c.in-Ok-Done.is at c.in-Ok-Done.field-0-is) in
    let covered =
    members_cover p s.inside s.closure.state.heaps i q.state same.table same.heaps r.0 r.1 in
    subst (λ t. Accepted (whole_of s.lines s.code t s.phi))
    (sym (c.finish-table.ensures.table ∙ same.table))
    (c.tested_certificates_are_accepted.ensures _ covered.kept i.certificate.lawful.in_ranges
    i.certificate.lawful.monoid i.canonical covered.closed covered.obey i.elements)

pub returns-in-Err : goal.returns-in-Err
returns-in-Err g c =
    let r = c.in-Err.ensures.closed in
    λ bytes limit. closes_come _ c.self.inside.inside c.self.invariant.0.portion
    c.self.inside.closure _ c.self.view_is _ _ bytes limit r.0 r.1 _ (inr refl)
    (λ _ _. omega arith)

pub returns-in-Ok-More : goal.returns-in-Ok-More
returns-in-Ok-More g c =
    let s = c.self.inside in
    let q = c.close-closed.new.closure in
    let r =
    come s.inside s.closure q _ _ _ _ More c.close-closed.ensures.closed c.in-Ok-More.is
    (rw c.in-Ok-More.is at c.in-Ok-More.field-0-is) in
    λ bytes limit. closes_come _ s.inside c.self.invariant.0.portion s.closure _ c.self.view_is _ _
    bytes limit _ r.4 _
    (inl (ap (λ t. Closing (record { certificate = whole_of s.lines s.code t s.phi; closure = q }))
    (sym c.close-closed.ensures.same.table))) (λ h. absurd (omega (arith, r.0)))

pub returns-in-Ok-Over : goal.returns-in-Ok-Over
returns-in-Ok-Over g c =
    let s = c.self.inside in
    let r =
    come s.inside s.closure c.close-closed.new.closure _ _ _ _ Over c.close-closed.ensures.closed
    c.in-Ok-Over.is (rw c.in-Ok-Over.is at c.in-Ok-Over.field-0-is) in
    λ bytes limit. closes_come _ s.inside c.self.invariant.0.portion s.closure _ c.self.view_is _ _
    bytes limit _ r _ (inl refl) (λ _ _. omega arith)

pub returns-in-Ok : goal.returns-in-Ok
returns-in-Ok g c =
    let s = c.self.inside in
    let r =
    come s.inside s.closure c.close-closed.new.closure _ _ _ _ (Broken c.in-Ok-Broken.i)
    c.close-closed.ensures.closed c.in-Ok-Broken.is
    (rw c.in-Ok-Broken.is at c.in-Ok-Broken.field-0-is) in
    λ bytes limit. closes_come _ s.inside c.self.invariant.0.portion s.closure _ c.self.view_is _ _
    bytes limit _ r.1 _ (inl (ap (λ X. Ended (Outcome s.code X)) (sym c.in-Ok.ensures.is.are)))
    (λ _ _. omega arith)

pub returns-in-Err-word : goal.returns-in-Err-word
returns-in-Err-word g c =
    let s = c.self.inside in
    let r =
    come s.inside s.closure c.close-closed.new.closure _ _ _ _ (Broken c.in-Ok-Broken.i)
    c.close-closed.ensures.closed c.in-Ok-Broken.is
    (rw c.in-Ok-Broken.is at c.in-Ok-Broken.field-0-is) in
    λ bytes limit. closes_come _ s.inside c.self.invariant.0.portion s.closure _ c.self.view_is _ _
    bytes limit _ r.1 _ (inr refl) (λ _ _. omega arith)

pub returns-in-Ok-Done : goal.returns-in-Ok-Done
returns-in-Ok-Done g c =
    let s = c.self.inside in
    let r =
    come s.inside s.closure c.close-closed.new.closure _ _ _ _ Done c.close-closed.ensures.closed
    c.in-Ok-Done.is (rw c.in-Ok-Done.is at c.in-Ok-Done.field-0-is) in
    let e =
    ap (λ t. whole_of s.lines s.code t s.phi)
    (c.finish-table.ensures.table ∙ c.close-closed.ensures.same.table) in
    λ bytes limit. closes_come _ s.inside c.self.invariant.0.portion s.closure _ c.self.view_is _ _
    bytes limit _ r.2 _ (inl (sym (ap (λ d. Ended (Yes d)) (c.accepted.ensures ∙ e))))
    (λ _ _. omega arith)

-- At each way out the clause of each fault is right: it is given, or its condition doesn't hold.
use Rattle.std.proofs.Common.{◌≡◌, ◌+◌, ◌<◌, ◌≤◌, ◌∙◌, ℕ, List, length, get_or, refl, sym, subst, arith}
use Rattle.std.specs.List.{Contains, remove}
use Rattle.std.specs.Prelude.{Result, Err, IsErrAnd}
use Rattle.std.proofs.lemmas.Bool.{iff_false}
use Rattle.std.proofs.lemmas.List.{get_or_default}
use Rattle.std.proofs.lemmas.List.Edits.{length-remove}
use Rattle.positions.specs.declared.moves.MoveFault.{MoveFault}
use Rattle.positions.specs.declared.moves.MoveFault.TheVariants.{NoSuchHeap, NotAllowed, Memory}
use Rattle.heap_options.specs.Exact.{heaps_of}
use Rattle.positions.proofs.Permuted.{parts_fit, moved_to}
use Rattle.positions.proofs.HeapsFit.{not_failed}
use Rattle.positions.proofs.moves.apply.Goals as goal

-- a heap of size n stands at the place i
abbrev IsAt : List ℕ → ℕ → ℕ → Type 0
IsAt X i n = (i < length X) × (get_or X i 0 ≡ n)

contained : {H X : List ℕ} (i n : ℕ) → H ≡ X → IsAt H i n → Contains X n
contained {H} {X} i n e h =
    subst (λ hs. Contains hs n) e (i, h.0, sym (get_or_default H i 0 n h.0) ∙ h.1)

-- the faults differ
no_heap_or_not_allowed : NoSuchHeap ≡ NotAllowed → ⊥
no_heap_or_not_allowed e = absurd (cc)

no_heap_or_memory : NoSuchHeap ≡ Memory → ⊥
no_heap_or_memory e = absurd (cc)

not_allowed_or_memory : NotAllowed ≡ Memory → ⊥
not_allowed_or_memory e = absurd (cc)

other_fault : {X : Type 0} {f g : MoveFault} → (f ≡ g → ⊥)
    → ◌≡◌ {A = Result X MoveFault} (Err f) (Err g) → ⊥
other_fault differ e = differ (cc)

is_memory : {X : Type 0} (r : Result X MoveFault) (fault : MoveFault)
    → IsErrAnd r (λ f. f ≡ Memory) → r ≡ Err fault → fault ≡ Memory
is_memory r fault m e = subst (λ r. IsErrAnd r (λ f. f ≡ Memory)) e m

pub returns-then-not-is_option-clause-no_such_heap :
    goal.returns-then-not-is_option-clause-no_such_heap
returns-then-not-is_option-clause-no_such_heap g c =
    let there = contained c.in-Ok.at c.args.step.heap c.heaps.ensures.value c.in-Ok.ensures in
    (λ e. absurd (other_fault (λ d. no_heap_or_not_allowed (sym d)) e), λ h. absurd (h there))

pub returns-then-not-is_option-clause-not_allowed :
    goal.returns-then-not-is_option-clause-not_allowed
returns-then-not-is_option-clause-not_allowed g c =
    let there = contained c.in-Ok.at c.args.step.heap c.heaps.ensures.value c.in-Ok.ensures in
    (λ e. (there, iff_false c.is_option.ensures c.if-not-is_option.true), λ h. refl)

pub set_moved-requires-clause-sizes : goal.set_moved-requires-clause-sizes
set_moved-requires-clause-sizes g c =
    let here : IsAt c.args.position.now c.in-Ok.at c.args.step.heap =
    rw (← c.heaps.ensures.value) c.in-Ok.ensures in
    let fits = c.heaps.ensures.sizes c.in-Ok.at 0 here.0 in
    parts_fit c.args.code.now c.args.step.heap 1000000000000000000 c.args.step.left
    (c.is_option.ensures.0 c.if-not-is_option.false) (let e = here.1 in omega arith)

pub returns-in_err-set_moved-clause-no_such_heap :
    goal.returns-in_err-set_moved-clause-no_such_heap
returns-in_err-set_moved-clause-no_such_heap g c =
    let there = contained c.in-Ok.at c.args.step.heap c.heaps.ensures.value c.in-Ok.ensures in
    let memory = is_memory c.from_residual.result NoSuchHeap c.from_residual.ensures.1 in
    (λ e. absurd (no_heap_or_memory (memory e)), λ h. absurd (h there))

pub returns-in_err-set_moved-clause-memory : goal.returns-in_err-set_moved-clause-memory
returns-in_err-set_moved-clause-memory g c = λ e.
    let there : c.in-Ok.at < length c.args.position.now =
    rw (← c.heaps.ensures.value) c.in-Ok.ensures.0 in
    let cut = length-remove c.args.position.now c.in-Ok.at there in
    let never : length (heaps_of c.args.step.left) + length (remove c.args.position.now c.in-Ok.at)
    ≤ 8 → ⊥ = λ few. not_failed (c.in_err-set_moved.ensures.inline few) in omega arith

pub returns-in_err-set_moved-clause-not_allowed :
    goal.returns-in_err-set_moved-clause-not_allowed
returns-in_err-set_moved-clause-not_allowed g c =
    let memory = is_memory c.from_residual.result NotAllowed c.from_residual.ensures.1 in (
      λ e. absurd (not_allowed_or_memory (memory e)),
      λ h. absurd (h.1 (c.is_option.ensures.0 c.if-not-is_option.false)),
    )

pub returns-clause-ok : goal.returns-clause-ok
returns-clause-ok g c =
    let here : IsAt c.args.position.now c.in-Ok.at c.args.step.heap =
    rw (← c.heaps.ensures.value) c.in-Ok.ensures in
    moved_to c.args.code.now c.args.position.now c.args.step.heap c.in-Ok.at c.args.step.left
    c.set_moved.new.self here.0 here.1 (c.is_option.ensures.0 c.if-not-is_option.false)
    c.in_ok-set_moved.ensures.moved

use Rattle.std.proofs.Common.{◌∙◌, ◌++◌, ◌+◌, ℕ, List, ap, sym, subst}
use Rattle.std.specs.String.{string_bytes}
use Rattle.description_commands.specs.Shown.{AreHeapLines, heap_line}
use Rattle.description_commands.specs.Shown.AreHeapLines.{NoHeap, NextHeap}
use Rattle.description_commands.proofs.showing.heaps_text.Goals as goal

pub loop-heap-init : goal.loop-heap-init
loop-heap-init c =
    subst (λ (t : List ℕ). AreHeapLines c.args.certified.now 1 t) (sym c.new-text.ensures.bytes)
    NoHeap

pub loop-heap-preserved : goal.loop-heap-preserved
loop-heap-preserved c =
    let line = c.as_str.ensures.value ∙ c.in_ok-line.ensures
    ∙ ap (λ (x : ℕ). heap_line c.loop-heap.heap x) c.element.ensures.value in
    subst (λ (t : List ℕ). AreHeapLines c.args.certified.now (c.loop-heap.heap + 1) t)
    (sym (c.in_ok-push_str.ensures.bytes ∙ ap (λ (t : List ℕ). string_bytes c.loop-heap.text ++ t)
    line))
    (NextHeap c.loop-heap.heap c.loop-heap.invariant)

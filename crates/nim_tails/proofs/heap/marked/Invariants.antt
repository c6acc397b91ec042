use Rattle.std.proofs.Common.{◌≡◌, ℕ, true, false, length, get_or}
use Rattle.std.specs.Prelude.{slice_index}
use Rattle.heap_options.specs.Exact.{heaps_of}
use Rattle.heap_options.specs.Options.{options_of}
use Rattle.nim_tails.specs.Normal.{nim_sum, IsNimOption}
use Rattle.nim_tails.specs.declared.TheConstants.{NIM_BOUND}
use Rattle.nim_tails.proofs.Walked.{IsWalked}
use Rattle.nim_tails.proofs.heap.marked.Given as goal

abbrev pub invariant-loop-left : goal.invariant-loop-left
invariant-loop-left l = record {
  long : length l.marks ≡ NIM_BOUND;
  only : (k : ℕ) → get_or l.marks k false ≡ true → IsNimOption l.code (slice_index l.values) l.heap k;
  walked : IsWalked (λ left. get_or l.marks (nim_sum (slice_index l.values) (heaps_of left)) false ≡ true)
      l.yielded l.left-iterator (options_of l.code l.heap);
}

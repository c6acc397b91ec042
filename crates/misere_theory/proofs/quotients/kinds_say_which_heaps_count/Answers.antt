use Rattle.misere_theory.specs.Games.{IsHeap, IsHeapUpTo}
use Rattle.misere_theory.specs.Kinds.{IsHeapIn}
use Rattle.misere_theory.proofs.Counting.{represents_where, whole_to, whole_from, part_to, part_from}
use Rattle.misere_theory.proofs.quotients.kinds_say_which_heaps_count.Goals as goal

pub returns : goal.returns
returns g = record {
  whole = λ n. (whole_to n, whole_from n);
  part = λ M n some. (part_to M some n, part_from M n);
  whole_quotient = λ code c. (
    represents_where (IsHeapIn 0) IsHeap whole_to whole_from code c,
    represents_where IsHeap (IsHeapIn 0) whole_from whole_to code c,
  );
  partial_quotient = λ M code c some. (
    represents_where (IsHeapIn M) (IsHeapUpTo M) (part_to M some) (part_from M) code c,
    represents_where (IsHeapUpTo M) (IsHeapIn M) (part_from M) (part_to M some) code c,
  );
}

use Rattle.std.proofs.Common.{◌≡◌, ℕ, ◌<◌, set, subst, true, false, length, get_or, refl, sym, ◌∙◌, ap, inl, inr, All}
use Rattle.std.specs.Prelude.{slice_index}
use Rattle.std.proofs.lemmas.List.{get_or-set_same, length-set}
use Rattle.misere_theory.specs.Games.{HeapOption}
use Rattle.heap_options.specs.Exact.{heaps_of}
use Rattle.heap_options.specs.Options.{options_of}
use Rattle.nim_tails.specs.Normal.{nim_sum}
use Rattle.nim_tails.specs.declared.TheConstants.{NIM_BOUND}
use Rattle.nim_tails.proofs.Marks.{none_marked, set_mark, kept_mark, below_heap, sum_listed}
use Rattle.nim_tails.proofs.Walked.{from_start, item, weaker, one_more, ended}
use Rattle.nim_tails.proofs.heap.marked.Goals as goal
use Rattle.nim_tails.proofs.heap.marked.Goals.{In-Some}

-- what is left is an option of the heap
option : (c : In-Some) → HeapOption c.args.code.now c.args.heap (heaps_of c.in-Some.left)
option c =
    (c.options_are_exact.ensures.only c.args.code.now c.args.heap c.args.heap c.in-Some.left
    (item _ c.loop-left.yielded c.loop-left.left-iterator (options_of c.args.code.now c.args.heap)
    c.in-Some.left c.next.new.self c.loop-left.invariant.walked c.in-Some.ensures.steps)).0

pub loop-left-init : goal.loop-left-init
loop-left-init c = record {
  long = refl;
  only = λ k e. absurd (none_marked NIM_BOUND k e);
  walked = from_start _ _ _ (c.into_iter-left-iterator.ensures.into_iter_gives ∙ c.options-left-items.ensures);
}

pub nim_sum-sum-requires-clause-listed : goal.nim_sum-sum-requires-clause-listed
nim_sum-sum-requires-clause-listed c =
    let here = goal.at.nim_sum-sum-requires-clause-listed c in
    subst (All (λ n. n < length c.args.values.now)) (sym (c.as_slice.ensures ∙ c.heaps.ensures))
    (below_heap (length c.args.values.now) c.requires.listed (option here.In-Some))

pub loop-left-preserved : goal.loop-left-preserved
loop-left-preserved c =
    let here = goal.at.loop-left-preserved c in
    let G = slice_index c.args.values.now in
    let marks = c.loop-left.marks in
    let s = c.nim_sum-sum.result in
    let w = c.loop-left.invariant in
    let sum : s ≡ nim_sum G (heaps_of c.in-Some.left) =
    c.nim_sum-sum.ensures.value ∙ ap (nim_sum G) (c.as_slice.ensures ∙ c.heaps.ensures) in
    let l : s < length marks = subst (λ b. s < b) (sym w.long) c.nim_sum-sum.ensures.low in
    let kept = λ (k : ℕ) (e : get_or marks k false ≡ true). kept_mark marks s k l e in record {
      long = length-set marks s true ∙ w.long;
      only = λ k e. elim (set_mark marks s k e) [
        | inl h ↦ (heaps_of c.in-Some.left, option here.In-Some, sym sum ∙ sym h)
        | inr old ↦ w.only k old
      ];
      walked = one_more _ c.loop-left.yielded c.loop-left.left-iterator _ c.in-Some.left
          c.next.new.self
          (weaker _ _ c.loop-left.yielded c.loop-left.left-iterator _
          (λ left e. kept (nim_sum G (heaps_of left)) e) w.walked)
          c.in-Some.ensures.steps
          (ap (λ k. get_or (set marks s true) k false) (sym sum)
          ∙ get_or-set_same marks s true false l);
    }

pub returns : goal.returns
returns c =
    let G = slice_index c.args.values.now in
    let marks = c.loop-left.marks in
    let w = c.loop-left.invariant in (
      w.long,
      λ k. (
        w.only k,
        λ (H, o, e).
            let (left, listed, same) =
            c.options_are_exact.ensures.each c.args.code.now c.args.heap H o in
            sum_listed G (λ i. get_or marks i false ≡ true) (heaps_of left) H k same e
            (ended _ c.loop-left.yielded c.loop-left.left-iterator _ w.walked
            c.in-None.ensures.steps.0 left listed),
      ),
    )

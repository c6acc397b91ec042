use Rattle.std.proofs.Common.{◌≡◌, ◌+◌, ◌++◌, [], ◌∷◌, ◌∙◌, ℕ, List, get_or, take, decimal, string_bytes, sym, ap, subst, arith}
use Rattle.positions.specs.Text.{text_behind, IsPositionText}
use Rattle.positions.proofs.Written.{written, one_more, all_written}
use Rattle.positions.proofs.position.Position.text.Goals as goal

pub loop-heap-preserved : goal.loop-heap-preserved
loop-heap-preserved g c =
    let heap = get_or c.in-Some.others.now c.loop-heap.heap-index 0 in
    let space : string_bytes c.push-in-loop-heap.new.self ≡ string_bytes c.loop-heap.text
    ++ 32 ∷ [] = c.in_ok-push-2.ensures.bytes ∙ ap (λ bs. string_bytes c.loop-heap.text ++ bs)
    (c.in_ok-push-2.ensures.ascii (omega arith)) in
    let bytes : string_bytes c.push_number-in-loop-heap.new.text
    ≡ decimal (get_or c.args.self.now 0 0)
    ++ text_behind (take (c.loop-heap.heap-index + 1) c.in-Some.others.now) =
    c.in_ok-push_number-2.ensures ∙ ap (λ bs. bs ++ decimal heap) space
    ∙ one_more (get_or c.args.self.now 0 0) c.in-Some.others.now c.loop-heap.heap-index
    (string_bytes c.loop-heap.text) c.loop-heap-test.true c.loop-heap.invariant in
    bytes

pub returns-clause-reads : goal.returns-clause-reads
returns-clause-reads g c =
    let whole : c.args.self.now ≡ c.in-Some.first.now ∷ c.in-Some.others.now =
    sym c.heaps.ensures.value ∙ c.in-Some.ensures.cases.0 in
    let same : c.args.self.now ≡ get_or c.args.self.now 0 0 ∷ c.in-Some.others.now =
    whole ∙ ap (λ n. n ∷ c.in-Some.others.now) (sym (ap (λ h. get_or h 0 0) whole)) in
    let bytes =
    all_written (get_or c.args.self.now 0 0) c.in-Some.others.now
    (string_bytes c.loop-heap.text) c.args.self.now c.loop-heap.heap-index
    c.loop-heap-test.false c.loop-heap.invariant same in
    subst (λ (bs : List ℕ). IsPositionText bs c.args.self.now) (sym bytes)
    (written c.args.self.now c.heaps.ensures.sizes)

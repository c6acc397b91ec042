use Rattle.std.proofs.Common.{List, ℕ, Some, sym, ap, ◌∙◌, codes}
use Rattle.std.proofs.lemmas.Result.{err_from_is_err_and}
use Rattle.presented_text.specs.Reading.{while_at, heap_word_at}
use Rattle.presented_text.proofs.Loop.{stops, no_word, goes_on, is_done}
use Rattle.presented_text.proofs.lists.heap_words.Goals as goal

pub returns-then-not-takes : goal.returns-then-not-takes
returns-then-not-takes g c =
    stops (codes " ") heap_word_at c.loop.found.items c.args.room c.loop.counter
    c.loop.reader (while_at (codes " ") heap_word_at c.args.room c.args.reader.now) c.loop.invariant
    c.loop-test.true c.if-not-takes.ensures.taken
    ∙ ap (λ (bytes : List ℕ). Some (c.loop.found.items, bytes)) (sym c.if-not-takes.ensures.stays)

pub returns-in_err-heap_word : goal.returns-in_err-heap_word
returns-in_err-heap_word g c =
    let p = err_from_is_err_and c.from_residual.result c.from_residual.ensures.1 in
    rw (p.1, p.2)
    (no_word (codes " ") heap_word_at c.loop.found.items c.args.room c.loop.counter
    c.loop.reader (while_at (codes " ") heap_word_at c.args.room c.args.reader.now) c.loop.invariant
    c.in_err-heap_word.field-0.0 c.takes.new.self c.loop-test.true c.if-not-takes.ensures.taken
    c.in_err-heap_word.ensures)

pub loop-preserved : goal.loop-preserved
loop-preserved g c =
    rw c.in_ok-push.ensures.items
    (goes_on (codes " ") heap_word_at c.loop.found.items c.args.room c.loop.counter
    c.loop.reader (while_at (codes " ") heap_word_at c.args.room c.args.reader.now) c.loop.invariant
    c.takes.new.self c.in_ok-heap_word.field-0 c.heap_word.new.reader c.loop-test.true c.if-not-takes.ensures.taken
    c.in_ok-heap_word.ensures)

pub returns : goal.returns
returns g c =
    is_done (codes " ") heap_word_at c.loop.found.items c.args.room c.loop.counter
    c.loop.reader (while_at (codes " ") heap_word_at c.args.room c.args.reader.now) c.loop.invariant
    c.loop-test.false

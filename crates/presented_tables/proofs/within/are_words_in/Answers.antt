use Rattle.std.proofs.Common.{◌≡◌, ◌∙◌, length, ap, subst, rules}
use Rattle.presented_text.specs.Said.{PresentedSaid}
use Rattle.presented_tables.proofs.HeapWords.{AllWordsIn, SomeWordOut, words-in}
use Rattle.presented_tables.proofs.within.are_words_in.Goals as goal

pub returns-clause-yes : goal.returns-clause-yes
returns-clause-yes g c = λ h.
    let same : c.len.result ≡ length c.args.p.now.letters = search rules in
    words-in c.args.p.now
    (subst (λ n. AllWordsIn n c.args.p.now.words) same
    (subst (AllWordsIn c.len.result)
    (c.as_slice.ensures.value ∙ ap (λ (q : PresentedSaid). q.words) c.p.view_is)
    (c.are_heap_words_in.ensures.yes h)))

pub returns-clause-no : goal.returns-clause-no
returns-clause-no g c = λ h.
    let same : c.len.result ≡ length c.args.p.now.letters = search rules in
    subst (λ n. SomeWordOut n c.args.p.now.words) same
    (subst (SomeWordOut c.len.result)
    (c.as_slice.ensures.value ∙ ap (λ (q : PresentedSaid). q.words) c.p.view_is)
    (c.are_heap_words_in.ensures.no h))

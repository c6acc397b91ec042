use Rattle.std.proofs.Common.{◌≡◌, false, sym, ◌∙◌, arith}
use Rattle.std.specs.Prelude.{nat_eq}
use Rattle.std.specs.Cmp.Lexicographic.{pointwise}
use Rattle.std.proofs.lemmas.Bool.{false≢true}
use Rattle.std.proofs.lemmas.List.Folds.{list_any_at, list_any_none}
use Rattle.relations.proofs.Each.{each-next}
use Rattle.presented_tables.proofs.Words.{same-true, other-false}
use Rattle.label_players.proofs.portion.is_listed.Goals as goal

pub returns-then-is_word : goal.returns-then-is_word
returns-then-is_word c =
    sym (list_any_at (pointwise nat_eq c.args.word.now) c.args.list.now c.loop-i.i _
    (omega (arith, c.loop-i-test.true))
    (same-true c.args.word.now _ (c.is_word.ensures.0 c.if-is_word.true)))

pub loop-i-preserved : goal.loop-i-preserved
loop-i-preserved c =
    each-next (λ v. pointwise nat_eq c.args.word.now v ≡ false) c.args.list.now c.loop-i.i _
    (omega (arith, c.loop-i-test.true)) c.loop-i.invariant
    (other-false c.args.word.now _
    (λ e. false≢true (sym c.if-is_word.false ∙ c.is_word.ensures.1 e)))

pub returns : goal.returns
returns c =
    sym (list_any_none (pointwise nat_eq c.args.word.now) c.args.list.now
    (λ k d lt. c.loop-i.invariant k d (omega (arith, lt, c.loop-i-test.false))))

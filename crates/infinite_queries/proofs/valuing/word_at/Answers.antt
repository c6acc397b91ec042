use Rattle.std.proofs.lemmas.List.Elements.{recursion_from_All}
use Rattle.std.proofs.lemmas.List.Sorted.{All-permutation}
use Rattle.std.proofs.lemmas.Result.{IfOk-weaker}
use Rattle.presented_tables.specs.Tested.{HasWord}
use Rattle.infinite_queries.proofs.valuing.word_at.Goals as goal

pub presented_form-form-requires : goal.presented_form-form-requires
presented_form-form-requires c =
    let heap = HasWord c.args.quotient.now.said in
    record {
      fits = recursion_from_All heap c.args.position.now
          (All-permutation heap c.args.heaps.now c.args.position.now c.requires.same c.requires.speaks);
    }

pub returns : goal.returns
returns c =
    IfOk-weaker c.form_text.result _ _
    (λ t same. (c.args.position.now, c.presented_form-form.result, c.requires.same, c.presented_form-form.ensures, same))
    c.form_text.ensures

use Rattle.std.proofs.Common.{ℕ, List, sym, subst, ◌∙◌, ap}
use Rattle.std.proofs.lemmas.Result.{IfOk-weaker}
use Rattle.misere_theory.specs.Certificates.{Accepted}
use Rattle.answers.specs.Spelled.{AreSpelled}
use Rattle.answers.proofs.SpellLemmas.{go_down, sizes_spelled}
use Rattle.answers.proofs.certified.Certified.position_of.Goals as goal

pub position_of-requires-clause-down : goal.position_of-requires-clause-down
position_of-requires-clause-down g c =
    go_down c.self.inside.cert c.words.result.now c.words.ensures c.self.invariant.0.in_ranges
    c.self.invariant.0.canonical

pub returns : goal.returns
returns g c =
    let d = c.args.self.now in
    let yes_to = subst Accepted c.self.view_is c.self.invariant.0 in
    let e = sym (c.words.ensures ∙ ap (λ d. d.words) c.self.view_is) in
    let spelled = λ (X : List ℕ) (f : AreSpelled d c.args.element X).
    sizes_spelled d c.args.element X yes_to.in_ranges yes_to.represents.monoid yes_to.canonical
    c.requires f in
    let keys = IfOk-weaker c.position_of.result _ (AreSpelled d c.args.element) (λ X f. f d e)
    c.position_of.ensures.spelled in
    record {
      keys = keys;
      position = IfOk-weaker c.position_of.result _ _ (λ X f. (spelled X f).0) keys;
      value = IfOk-weaker c.position_of.result _ _ (λ X f. (spelled X f).1) keys;
      inline = c.position_of.ensures.inline d e;
    }

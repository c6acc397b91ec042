use Rattle.std.proofs.Common.{IsTrue, IfOk, subst, sym}
use Rattle.relations.specs.Bases.{AreOfForm}
use Rattle.relations.specs.declared.finding.Form.{Form}
use Rattle.relations.proofs.basis.are_of_form.Goals as goal

pub returns-in-Short : goal.returns-in-Short
returns-in-Short g c =
    subst
    (λ (f : Form). IfOk c.is_short.result
    (λ are. IsTrue are → AreOfForm f c.args.letters c.args.words.now c.args.relations.now))
    (sym c.in-Short.is) c.is_short.ensures

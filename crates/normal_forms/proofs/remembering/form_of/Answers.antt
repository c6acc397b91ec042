use Rattle.presentations.specs.declared.TheConstants.{LETTERS}
use Rattle.normal_forms.proofs.Steps.{reduces-related}
use Rattle.normal_forms.proofs.remembering.form_of.Goals as goal

pub returns : goal.returns
returns g c = record {
  standard = c.reduced.ensures.standard;
  related =
      reduces-related LETTERS c.args.rules.now c.args.word.now c.reduced.result
      c.reduced.ensures.standard.long c.reduced.ensures.reduces;
}

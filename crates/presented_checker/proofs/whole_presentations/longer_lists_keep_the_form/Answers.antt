use Rattle.presented_checker.proofs.Forms.{in-ranges, enough, in-form}
use Rattle.presented_checker.proofs.whole_presentations.longer_lists_keep_the_form.Goals as goal

pub returns : goal.returns
returns g = record {
  ranges = λ c B ranges. in-ranges c B ranges;
  enough = enough;
  form = λ c B ranges. in-form c B ranges;
}

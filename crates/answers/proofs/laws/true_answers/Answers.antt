use Rattle.answers.proofs.AnswerLemmas.{true_answer}
use Rattle.answers.proofs.laws.true_answers.Goals as goal

pub returns : goal.returns
returns c = true_answer c.spellings_are_unique.ensures.value c.one_text_for_a_code.ensures.one

use Rattle.certificate_text.proofs.Whole.{certificate_takes, spelled_takes, spelled_again}
use Rattle.certificate_text.proofs.reading_is_spelling.Goals as goal

pub returns : goal.returns
returns g = record {
  writable = λ b c rest e. (certificate_takes b c rest e).0;
  takes = spelled_takes;
  again = spelled_again;
}

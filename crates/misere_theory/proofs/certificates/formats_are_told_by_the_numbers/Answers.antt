use Rattle.misere_theory.proofs.Formats.{first_format, second_format, third_format}
use Rattle.misere_theory.proofs.certificates.formats_are_told_by_the_numbers.Goals as goal

pub returns : goal.returns
returns g = record {
  first = first_format;
  second = second_format;
  third = third_format;
}

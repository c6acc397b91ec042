use Rattle.misere_theory.proofs.Codes.{three_is_seen, octal_leaves_no_three, octal_exactly, two_at_most}
use Rattle.misere_theory.proofs.games.octal_codes_leave_two_heaps.Goals as goal

pub returns : goal.returns
returns g = record {
  seen = three_is_seen;
  octal = octal_leaves_no_three;
  digits = octal_exactly;
  two = two_at_most;
}

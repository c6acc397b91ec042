use Rattle.check_machine.proofs.FallLemmas.{reads_ranged}
use Rattle.check_machine.proofs.TrueEnds.{HeapsAreKnown}
use Rattle.check_machine.proofs.TrueLemmas.{TextsAreKnown, verdict_right}
use Rattle.check_machine.proofs.turns.verdicts_are_true.Goals as goal

pub returns : goal.returns
returns c = λ bytes limit.
    let texts : TextsAreKnown = record {
      ranges = reads_ranged c.reading_is_spelling.ensures.writable;
      takes = c.reading_is_spelling.ensures.takes;
      again = c.reading_is_spelling.ensures.again;
      tables = record {
        spent = c.tables_cost.ensures.spent;
        refused = c.tables_cost.ensures.refused;
        table = c.tables_cost.ensures.table;
        no_table = c.tables_cost.ensures.no_table;
      };
      next = c.turns_are_paid.ensures.next;
    } in
    let known : HeapsAreKnown = record {
      agrees = c.claims_agree.ensures.agrees;
      shaped = c.claims_agree.ensures.shaped;
      pretending = c.claims_agree.ensures.pretending;
      into = c.claims_agree.ensures.into;
      exact = c.heap_pairs_are_one_list.ensures.exact;
      shows = c.closures_show_pairs.ensures.shows;
      keeps = c.closures_go_on.ensures.kept;
      same = c.closures_go_on.ensures.«data»;
      accepted = c.tested_certificates_are_accepted.ensures;
    } in
    let right = verdict_right texts known bytes limit (c.checks_end.ensures.ends bytes limit) in
    let is = c.true_answers.ensures bytes limit _ right.0 in (
      is,
      right.1,
      λ d e yes spelled. c.spellings_are_unique.ensures.value bytes d e (is.yes d yes).0
          spelled,
    )

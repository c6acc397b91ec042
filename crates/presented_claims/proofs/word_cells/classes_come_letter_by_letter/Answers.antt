use Rattle.std.proofs.Common.{◌≡◌, true}
use Rattle.presented_claims.proofs.Listed.{all-had}
use Rattle.presented_claims.proofs.word_cells.classes_come_letter_by_letter.Goals as goal

pub returns : goal.returns
returns g n letters relations folds has periods empty more w e =
    all-had folds periods n letters relations (λ v. has v ≡ true) empty more w e.standard.long e

use Rattle.presented_claims.proofs.Told.{told}
use Rattle.presented_claims.proofs.told_cells.separated_cells_are_told.Goals as goal

pub returns : goal.returns
returns g n letters relations are F word portion tops folds few above periods weights separated =
    told n letters relations are F word portion tops folds few above periods weights separated

use Rattle.presented_claims.proofs.Carried.{carried}
use Rattle.presented_claims.proofs.told_cells.led_cells_have_one_fold.Goals as goal

pub returns : goal.returns
returns g n letters relations are F tops folds few above periods weights a z a_in z_long led x x_in is =
    carried n relations are F tops folds few above weights a z a_in.standard z_long led periods x x_in.standard.long is

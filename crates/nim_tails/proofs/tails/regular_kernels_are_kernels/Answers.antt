use Rattle.nim_tails.proofs.Ideals.{multiple_of_kernel, kernel_of_multiple}
use Rattle.nim_tails.proofs.tails.regular_kernels_are_kernels.Goals as goal

pub returns : goal.returns
returns g c e x m k = (
  λ i. (i.0, multiple_of_kernel c m e k x i),
  λ (l, i). kernel_of_multiple c m e k x l i,
)

-- Values of positions, a heap at a time.
use Rattle.std.proofs.Common.{ℕ, ◌+◌, ◌*◌, ◌<◌, arith}

pub place_below : (q x y : ℕ) → x < q → y < q → x * q + y < q * q
place_below q x y hx hy = grind arith

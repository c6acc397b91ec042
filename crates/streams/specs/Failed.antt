-- How often a device has failed. This project's own.
use Rattle.std.specs.Prelude.{ℕ}

-- a count without a greatest value
pub record Failed : Type 0 where
  pub count : ℕ

-- Places in rows, which stages go through one after another.
use Rattle.std.specs.Prelude.{ℕ, ◌-◌, ◌*◌}

-- of so many rows of places, the places from this place of this row on
unfoldable pub rest : ℕ → ℕ → ℕ → ℕ → ℕ
rest rows row places place = (rows - row) * places - place

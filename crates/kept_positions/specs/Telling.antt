-- When labels are told apart: a context tells two of them apart, or takes them to two others that are nearer to
-- being told. This project's own.
use Rattle.std.specs.Prelude.{◌≡◌, ◌≢◌, ℕ, ◌<◌, ◌⊎◌}
use Rattle.misere_theory.specs.Labels.{LabelClaim}

-- Beside z just one of the two is in the portion; or beside z they are two other labels, of a smaller height.
abbrev pub TellsOrLowers : {L : Type 0} → LabelClaim L → (L → L → ℕ) → L → L → L → Type 0
TellsOrLowers c height x y z =
    (c.portion (c.times x z) ≢ c.portion (c.times y z))
    ⊎ ((c.times x z ≢ c.times y z) × (height (c.times x z) (c.times y z) < height x y))

-- Two labels are equal, or there is such a z.
abbrev pub AreToldOrLowered : {L : Type 0} → (L → Type 0) → LabelClaim L → (L → L → ℕ) → Type 0
AreToldOrLowered {L} IsLabel c height =
    (x y : L) → IsLabel x → IsLabel y
    → (x ≡ y) ⊎ ((z : L) × IsLabel z × TellsOrLowers c height x y z)

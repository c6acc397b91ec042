-- How many turns a check takes at most from where it stands. This project's own.
use Rattle.std.specs.Prelude.{ℕ, ◌+◌, ◌-◌, ◌*◌, List}
use Rattle.misere_theory.specs.Certificates.{Certificate}
use Rattle.check_machine.specs.Bounds.{bound_of, heaps_most}
use Rattle.check_machine.specs.Views.{laws_units, keys_units, products_units, periods_units, separating_units, heaps_units, elements_units}
use Rattle.check_machine.specs.Turns.{Phase, bound}
use Rattle.check_machine.specs.Turns.Phase.{Reading, Laws, Keys, Products, Periods, Separating, Heaps, Elements, Closing, Ended}

-- the turns of the stages behind one, at most
module _ (limit : ℕ) (c : Certificate) where
  abbrev pub closing_most : ℕ
  closing_most = bound_of c * limit + 2

  abbrev pub behind_heaps : ℕ
  behind_heaps = bound_of c * c.order + closing_most

  abbrev pub behind_separating : ℕ
  behind_separating = heaps_most c + behind_heaps

  abbrev pub behind_periods : ℕ
  behind_periods = c.order * c.order * c.order + behind_separating

  abbrev pub behind_products : ℕ
  behind_products = c.period * c.period + (1 - c.period) + behind_periods

  abbrev pub behind_keys : ℕ
  behind_keys = c.order * (c.start + c.period) + behind_products

  abbrev pub behind_laws : ℕ
  behind_laws = c.order + behind_keys

module _ (bytes : List ℕ) (limit : ℕ) where
  abbrev pub measure : Phase → ℕ
  measure Reading = bound bytes limit
  measure (Laws l) = laws_units l + behind_laws limit l.certificate
  measure (Keys k) = keys_units k + behind_keys limit k.certificate
  measure (Products p) = products_units p + behind_products limit p.certificate
  measure (Periods p) = periods_units p + behind_periods limit p.certificate
  measure (Separating s) = separating_units s + behind_separating limit s.certificate
  measure (Heaps h) = heaps_units h + behind_heaps limit h.certificate
  measure (Elements e) = elements_units e + closing_most limit e.certificate
  measure (Closing s) = closing_most limit s.certificate - s.closure.spent
  measure (Ended a) = 0

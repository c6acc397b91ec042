-- Tables that are certified, and why others aren't. This project's own.
use Rattle.std.specs.Prelude.{◌≡◌, ◌⊎◌, ℕ, ◌<◌, ◌==◌, true, List}
use Rattle.std.specs.List.{list_any}
use Rattle.misere_theory.specs.Certificates.{Certificate, Accepted}
use Rattle.certificate_text.specs.Spelling.{Spells}
use Rattle.answers.specs.ByteVerdicts.{ByteVerdict, Fits, refused}
use Rattle.answers.specs.ByteVerdicts.ByteVerdict.{No, Outcome, Limit}
use Rattle.misere_theory.specs.Verdicts.Fault.{Period}
use Rattle.monoid_table.specs.Grids.{entry}
use Rattle.monoid_table.specs.Light.{AssociatesAt}
use Rattle.own_quotients.specs.Tables.{Own, IsIdentity, AreNotCommuting, IsReached, AreNotAssociating, AreAlike}
use Rattle.own_quotients.specs.Carried.{IsCarried}
use Rattle.own_quotients.specs.declared.fault.CertifyFault.{CertifyFault}
use Rattle.own_quotients.specs.declared.fault.CertifyFault.TheVariants.{NoIdentity, NotCommuting, Unreached, NotAssociating, Alike, Refused, NoDraft, Memory}

-- The bytes are the text of a certificate, which with these numbers is the table.
abbrev pub IsNumberingOf : Own → ℕ → List ℕ → List ℕ → List ℕ → Type 0
IsNumberingOf o identity text numbers elements =
    (c : Certificate) × Spells text c × IsCarried o identity c numbers elements

-- The text is that of an accepted certificate, and with these numbers the table is this certificate.
pub record HasCertified (o : Own) (text : List ℕ) (c : Certificate) (identity : ℕ)
    (numbers elements : List ℕ) : Type 0 where
  pub spelled : Spells text c
  pub accepted : Accepted c
  pub carried : IsCarried o identity c numbers elements

-- The answer is true of a certificate, which is the table in other numbers.
pub record IsRefusedAs (o : Own) (limit : ℕ) (answer : ByteVerdict) : Type 0 where
  pub certificate : Certificate
  pub identity : ℕ
  pub numbers : List ℕ
  pub elements : List ℕ
  pub carried : IsCarried o identity certificate numbers elements
  pub fits : Fits certificate limit answer

-- What is looked for before a draft is made, and was not found: the products commute, and with an element
-- of a heap in the middle they don't depend on how they are grouped. (An identity and generators: the laws
-- of a commutative monoid follow, by Light's test, if each element is reached.)
pub record PassesLaws (o : Own) : Type 0 where
  pub commutes : (x y : ℕ) → x < o.order → y < o.order
      → entry o.order o.rows x y ≡ entry o.order o.rows y x
  pub associates : (y : ℕ) → y < o.order → list_any (λ z. z == y) o.heaps ≡ true
      → AssociatesAt o.order (entry o.order o.rows) y

-- Of the answers of a check those that speak of the table, and not of how a draft numbers it.
abbrev pub IsOfTable : ByteVerdict → Type 0
IsOfTable answer =
    (answer ≡ No Period)
    ⊎ (((code : List ℕ) × (X : List ℕ) × (answer ≡ Outcome code X)) ⊎ (answer ≡ Limit))

-- The fault is in the table. Of a table without a draft the products are a monoid's as far as that is looked
-- at, and of want of memory nothing is said.
abbrev pub IsFaultOf : Own → ℕ → CertifyFault → Type 0
IsFaultOf o limit NoIdentity = (e : ℕ) → e < o.order → IsIdentity o e → ⊥
IsFaultOf o limit (NotCommuting x y) = AreNotCommuting o x y
IsFaultOf o limit (Unreached x) =
    (x < o.order) × (e : ℕ) × (e < o.order) × IsIdentity o e × (IsReached o e x → ⊥)
IsFaultOf o limit (NotAssociating x y z) = AreNotAssociating o x y z
IsFaultOf o limit (Alike x y) = AreAlike o x y
IsFaultOf o limit (Refused r) = IsOfTable (refused r) × IsRefusedAs o limit (refused r)
IsFaultOf o limit NoDraft = PassesLaws o
IsFaultOf o limit Memory = Unit {0}

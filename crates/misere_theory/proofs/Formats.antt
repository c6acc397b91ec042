-- In which format a certificate is spelled.
-- By cases of the tests: the order and the entries, then the code, the order and the period.
use Rattle.std.proofs.Common.{◌≡◌, ◌+◌, ◌<◌, ◌≤◌, ◌⊎◌, ◌↔◌, true, false, arith}
use Rattle.misere_theory.specs.declared.TheConstants.{LARGEST_FIRST_ORDER, LARGEST_SECOND_ORDER, MOST_SECOND_ENTRIES}
use Rattle.misere_theory.specs.Certificates.{Certificate, is_octal, format_of}
use Rattle.std.proofs.lemmas.Bool.Decides.{nat_tests}

pub first_format : (c : Certificate)
    → (format_of c ≡ 1)
    ↔ ((is_octal c.code ≡ true) × (c.order ≤ LARGEST_FIRST_ORDER)
    × (c.start + c.period ≤ MOST_SECOND_ENTRIES + 1) × (1 ≤ c.period))
first_format c = (
  λ e. (
    grind (arith, nat_tests),
    grind (arith, nat_tests),
    grind (arith, nat_tests),
    grind (arith, nat_tests),
  ),
  λ h. grind (arith, nat_tests),
)

pub second_format : (c : Certificate)
    → (format_of c ≡ 2)
    ↔ ((c.order ≤ LARGEST_SECOND_ORDER) × (c.start + c.period ≤ MOST_SECOND_ENTRIES + 1)
    × ((is_octal c.code ≡ false) ⊎ ((LARGEST_FIRST_ORDER < c.order) ⊎ (c.period ≡ 0))))
second_format c = (
  λ e. (grind (arith, nat_tests), grind (arith, nat_tests), grind (arith, nat_tests)),
  λ h. grind (arith, nat_tests),
)

pub third_format : (c : Certificate)
    → (format_of c ≡ 3)
    ↔ ((LARGEST_SECOND_ORDER < c.order) ⊎ (MOST_SECOND_ENTRIES + 1 < c.start + c.period))
third_format c = (λ e. grind (arith, nat_tests), λ h. grind (arith, nat_tests))

use Rattle.std.proofs.Common.{length, ◌-◌}
use Rattle.misere_theory.specs.Quotients.{GivesElements}
use Rattle.misere_theory.specs.Certificates.{claim_of, kind_of, IsHeapOf}
use Rattle.misere_theory.proofs.Counting.{kept_in}
use Rattle.misere_theory.proofs.Kept.{rule_everywhere}
use Rattle.misere_theory.proofs.Rules.{predicts_from_rule, represents}
use Rattle.misere_theory.proofs.Written.{phi_in, periodic, all_apart}
use Rattle.misere_theory.proofs.Spelled.{reached}
use Rattle.misere_theory.proofs.certificates.tested_certificates_are_accepted.Goals as goal

pub returns : goal.returns
returns g c kept ranges monoid canonical closed members elements =
    let claim = claim_of c in
    let inside : GivesElements (IsHeapOf c) claim = λ n _. phi_in c ranges n in
    let rule = rule_everywhere (kind_of c) c.code claim monoid inside (length c.code - 1) c.start
    c.period (periodic c ranges) kept closed members elements in
    record {
      in_ranges = ranges;
      canonical = canonical;
      represents =
          represents (IsHeapOf c) c.code claim monoid inside
          (predicts_from_rule (IsHeapOf c) c.code claim (kept_in (kind_of c) c.code) rule)
          (reached c ranges monoid canonical) (all_apart c canonical.apart);
    }

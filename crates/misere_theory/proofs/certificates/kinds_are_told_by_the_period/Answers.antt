use Rattle.std.proofs.Common.{◌-◌, ◌∙◌, ◌<◌, ◌≤◌, length, arith}
use Rattle.misere_theory.specs.declared.TheConstants.{LARGEST_PART}
use Rattle.misere_theory.specs.Certificates.{kind_of}
use Rattle.misere_theory.proofs.Counting.{kind_full, kind_partial, bound_whole, bound_part, bound_counts}
use Rattle.misere_theory.proofs.Written.{written_counts}
use Rattle.misere_theory.proofs.certificates.kinds_are_told_by_the_period.Goals as goal

pub returns : goal.returns
returns g = record {
  full = λ c full. let e = kind_full c.start c.period full in
      (e, bound_whole (kind_of c) c.code (length c.code - 1) c.start c.period e);
  partial = λ c r part. let e = kind_partial c.start c.period part in
      let s = r.period.0 in
      let some : 0 < kind_of c = omega arith in
      let small : kind_of c ≤ LARGEST_PART = let part = r.part part in omega arith in
      (e, some, small, bound_part (kind_of c) c.code (length c.code - 1) c.start c.period some ∙ e);
  written = λ c r. written_counts c r;
  bounded = λ c h b. bound_counts (kind_of c) c.code (length c.code - 1) c.start c.period h b;
}

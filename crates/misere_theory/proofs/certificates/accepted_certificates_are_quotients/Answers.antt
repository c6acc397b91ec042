use Rattle.std.proofs.Common.{◌-◌, arith}
use Rattle.misere_theory.specs.Games.{IsHeap, IsHeapUpTo}
use Rattle.misere_theory.specs.Certificates.{claim_of, IsHeapOf}
use Rattle.misere_theory.proofs.Counting.{represents_where, kind_full}
use Rattle.misere_theory.proofs.Written.{written_counts, counts_written}
use Rattle.misere_theory.proofs.certificates.accepted_certificates_are_quotients.Goals as goal

pub returns-clause-full : goal.returns-clause-full
returns-clause-full g c a full =
    let e = kind_full c.start c.period full in
    represents_where (IsHeapOf c) IsHeap (λ n h. h.0) (λ n h. (h, λ l. absurd (omega arith))) c.code
    (claim_of c) a.represents

pub returns-clause-partial : goal.returns-clause-partial
returns-clause-partial g c a part =
    let s = a.in_ranges.start in
    represents_where (IsHeapOf c) (IsHeapUpTo (c.start - 1))
    (λ n h. (h.0, let l = counts_written c a.in_ranges part n h in omega arith))
    (λ n h. let b = h.1 in written_counts c a.in_ranges n h.0 (omega arith)) c.code (claim_of c)
    a.represents

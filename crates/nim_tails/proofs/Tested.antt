-- What the tests of a certificate say together.
use Rattle.std.proofs.Common.{◌≡◌, ◌≢◌, ◌↔◌, ℕ, ◌≤◌, ◌<◌, bit_xor, List, sym, inl, inr, arith, subst}
use Rattle.std.specs.Prelude.{slice_index, Result}
use Rattle.std.specs.Result.{IsErrAnd, MatchResult}
use Rattle.std.proofs.lemmas.Result.{err_from_is_err_and}
use Rattle.nim_tails.specs.declared.fault.TailFault.{TailFault}
use native.Mathlib.Decide.{ℕ_discrete}
use Rattle.misere_theory.specs.Certificates.{Certificate, Accepted, claim_of, kind_of, phi_at, times_of}
use Rattle.misere_theory.specs.Kinds.{IsHeapIn}
use Rattle.misere_theory.proofs.Basics.{decided, either_way, never_no}
use Rattle.misere_theory.proofs.Outcomes.{some_or_all_below}
use Rattle.nim_tails.specs.Normal.{AreNimValues}
use Rattle.nim_tails.specs.NormalTails.{IsInLeastIdeal, IsRegularKernel, HasTwoOutcomes, IsLongEnough}
use Rattle.nim_tails.proofs.Failed.{by_heap, by_zero}
use Rattle.nim_tails.proofs.Ideals.{multiple_of_kernel, kernel_of_multiple}
use Rattle.nim_tails.proofs.Beyond.{same}
use Rattle.nim_tails.specs.Values.{IsNimFault}
use Rattle.nim_tails.specs.declared.values_fault.NimFault.{NimFault}
use Rattle.nim_tails.specs.declared.values_fault.NimFault.TheVariants.{Large, Memory}
use Rattle.nim_tails.specs.Tails.{Counts, IsInside, IsLastOutside, IsTail, IsTailFault, AreElementSums, AgreesWith, IsOnlyZero, IsNormal, tail_fault_from}
use Rattle.nim_tails.specs.Tails.Counts.{NoNumber, OneMore, NoMore}
use Rattle.nim_tails.specs.declared.whole.Tail.{Tail}

-- properties that agree below a number are counted alike
counted_alike : (P Q : ℕ → Type 0) (n k : ℕ) → ((x : ℕ) → x < n → P x ↔ Q x) → Counts P n k
    → Counts Q n k
counted_alike P Q _ _ same NoNumber = NoNumber
counted_alike P Q _ _ same (OneMore {n = n} {k = k} p r) =
    OneMore ((same n (omega arith)).0 p)
    (counted_alike P Q n k (λ x l. same x (omega arith)) r)
counted_alike P Q _ _ same (NoMore {n = n} {k = k} f r) =
    NoMore (λ q. f ((same n (omega arith)).1 q))
    (counted_alike P Q n k (λ x l. same x (omega arith)) r)

-- a nim value that is too large is a fault
large_fault : (c : Certificate) → 1 ≤ kind_of c → (f : NimFault)
    → IsNimFault c.code (kind_of c) f → IsTailFault c (tail_fault_from f)
large_fault c s (Large n) (p, q, all) = ((p, λ h. q), all)
large_fault c s Memory h = tt

pub raised : {T : Type 0} (P : T → Type 0) (c : Certificate) (f : NimFault) (r : Result T TailFault)
    → 1 ≤ kind_of c → IsErrAnd r (λ g. g ≡ tail_fault_from f) → IsNimFault c.code (kind_of c) f
    → MatchResult r P (IsTailFault c)
raised P c f r s e h =
    let p = err_from_is_err_and r e in
    subst (λ x. MatchResult x P (IsTailFault c)) (sym p.1)
    (subst (IsTailFault c) (sym p.2) (large_fault c s f h))

module _ (c : Certificate) (a : Accepted c) (e : ℕ) (k : IsRegularKernel (claim_of c) e) where
  in_kernel : (n : ℕ) → IsHeapIn (kind_of c) n
      → IsInside c n ↔ (times_of c e (phi_at c n) ≡ phi_at c n)
  in_kernel n h = (
    multiple_of_kernel (claim_of c) a.represents.monoid e k (phi_at c n),
    kernel_of_multiple (claim_of c) a.represents.monoid e k (phi_at c n)
        (a.represents.elements n h),
  )

  pub last_is : (N : ℕ) → N ≤ kind_of c
      → (1 ≤ N → times_of c e (phi_at c N) ≢ phi_at c N)
      → ((n : ℕ) → N < n → n ≤ kind_of c → times_of c e (phi_at c n) ≡ phi_at c n)
      → IsLastOutside c N
  last_is N within outside inside = (
    within,
    λ p i. outside p ((in_kernel N (p, λ z. within)).0 i),
    λ n l h. (in_kernel n (omega arith, λ z. h)).1 (inside n l h),
  )

  pub tail_is : (t : Tail) → IsLastOutside c t.above
      → ((n : ℕ) → t.above < n → n ≤ kind_of c → times_of c e (phi_at c n) ≡ phi_at c n)
      → IsLongEnough (kind_of c) c.code t.above → IsNormal c e
      → Counts (λ x. times_of c e x ≢ x) c.order t.outside → IsTail c t
  tail_is t last inside long (G, nim, normal) counts = record {
    normal =
        same (kind_of c) t.above c.code (claim_of c) e G nim a.in_ranges.code a.represents normal
        inside long;
    last = last;
    outside =
        counted_alike (λ x. times_of c e x ≢ x) (λ x. IsInLeastIdeal (claim_of c) x → ⊥) c.order
        t.outside
        (λ x l. (
          λ f i. f (multiple_of_kernel (claim_of c) a.represents.monoid e k x i),
          λ g i. g (kernel_of_multiple (claim_of c) a.represents.monoid e k x l i),
        )) counts;
  }

  module _ (values sums : List ℕ)
      (good : AreNimValues (kind_of c) c.code (slice_index values))
      (are : AreElementSums c values sums) where
    pub nim_fault : (n : ℕ)
        → (1 ≤ n) × (n ≤ kind_of c) × (AgreesWith c values sums n → ⊥)
        → IsHeapIn (kind_of c) n × HasTwoOutcomes (kind_of c) c.code (claim_of c)
    nim_fault n (p, q, other) =
        let sum = slice_index sums in
        let left = λ (x : ℕ). sum (times_of c (phi_at c n) x) in
        let right = λ (x : ℕ). bit_xor (slice_index values n) (sum x) in
        let h : IsHeapIn (kind_of c) n = (p, λ z. q) in (
          h,
          elim (some_or_all_below (λ x. left x ≢ right x) (λ x. left x ≡ right x)
              (λ x. either_way (decided (ℕ_discrete (left x) (right x)))) c.order) [
                | inl (x, l, f) ↦ by_heap (kind_of c) c.code (claim_of c) e (slice_index values)
                    a.represents k good sum are.2 n x h l f
                | inr all ↦ absurd (other all)
              ],
        )

    pub zero_fault : (x : ℕ) → (x < c.order) × (IsOnlyZero c sums e x → ⊥)
        → IsInLeastIdeal (claim_of c) x × HasTwoOutcomes (kind_of c) c.code (claim_of c)
    zero_fault x (l, other) =
        let i : times_of c e x ≡ x =
        never_no (ℕ_discrete (times_of c e x) x) (λ f. other (λ i z. absurd (f i))) in
        let z : slice_index sums x ≡ 0 =
        never_no (ℕ_discrete (slice_index sums x) 0) (λ f. other (λ i z. absurd (f z))) in (
          kernel_of_multiple (claim_of c) a.represents.monoid e k x l i,
          by_zero (kind_of c) c.code (claim_of c) e (slice_index values) a.represents k good
              (slice_index sums) are.2 x l i z (λ same. other (λ i z. same)),
        )

    pub normal_by : 1 ≤ kind_of c
        → ((n : ℕ) → 1 ≤ n → n ≤ kind_of c → AgreesWith c values sums n)
        → ((x : ℕ) → x < c.order → IsOnlyZero c sums e x) → IsNormal c e
    normal_by s agree zero = (
      slice_index values,
      slice_index sums,
      record {
        regular = k;
        values = good;
        empty = are.1;
        heaps = λ n x h l. agree n h.0 (h.1 s) x l;
        one = zero;
      },
    )

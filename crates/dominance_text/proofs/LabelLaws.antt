-- Triples repeat with the period, up to the rise.
use Rattle.std.proofs.Common.{◌≡◌, ℕ, zero, suc, ◌+◌, ◌-◌, ◌*◌, ◌/◌, ◌%◌, ◌<◌, ◌≤◌, ◌==◌, nat_lt, if◌then◌else◌, Bool, true, false, ◌⊎◌, inl, inr, refl, arith}
use Rattle.std.proofs.Math.Nat.{div-eq_of_lt, mod-eq_of_lt, add-div_left, add-mod_left, mul-suc}
use Rattle.std.proofs.lemmas.Bool.{ltb-false, le-ltb}
use Rattle.std.proofs.lemmas.Bool.Decides.{nat_tests}
use Rattle.dominance.specs.Triples.{Triple}
use Rattle.dominance.specs.Finite.{IsRaised}
use Rattle.dominance_text.specs.Said.{DominanceSaid, IsInRanges}
use Rattle.dominance_text.specs.Labels.{listed_triple, raised, label_of}

-- ---- nothing more

same_lead : (l : ℕ) → (if l == 0 then 0 else l + 0) ≡ l
same_lead l = grind (arith, nat_tests)

not_raised : (odd : Bool) (w l : ℕ)
    → raised 0 (record { odd = odd; weight = w; lead = l }) ≡ record { odd = odd; weight = w; lead = l }
not_raised odd w l =
    let weight : w + 0 ≡ w = omega arith in
    rw (weight, same_lead l) refl

pub listed : (c : DominanceSaid) (n : ℕ) → n < c.start + c.period → label_of c n ≡ listed_triple c n
listed c n lt = by (nat_lt n c.start) refl
  where
    by : (b : Bool) → nat_lt n c.start ≡ b
        → (if b then listed_triple c n
        else raised (c.rise * ((n - c.start) / c.period))
        (listed_triple c (c.start + (n - c.start) % c.period)))
        ≡ listed_triple c n
    by true e = refl
    by false e =
        let from : c.start ≤ n = ltb-false n c.start e in
        let inside : n - c.start < c.period = omega arith in
        let again : c.start + (n - c.start) ≡ n = omega arith in
        let none : c.rise * 0 ≡ 0 = omega arith in
        rw (div-eq_of_lt inside, mod-eq_of_lt inside, again, none) (not_raised _ _ _)

-- ---- a period more

abbrev AreLeadsRaised : ℕ → ℕ → ℕ → Type 0
AreLeadsRaised rise a b = ((a ≡ 0) × (b ≡ 0)) ⊎ ((0 < a) × (b ≡ a + rise))

leads_raised : (rise more l : ℕ)
    → AreLeadsRaised rise (if l == 0 then 0 else l + more) (if l == 0 then 0 else l + (more + rise))
leads_raised rise more zero = inl (refl, refl)
leads_raised rise more (suc l) = inr (grind (arith, nat_tests), grind (arith, nat_tests))

raised_again : (rise more : ℕ) (u : Triple) → IsRaised rise (raised more u) (raised (more + rise) u)
raised_again rise more u = (refl, omega arith, leads_raised rise more u.lead)

pub repeats : (c : DominanceSaid) (n : ℕ) → IsInRanges c → c.start ≤ n
    → IsRaised c.rise (label_of c n) (label_of c (c.period + n))
repeats c n h from =
    let past : c.period + n - c.start ≡ c.period + (n - c.start) = omega arith in
    let later : c.start ≤ c.period + n = omega arith in
    let q : (c.period + (n - c.start)) / c.period ≡ suc ((n - c.start) / c.period) =
    let e = add-div_left (n - c.start) h.period in omega arith in
    rw (
      le-ltb n c.start from,
      le-ltb (c.period + n) c.start later,
      past,
      q,
      add-mod_left c.period (n - c.start),
      mul-suc c.rise ((n - c.start) / c.period),
    )
    (raised_again c.rise (c.rise * ((n - c.start) / c.period))
    (listed_triple c (c.start + (n - c.start) % c.period)))

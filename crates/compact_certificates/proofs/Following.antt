-- Of an accepted certificate all that a compact text leaves out follows.
use Rattle.std.proofs.Common.{◌≡◌, ℕ, suc, ◌+◌, ◌-◌, ◌<◌, ◌≤◌, ◌∙◌, sym, ap, arith, inl, inr, eq-zero-or-pos, All}
use Rattle.std.proofs.lemmas.Grind.{get_or_default_zero}
use native.Mathlib.Decide.{ℕ_discrete}
use Rattle.misere_theory.specs.Certificates.{Certificate, phi_at, times_of, key_of, IsHeapOf, Accepted}
use Rattle.misere_theory.proofs.Written.{phi_in, entry_at, key_counts}
use Rattle.compact_certificates.specs.Rows.{firsts_of}
use Rattle.compact_certificates.specs.Compact.{Follows}
use Rattle.compact_certificates.proofs.Firsts.{firsts_from, firsts_key, firsts_within}
use Rattle.compact_certificates.proofs.Phi.{phi_first}
use Rattle.compact_certificates.proofs.Least.{separators_are}

module _ (c : Certificate) (a : Accepted c) where
  -- the key of a heap's element comes not behind 0 and the heap
  key_is_first : (h : ℕ) → 1 ≤ h → h < c.start + c.period → 0 < phi_at c h
      → (key_of c (phi_at c h)).0 ≡ 0
  key_is_first h one low some =
      let e : times_of c 0 (phi_at c h) ≡ phi_at c h =
      a.represents.monoid.identity (phi_at c h) (phi_in c a.in_ranges h) in
      elim (eq-zero-or-pos (key_of c (phi_at c h)).0) [
        | inl z ↦ z
        | inr pos ↦ absurd
            (a.canonical.numbered.least 0 h a.represents.monoid.some one (omega arith) (rw e some)
            (inl (rw e pos)))
      ]

  -- keys rise, so the keys before it have the element 0 too
  keys_are_first : (e d : ℕ) → 0 < d → d ≤ e → e < c.order → (key_of c e).0 ≡ 0
      → (key_of c d).0 ≡ 0
  keys_are_first e d some l high z = elim (ℕ_discrete d e) [
    | yes same ↦ rw same z
    | no f ↦ elim (a.canonical.numbered.rising d e some (omega arith) high) [
      | inl below ↦ absurd (omega arith)
      | inr here ↦ here.0 ∙ z
    ]
  ]

  entry_first : (h : ℕ) → 1 ≤ h → h < c.start + c.period → phi_at c h ≤ firsts_of c.words
  entry_first h one low = elim (eq-zero-or-pos (phi_at c h)) [
    | inl z ↦ omega arith
    | inr some ↦
        let high : phi_at c h < c.order = phi_in c a.in_ranges h in
        let n = a.in_ranges.words.0 in
        firsts_from c.words (phi_at c h) (omega arith) (λ i l.
        let place : suc i - 1 ≡ i = omega arith in
        rw place at (keys_are_first (phi_at c h) (suc i) (omega arith) l high
        (key_is_first h one low some)))
  ]

  heaps_first : All (λ x. x ≤ firsts_of c.words) c.phi
  heaps_first k d l =
      let n = a.in_ranges.phi.0 in
      let e = entry_first (suc k) (omega arith) (omega arith) in
      let is = entry_at c a.in_ranges k l ∙ sym (get_or_default_zero c.phi k d l) in
      omega arith

  pub accepted_follows : Follows c
  accepted_follows = record {
    expandable = record {
      heaps = heaps_first;
      falls = λ e low high. a.canonical.numbered.parent e (omega arith) high;
    };
    identity = a.represents.monoid.identity;
    product =
        λ e y low high l.
        let some : 0 < e = omega arith in
        let f = a.canonical.numbered.parent e some high in
        sym (ap (λ v. times_of c v y) (a.canonical.numbered.product e some high))
        ∙ a.represents.monoid.associates (key_of c e).0 (phi_at c (key_of c e).1) y (omega arith)
        (phi_in c a.in_ranges (key_of c e).1) l;
    apart = separators_are c a.canonical.apart;
  }

  pub every_heap_first : (h : ℕ) → phi_at c h ≤ firsts_of c.words
  every_heap_first h = phi_first c heaps_first h

  -- a first element is that of its key's heap
  pub first_of_heap : (e : ℕ) → 0 < e → e ≤ firsts_of c.words
      → (h : ℕ) × IsHeapOf c h × (phi_at c h ≡ e)
  first_of_heap e some l =
      let n = firsts_within c.words in
      let count = a.in_ranges.words.0 in
      let high : e < c.order = omega arith in
      let z : (key_of c e).0 ≡ 0 = firsts_key c.words (e - 1) (omega arith) in (
        (key_of c e).1,
        key_counts c a.in_ranges e a.canonical.numbered some high,
        sym (a.represents.monoid.identity (phi_at c (key_of c e).1)
            (phi_in c a.in_ranges (key_of c e).1))
            ∙ ap (λ f. times_of c f (phi_at c (key_of c e).1)) (sym z)
            ∙ a.canonical.numbered.product e some high,
      )

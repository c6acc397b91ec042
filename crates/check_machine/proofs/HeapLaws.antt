-- The pairs of the heaps, and what a closure of them says of a certificate.
-- Members that all obey the rule cover every position; one that breaks it shows where it fails.
use Rattle.std.proofs.Common.{◌≡◌, ℕ, ◌-◌, ◌<◌, List, length, get_or, Contains, refl, sym, ◌∙◌, ap, subst, arith}
use Rattle.std.specs.List.{All}
use Rattle.std.specs.FinSet as set
use Rattle.std.specs.Ordering.{nat_cmp}
use Rattle.std.proofs.lemmas.List.{get_or-map, length-map}
use Rattle.misere_theory.specs.Games.{IsHeapUpTo, IsPosition}
use Rattle.misere_theory.specs.Pairs.{KeptObey, IsClosed}
use Rattle.misere_theory.specs.Certificates.{Certificate, kind_of, IsHeapOf, claim_of}
use Rattle.misere_theory.proofs.Written.{phi_in}
use Rattle.misere_theory.proofs.Counting.{bound_counts, position_where}
use Rattle.monoid_table.specs.Grids.{Grid}
use Rattle.monoid_table.specs.PretendingTables.{Agrees}
use Rattle.transition_algebra.specs.Heaps.{AreAllHeapPairs, IsHeapPairs}
use Rattle.transition_algebra.specs.Pairs.{IsPair}
use Rattle.transition_algebra.specs.OverSets.{Pair}
use Rattle.pair_closure.specs.Positions.{as_pair, kept, IsClaimOver, IsClosedOver}
use Rattle.pair_closure.specs.ClosureViews.{blank_held}
use Rattle.pair_closure.specs.Turns.{State}
use Rattle.pair_closure.proofs.OptionLaws.{items_have, has_items}
use Rattle.certificate.specs.Fields.{Fields, certificate_of}
use Rattle.answers.specs.Portions.{IsPortion}
use Rattle.check_machine.specs.Rules.{Obeys, HeldObey}
use Rattle.check_machine.specs.Closings.{HavePairs, IsClosing, IsCovered}
use Rattle.check_machine.specs.Bounds.{bound_of}
use Rattle.check_machine.proofs.Rows.{rows_of-entry}

-- the heaps up to the bound count
pub up_to_bound : (c : Certificate) (n : ℕ) → IsHeapUpTo (bound_of c) n → IsHeapOf c n
up_to_bound c = bound_counts (kind_of c) c.code (length c.code - 1) c.start c.period

grid : Fields → Grid
grid p = record { order = p.order; entries = p.rows }

module _ (c : Certificate) (inside : set.FinSet nat_cmp) (portion : IsPortion c inside) (t : State)
  where
    member_of : (q : _) → Contains (kept t) q → (i : ℕ) × (i < length t.held)
        × (as_pair (get_or t.held i blank_held).pair ≡ q)
    member_of q (i, l, e) =
        let b : i < length t.held = (let n = length-map t.held (λ m. as_pair m.pair) in omega arith)
        in
        (i, b, sym (get_or-map (λ m. as_pair m.pair) t.held i blank_held q b) ∙ e)

    -- members held that obey the rule, in the theory's words
    pub obeying : ((i : ℕ) → i < length t.held → Obeys inside (get_or t.held i blank_held).pair)
        → KeptObey (claim_of c) (kept t)
    obeying all = record {
      outside = λ q k f x h.
          let (i, l, e) = member_of q k in
          let m = (get_or t.held i blank_held).pair in
          let o = all i l in
          let v = portion m.value ∙ (ap (λ r. (claim_of c).portion r.value) e ∙ f) in
          let (y, has, into) =
          o.leads v x (items_have m.options x (subst (λ r. Contains r.options x) (sym e) h)) in (
            y,
            subst (λ r. Contains r.options y) e (has_items m.options y has),
            sym (portion y)
                ∙ into,
          );
      inside = λ q k f.
          let (i, l, e) = member_of q k in
          let m = (get_or t.held i blank_held).pair in
          let o = all i l in
          let v = portion m.value ∙ (ap (λ r. (claim_of c).portion r.value) e ∙ f) in
          let (x, has) = o.some v in
          (x, subst (λ r. Contains r.options x) e (has_items m.options x has));
    }

module _ (p : Fields) where
  agrees : (t : Grid) → t ≡ grid p → Agrees (claim_of (certificate_of p)) t p.phi
  unfolding grid
  agrees t e = subst (λ g. Agrees (claim_of (certificate_of p)) g p.phi) (sym e) (record {
    order_is = refl;
    times_is = λ x y a b. rows_of-entry p.order p.order p.rows x y a b;
    phi_is = λ n _. refl;
  })

  pub heaps_have_pairs : (pairs : List Pair)
      → AreAllHeapPairs p.code (record { order = p.order; entries = p.rows }) p.phi pairs
      → All (IsPair p.order) pairs → HavePairs (certificate_of p) pairs
  unfolding grid
  heaps_have_pairs pairs exact within =
      record { exact = exact (claim_of (certificate_of p)) (agrees (grid p) refl); within = within }

  module _ (inside : set.FinSet nat_cmp) (heaps : List Pair) (is : IsClosing p inside heaps) where
    claim_over : IsClaimOver p.code (claim_of (certificate_of p))
        (record { order = p.order; entries = p.rows }) heaps
    claim_over = record {
      monoid = is.certificate.lawful.monoid;
      elements = λ n _. phi_in (certificate_of p) is.certificate.lawful.in_ranges n;
      order_is = refl;
      times_is = λ x y a b. rows_of-entry p.order p.order p.rows x y a b;
      heaps_are =
          subst (λ n. IsHeapPairs p.code (claim_of (certificate_of p)) n heaps)
          (sym is.exact.exact.length_is) is.exact.exact;
    }

    module _ (t : State) (table_is : t.table ≡ record { order = p.order; entries = p.rows })
        (heaps_is : t.heaps ≡ heaps) where
      over_state : IsClaimOver p.code (claim_of (certificate_of p)) t.table t.heaps
      over_state =
          subst (λ g. IsClaimOver p.code (claim_of (certificate_of p)) g t.heaps) (sym table_is)
          (subst
          (λ h. IsClaimOver p.code (claim_of (certificate_of p))
          (record { order = p.order; entries = p.rows }) h) (sym heaps_is) claim_over)

      pub length_bound : length t.heaps ≡ bound_of (certificate_of p)
      length_bound = ap length heaps_is ∙ is.exact.exact.length_is

      -- members that all obey the rule cover every position
      pub members_cover : IsClosedOver t → HeldObey inside t.held → IsCovered (certificate_of p)
      members_cover closed all = record {
        kept = kept t;
        closed =
            subst (λ n. IsClosed p.code (claim_of (certificate_of p)) (IsHeapUpTo n) (kept t))
            length_bound (closed p.code (claim_of (certificate_of p)) over_state);
        obey = obeying (certificate_of p) inside is.portion t all;
      }

-- positions of the heaps up to the bound are positions of the certificate's game
pub position_within : (c : Certificate) (X : List ℕ) → IsPosition (IsHeapUpTo (bound_of c)) X
    → IsPosition (IsHeapOf c) X
position_within c = position_where (IsHeapUpTo (bound_of c)) (IsHeapOf c) (up_to_bound c)

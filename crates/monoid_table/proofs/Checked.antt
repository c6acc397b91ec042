-- What the triples that were looked at say of the laws.
-- The triple x, y, z has the number (x q + y) q + z, and the triples looked at are those below a
-- number.
use Rattle.std.proofs.Common.{◌≡◌, ℕ, ◌+◌, ◌-◌, ◌*◌, ◌/◌, ◌%◌, ◌<◌, ◌≤◌, Bool, true, false, List, refl, sym, ap, ap₂, ◌∙◌, inl, inr, arith}
use Rattle.std.specs.Prelude.{◌&&◌, ◌==◌}
use Rattle.std.proofs.lemmas.Bool.{cases_lt, cases_eq, and_parts, eqb-true, and_right}
use Rattle.std.proofs.lemmas.Bool.Decides.{nat_tests}
use Rattle.std.proofs.lemmas.Nat.{div-mul-add, mod-mul-add, mul-add-lt, div_below, mod_below, div-add-mod', mul-le}
use Rattle.std.proofs.Math.Nat.{mul_comm}
use Rattle.std.proofs.Common.{add-mul}
use Rattle.misere_theory.specs.declared.TheConstants.{LARGEST_ORDER}
use Rattle.misere_theory.specs.Quotients.{Monoid, LawFails}
use Rattle.misere_theory.specs.Quotients.LawFails.{Identity, Commutativity, Associativity}
use Rattle.monoid_table.specs.Grids.{entry, IsTable}
use Rattle.monoid_table.specs.Turns.{triples, pair_holds, groups_alike, triple_holds}
use Rattle.monoid_table.specs.Jobs.{HasLookedAt}
use Rattle.monoid_table.specs.Faults.{answer_of}
use Rattle.std.specs.Prelude.{Ok}

-- the number of the triple x, y, z
pub holds-at : (q : ℕ) (rows : List ℕ) (x y z : ℕ) → y < q → z < q
    → triple_holds q rows ((x * q + y) * q + z)
    ≡ (pair_holds q rows x y && groups_alike q rows x y z)
unfolding triple_holds
holds-at q rows x y z hy hz =
    rw (
      div-mul-add (x * q + y) q z hz,
      mod-mul-add (x * q + y) q z hz,
      div-mul-add x q y hy,
      mod-mul-add x q y hy,
    )

pub number-below : (q x y z : ℕ) → x < q → y < q → z < q → (x * q + y) * q + z < triples q
number-below q x y z hx hy hz =
    rw (mul_comm q (q * q)) at (mul-add-lt (x * q + y) q z (q * q) (mul-add-lt x q y q hx hy) hz)

record Holding (q : ℕ) (rows : List ℕ) (x y z : ℕ) : Type 0 where
  identity : entry q rows 0 x ≡ x
  commutes : entry q rows x y ≡ entry q rows y x
  associates : entry q rows (entry q rows x y) z ≡ entry q rows x (entry q rows y z)

all-below : (q : ℕ) (rows : List ℕ) (spent : ℕ) → HasLookedAt q rows spent false → (i : ℕ)
    → i < spent → triple_holds q rows i ≡ true
all-below q rows spent h i lt = elim (cases_lt (i + 1) spent) [
  | inl less ↦ h.passed i less
  | inr past ↦
      let e : spent - 1 ≡ i = omega arith in rw e at (h.last refl (omega arith))
]

holding : (q : ℕ) (rows : List ℕ) → HasLookedAt q rows (triples q) false → (x y z : ℕ) → x < q
    → y < q → z < q → Holding q rows x y z
holding q rows h x y z hx hy hz =
    let all =
    and_parts _ _
    (sym (holds-at q rows x y z hy hz) ∙ all-below q rows (triples q) h _
    (number-below q x y z hx hy hz)) in
    let pair = and_parts _ _ all.0 in
    record {
      identity = eqb-true _ _ pair.0;
      commutes = eqb-true _ _ pair.1;
      associates = eqb-true _ _ all.1;
    }

-- every law held
pub is-table : (q : ℕ) (rows : List ℕ) → HasLookedAt q rows (triples q) false → IsTable q rows
is-table q rows h =
    let some = h.shaped.positive in
    record {
      shaped = h.shaped;
      monoid = record {
        some = some;
        closed = λ x y hx hy. h.shaped.below (x * q + y) (mul-add-lt x q y q hx hy);
        identity = λ x hx. (holding q rows h x 0 0 hx some some).identity;
        commutes = λ x y hx hy. (holding q rows h x y 0 hx hy some).commutes;
        associates = λ x y z hx hy hz. (holding q rows h x y z hx hy hz).associates;
      };
    }

-- a law failed
pub is-breach : (q : ℕ) (rows : List ℕ) (spent : ℕ) → HasLookedAt q rows spent true
    → LawFails q (entry q rows)
unfolding triple_holds
is-breach q rows spent h =
    let i = spent - 1 in
    let some = h.shaped.positive in
    let failed = h.broken refl in
    let below : i < triples q = omega (arith, h.within, failed.0) in
    let pair_in = div_below i q (q * q) some below in
    let x = i / q / q in
    let y = i / q % q in
    let z = i % q in
    let x_in = div_below (i / q) q q some pair_in in
    let y_in = mod_below (i / q) q some in
    let z_in = mod_below i q some in
    elim (cases_eq (entry q rows 0 x) x) [
      | inr bad ↦ Identity x x_in bad
      | inl one ↦ elim (cases_eq (entry q rows x y) (entry q rows y x)) [
        | inr bad ↦ Commutativity x y x_in y_in bad
        | inl two ↦ elim
            (cases_eq (entry q rows (entry q rows x y) z) (entry q rows x (entry q rows y z))) [
              | inr bad ↦ Associativity x y z x_in y_in z_in bad
              | inl three ↦ absurd (contradicts _ _ _ _ _ _ one two three failed.1)
            ]
      ]
    ]
  where
    contradicts : (a b c d e f : ℕ) → a ≡ b → c ≡ d → e ≡ f
        → (((a == b) && (c == d)) && (e == f)) ≡ false → ⊥
    contradicts a b c d e f one two three bad = grind (arith, nat_tests)

-- where a law fails there is no monoid
pub failure-refutes : (q : ℕ) (times : ℕ → ℕ → ℕ) → LawFails q times → Monoid q times → ⊥
failure-refutes q times (Identity x x_in bad) m = bad (m.identity x x_in)
failure-refutes q times (Commutativity x y x_in y_in bad) m = bad (m.commutes x y x_in y_in)
failure-refutes q times (Associativity x y z x_in y_in z_in bad) m =
    bad (m.associates x y z x_in y_in z_in)

-- the triples of a run have the same x and y
pub holds-in-run : (q : ℕ) (rows : List ℕ) (spent i : ℕ) → 0 < q → spent ≤ i
    → i < spent + (q - spent % q)
    → triple_holds q rows i
    ≡ (pair_holds q rows (spent / q / q) (spent / q % q) && groups_alike q rows (spent / q / q)
    (spent / q % q) (spent % q + (i - spent)))
holds-in-run q rows spent i some from before =
    let pair = spent / q in
    let z = spent % q in
    let low : z < q = mod_below spent q some in
    let e : (pair / q * q + pair % q) * q + (z + (i - spent)) ≡ i =
    ap (λ p. p * q + (z + (i - spent))) (div-add-mod' pair q)
    ∙ placed (pair * q) z spent i (div-add-mod' spent q) from in
    sym (ap (triple_holds q rows) e) ∙ holds-at q rows (pair / q) (pair % q) (z + (i - spent))
    (mod_below pair q some) (omega arith)
  where
    placed : (p z spent i : ℕ) → p + z ≡ spent → spent ≤ i → p + (z + (i - spent)) ≡ i
    placed p z spent i e from = omega arith

-- what is left of the pair's triples is within all triples
pub run-within : (q spent : ℕ) → 0 < q → spent < triples q → spent + (q - spent % q) ≤ triples q
run-within q spent some below =
    let pair = spent / q in
    let whole = div-add-mod' spent q in
    let low : spent % q < q = mod_below spent q some in
    let most : pair * q + q ≤ q * q * q =
    row-most pair q (q * q) (div_below spent q (q * q) some below) in
    omega arith
  where
    row-most : (p q h : ℕ) → p < h → p * q + q ≤ h * q
    row-most p q h lt =
        omega (arith, mul-le (p + 1) q h q (omega arith) (omega arith), add-mul p 1 q)

-- up to stop, all triples of the pair hold
pub run-passed : (q : ℕ) (rows : List ℕ) (spent stop : ℕ) → 0 < q → stop ≤ q
    → pair_holds q rows (spent / q / q) (spent / q % q) ≡ true
    → ((z : ℕ) → spent % q ≤ z → z < stop → groups_alike q rows (spent / q / q) (spent / q % q) z
    ≡ true)
    → (i : ℕ) → spent ≤ i → i < spent + (stop - spent % q) → triple_holds q rows i ≡ true
run-passed q rows spent stop some to_in pair alike i from before =
    holds-in-run q rows spent i some from (omega arith)
    ∙ ap₂ (λ a b. a && b) pair (alike (spent % q + (i - spent)) (omega arith) (omega arith))

pub run-breach : (q : ℕ) (rows : List ℕ) (spent stop : ℕ) → 0 < q → stop < q → spent % q ≤ stop
    → groups_alike q rows (spent / q / q) (spent / q % q) stop ≡ false
    → triple_holds q rows (spent + (stop - spent % q)) ≡ false
run-breach q rows spent stop some stop_in from breach =
    let e : spent % q + (spent + (stop - spent % q) - spent) ≡ stop = omega arith in
    holds-in-run q rows spent (spent + (stop - spent % q)) some (omega arith) (omega arith)
    ∙ rw e (and_right (pair_holds q rows (spent / q / q) (spent / q % q)) _ breach)

pub pair-breach : (q : ℕ) (rows : List ℕ) (spent : ℕ)
    → pair_holds q rows (spent / q / q) (spent / q % q) ≡ false → triple_holds q rows spent ≡ false
unfolding triple_holds
pair-breach q rows spent breach =
    ap (λ b. b && groups_alike q rows (spent / q / q) (spent / q % q) (spent % q)) breach

-- what `Ok true` says
pub finished : (q : ℕ) (rows : List ℕ) (spent : ℕ) (refused : Bool)
    → HasLookedAt q rows spent refused
    → answer_of
    (record { grid = record { order = q; entries = rows }; spent = spent; refused = refused })
    ≡ Ok true → IsTable q rows
finished q rows spent true h e = absurd (cc)
finished q rows spent false h e =
    let all : spent ≡ triples q = eqb-true spent (triples q) (cc) in
    is-table q rows (rw all at h)

-- all triples looked at, none failed
pub looked-at-all : (q : ℕ) (rows : List ℕ) (spent : ℕ) (refused : Bool) (all : ℕ)
    → HasLookedAt q rows spent refused
    → refused ≡ false → all ≡ triples q → (spent == all) ≡ true → IsTable q rows
looked-at-all q rows spent refused all h going e over =
    is-table q rows (rw (going, eqb-true spent all over, e) at h)

-- a failure was seen
pub looked-at-failure : (q : ℕ) (rows : List ℕ) (spent : ℕ) (refused : Bool)
    → HasLookedAt q rows spent refused → refused ≡ true → LawFails q (entry q rows)
looked-at-failure q rows spent refused h e = is-breach q rows spent (rw e at h)

-- the triples of the greatest order are counted in 64 bits
pub triples-most : (q : ℕ) → q ≤ LARGEST_ORDER → triples q ≤ 68719476736
triples-most q small =
    mul-le (q * q) q (LARGEST_ORDER * LARGEST_ORDER) LARGEST_ORDER
    (mul-le q q LARGEST_ORDER LARGEST_ORDER small small) small

-- a monoid passes at every triple
pub monoid-holds : (q : ℕ) (rows : List ℕ) → Monoid q (entry q rows) → (i : ℕ) → i < triples q
    → triple_holds q rows i ≡ true
unfolding triple_holds
monoid-holds q rows m i below =
    let some = m.some in
    let pair_in = div_below i q (q * q) some below in
    let x_in = div_below (i / q) q q some pair_in in
    let y_in = mod_below (i / q) q some in
    let z_in = mod_below i q some in
    together _ _ _ _ _ _ (m.identity _ x_in) (m.commutes _ _ x_in y_in)
    (m.associates _ _ _ x_in y_in z_in)
  where
    together : (a b c d e f : ℕ) → a ≡ b → c ≡ d → e ≡ f
        → (((a == b) && (c == d)) && (e == f)) ≡ true
    together a b c d e f one two three = grind (arith, nat_tests)

-- The quotient of some heaps is that of the same heaps, said in other words.
use Rattle.std.proofs.Common.{ℕ, ◌↔◌, List, [], ◌∷◌}
use Rattle.misere_theory.specs.Games.{IsPosition}
use Rattle.misere_theory.specs.Quotients.{Claim, Represents}

module _ (one other : ℕ → Type 0) (code : List ℕ) (d : Claim) (alike : (n : ℕ) → one n ↔ other n) where
  there : (X : List ℕ) → IsPosition one X → IsPosition other X
  there [] p = p
  there (n ∷ X) p = ((alike n).0 p.0, there X p.1)

  back : (X : List ℕ) → IsPosition other X → IsPosition one X
  back [] p = p
  back (n ∷ X) p = ((alike n).1 p.0, back X p.1)

  pub renamed : Represents one code d → Represents other code d
  renamed r = record {
    monoid = r.monoid;
    elements = λ n p. r.elements n ((alike n).1 p);
    predicts = λ X p. r.predicts X (back X p);
    indistinguishable = λ X Y p q. (
      (λ all. (r.indistinguishable X Y (back X p) (back Y q)).0 (λ Z s. all Z (there Z s))),
      (λ e Z s. (r.indistinguishable X Y (back X p) (back Y q)).1 e Z (back Z s)),
    );
    reached = λ x p. let found = r.reached x p in (found.0, there found.0 found.1, found.2);
  }

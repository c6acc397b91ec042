use Rattle.std.proofs.Common.{◌≡◌, ◌∷◌, [], ℕ, List, length, refl, arith, ap, sym, ◌∙◌}
use Rattle.std.specs.Prelude.{Some}
use Rattle.presentations.proofs.Merges.{popped}
use Rattle.presentations.proofs.merging.Merging.take_pair.Goals as goal

empty : (xs : List (ℕ × ℕ)) → length xs ≡ 0 → xs ≡ []
empty [] e = refl
empty (x ∷ xs) e = absurd (omega (arith, e))

pub returns : goal.returns
returns g c =
    let view = c.self.view_is in
    record {
      axes = ap (λ z. z.axes) view;
      relations = ap (λ z. z.relations) view;
      parents = ap (λ z. z.parents) view;
      last = sym (ap (λ z. z.pending) view) ∙ c.in_ok-u.ensures.items;
      none = tt;
      pair =
          rw (← view)
          (popped (Some (c.in_ok-u.u, c.in_ok-u.v)) c.self.invariant c.in_ok-u.ensures.items).1;
    }

pub returns-in_err-u : goal.returns-in_err-u
returns-in_err-u g c =
    let view = c.self.view_is in
    rw c.from_residual.ensures (record {
      axes = ap (λ z. z.axes) view;
      relations = ap (λ z. z.relations) view;
      parents = ap (λ z. z.parents) view;
      last = tt;
      none = sym (ap (λ z. z.pending) view) ∙ empty c.self.inside.pending.items
          (omega (arith, c.in_err-u.ensures.cases.0, c.self.inside.pending.ok));
      pair = tt;
    })

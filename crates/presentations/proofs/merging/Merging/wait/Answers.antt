use Rattle.std.proofs.Common.{◌++◌, ◌∷◌, [], ap, refl, ◌∙◌}
use Rattle.presentations.proofs.Faults.{is-fault}
use Rattle.presentations.proofs.merging.Merging.wait.Goals as goal

pub returns : goal.returns
returns g c =
    let view = c.self.view_is in
    record {
      axes = ap (λ z. z.axes) view;
      relations = ap (λ z. z.relations) view;
      parents = ap (λ z. z.parents) view;
      kept = c.in_ok-push.ensures.items ∙ ap (λ z. z.pending ++ (c.args.u, c.args.v) ∷ []) view;
      refused = tt;
    }

pub returns-in_err-push : goal.returns-in_err-push
returns-in_err-push g c =
    let view = c.self.view_is in
    rw (is-fault _ _ c.from_residual.ensures.1) (record {
      axes = ap (λ z. z.axes) view;
      relations = ap (λ z. z.relations) view;
      parents = ap (λ z. z.parents) view;
      kept = tt;
      refused = refl;
    })

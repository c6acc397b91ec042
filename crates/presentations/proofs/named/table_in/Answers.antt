-- The numbered classes with their rows are the table, by Elements.
use Rattle.std.proofs.Common.{ap, ◌∙◌, length, take}
use Rattle.std.proofs.lemmas.Bool.{false≢true}
use Rattle.presentations.proofs.Faults.{is-fault, err-same, elsewhere}
use Rattle.presentations.proofs.Elements.{is-table, table-of, more-elements}
use Rattle.presentations.proofs.named.table_in.Goals as goal

pub returns-in_err-numbering : goal.returns-in_err-numbering
returns-in_err-numbering g c =
    rw (is-fault _ _ c.from_residual.ensures.1) (record {
      table = tt;
      limit = λ limit. more-elements c.requires.classes c.requires.letters
          (c.in_err-numbering.ensures.limit (elsewhere limit));
      only = (
        λ e. c.in_err-numbering.ensures.only.0 (elsewhere e),
        λ e. c.in_err-numbering.ensures.only.1 (elsewhere e),
      );
    })

pub returns-in_err-generators : goal.returns-in_err-generators
returns-in_err-generators g c =
    rw (
      is-fault _ _ c.from_residual-in_err-generators.ensures.1,
      err-same _ _ c.in_err-generators.ensures.refused,
    ) (record { table = tt; limit = λ e. cc; only = (λ e. cc, λ e. cc) })

pub returns-in_err-rows : goal.returns-in_err-rows
returns-in_err-rows g c =
    rw (
      is-fault _ _ c.from_residual-in_err-rows.ensures.1,
      err-same _ _ c.in_err-rows.ensures.refused,
    ) (record { table = tt; limit = λ e. cc; only = (λ e. cc, λ e. cc) })

pub unreachable-requires : goal.unreachable-requires
unreachable-requires g c =
    false≢true (c.in-Err.ensures.ok.1 (rw c.order-order.ensures.value
    (is-table c.requires.classes c.in_ok-numbering.ensures.numbering c.in_ok-rows.ensures.rows)))

pub returns : goal.returns
returns g c = record {
  table =
      rw (c.in-Ok.ensures.given, c.order-order.ensures.value)
      (table-of c.requires.classes c.in_ok-numbering.ensures.numbering c.in_ok-rows.ensures.rows
      c.in_ok-generators.generators.items c.requires.letters c.in_ok-generators.ensures.letters
      (c.in_ok-generators.ensures.elements
      ∙ ap (take (length c.args.axes.now)) c.deref.ensures.value));
  limit = λ e. cc;
  only = tt;
}

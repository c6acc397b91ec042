use Rattle.std.proofs.Common.{inl, inr}
use Rattle.misere_library.proofs.bytes.certified_of.Goals as goal

pub returns-in-Err-clause-no : goal.returns-in-Err-clause-no
returns-in-Err-clause-no c =
    let C = c.in_ok-certified.certified in
    let yes = c.in_ok-certified.ensures.yes in
    let no = c.in-Err.ensures.no in (
      no.0,
      elim no.1 [
        | inl n ↦ inl n
        | inr b ↦ inr (inr (inl (b.0, (C, yes.0, yes.1, c.in_ok-certified.ensures.verdict, b.1))))
      ],
    )

use Rattle.std.proofs.Common.{refl}
use Rattle.std.proofs.lemmas.Bool.{false≢true}
use Rattle.presentations.proofs.Spelled.{no-left, no-equals, no-right, both-sides}
use Rattle.presentations.proofs.read.relation_at.Goals as goal

pub returns-in_err-left-clause-none : goal.returns-in_err-left-clause-none
returns-in_err-left-clause-none c =
    rw c.from_residual.ensures (no-left _ c.in_err-left.ensures.none)

pub returns-then-not-is_byte-clause-none : goal.returns-then-not-is_byte-clause-none
returns-then-not-is_byte-clause-none c =
    no-equals _ _ c.in_ok-left.left c.in_ok-left.ensures.some
    (λ equals. false≢true (c.if-not-is_byte.ensures.value.1 equals))

pub returns-in_err-right-clause-none : goal.returns-in_err-right-clause-none
returns-in_err-right-clause-none c =
    rw c.from_residual-in_err-right.ensures
    (no-right _ _ c.in_ok-left.left _ c.in_ok-left.ensures.some
    (c.if-not-is_byte.ensures.behind refl) c.in_err-right.ensures.none)

pub returns-clause-some : goal.returns-clause-some
returns-clause-some c =
    both-sides _ _ _ _ (record { left = c.in_ok-left.left; right = c.in_ok-right.right })
    c.in_ok-left.ensures.some (c.if-not-is_byte.ensures.behind refl) c.in_ok-right.ensures.some

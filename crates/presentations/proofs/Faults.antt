-- What the exit of a `?` answers.
-- By cases of the result.
use Rattle.std.proofs.Common.{◌≡◌, refl, sym, ap, ◌∙◌, subst}
use Rattle.std.specs.Prelude.{Result, Ok, Err, IsErrAnd, OnErr, IfOk}
use Rattle.std.proofs.lemmas.Result.{err_from_is_err_and}
use Rattle.presentations.specs.declared.fault.PresFault.{PresFault}

pub same-fault : {X : Type 0} (r : Result X PresFault) (e f : PresFault) → IsErrAnd r (λ y. y ≡ e)
    → r ≡ Err f → e ≡ f
same-fault r e f m is = sym (subst (λ r. IsErrAnd r (λ y. y ≡ e)) is m)

pub is-fault : {X : Type 0} (r : Result X PresFault) (e : PresFault) → IsErrAnd r (λ y. y ≡ e)
    → r ≡ Err e
is-fault r e m = let p = err_from_is_err_and r m in p.1 ∙ ap Err p.2

pub err-same : {X : Type 0} (e f : PresFault) → ◌≡◌ {A = Result X PresFault} (Err e) (Err f) → e ≡ f
err-same e f is = same-fault (Err e) e f refl is

-- the same faults of another result are the same
pub elsewhere : {X Y : Type 0} {e f : PresFault} → ◌≡◌ {A = Result X PresFault} (Err e) (Err f)
    → ◌≡◌ {A = Result Y PresFault} (Err e) (Err f)
elsewhere is = ap Err (err-same _ _ is)

pub ok-err : {X : Type 0} (x : X) (f : PresFault) → ◌≡◌ {A = Result X PresFault} (Ok x) (Err f) → ⊥
ok-err x f is = cc

pub unless : {X : Type 0} (r : Result X PresFault) (P : Type 0) → OnErr r P → (e : PresFault)
    → r ≡ Err e → P
unless (Ok x) P h e is = absurd (ok-err x e is)
unless (Err f) P h e is = h

pub always : {X : Type 0} (r : Result X PresFault) (P : Type 0) → P → IfOk r (λ _. P)
always (Ok x) P p = p
always (Err f) P p = tt

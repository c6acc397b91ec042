use Rattle.std.proofs.Common.{◌≡◌, ◌<◌, length, Some, None, arith}
use Rattle.json.specs.Json.{read_key}
use Rattle.json.proofs.Grammar.{read_key-shorter}
use Rattle.serde_json.specs.Data.{put}
use Rattle.catalogue.proofs.ReadLemmas.{members_close, members_step, members_stop, members_no_key, unread, no_json}
use Rattle.catalogue.proofs.members.take_members.Goals as goal

pub returns-in_err-name-clause-err : goal.returns-in_err-name-clause-err
returns-in_err-name-clause-err g c =
    let l = c.loop-name in
    no_json _ c.from_residual.result c.from_residual.ensures.1
    (l.invariant.2 None
    (members_no_key c.args.depth l.reader l.invariant.0 c.in_err-name.ensures.value))

pub loop-name-preserved : goal.loop-name-preserved
loop-name-preserved g c =
    let l = c.loop-name in
    let k = c.in-Some.name.now in
    let s = c.next_key.new.self in
    let named : read_key l.reader ≡ Some (Some k, s) = grind arith in
    let taken = c.in_ok-take.ensures.taken in
    let r = c.take.new.reader in
    let nearer = read_key-shorter l.reader (Some k) s named in
    let less : length r < length l.reader = omega (arith, c.in_ok-take.ensures.shorter, nearer) in (
      put k taken.0 l.invariant.0,
      taken.2 l.invariant.0 l.invariant.1,
      (λ o h.
          l.invariant.2 o
          (members_step c.args.depth l.reader r l.invariant.0 k s taken.0 o named taken.1 less h)),
      omega (arith, l.invariant.3, less),
    )

pub returns-in_err-take-clause-err : goal.returns-in_err-take-clause-err
returns-in_err-take-clause-err g c =
    let l = c.loop-name in
    let k = c.in-Some.name.now in
    let s = c.next_key.new.self in
    let named : read_key l.reader ≡ Some (Some k, s) = grind arith in
    unread _ _ c.from_residual-in_err-take.result c.in_err-take.field-0.0
    c.from_residual-in_err-take.ensures.1
    (λ none. l.invariant.2 None (members_stop c.args.depth l.reader l.invariant.0 k s named none))
    c.in_err-take.ensures.err

pub returns-clause-read : goal.returns-clause-read
returns-clause-read g c =
    let l = c.loop-name in
    let r = c.next_key.new.self in (
      l.invariant.0,
      l.invariant.2 (Some (l.invariant.0, r))
          (members_close c.args.depth l.reader r l.invariant.0 (grind arith)),
      l.invariant.1,
    )

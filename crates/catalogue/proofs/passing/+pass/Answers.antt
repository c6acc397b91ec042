-- The functions that pass over a value, its items and its members call each other.
use Rattle.std.proofs.Common.{◌≡◌, ◌<◌, ◌∷◌, length, Some, None, inl, inr, refl, subst, ap, arith}
use Rattle.std.proofs.lemmas.Result.{on_ok_weaker}
use Rattle.json.specs.Json.{read_key}
use Rattle.json.specs.Reads.{token_of}
use Rattle.json.specs.Token.{Token}
use Rattle.json.proofs.Grammar.{read_key-shorter}
use Rattle.serde_json.specs.Data.{null, boolean, number, string, no_items, item, no_members, put, array, object}
use Rattle.serde_json.specs.Read.{number_of}
use Rattle.catalogue.specs.Reading.{ReadsItems}
use Rattle.catalogue.proofs.ReadLemmas.{itself, items_close, GoOn, one_read, none_read, members_close, members_step, members_stop, members_no_key, array_begins, array_unread, object_begins, object_unread, begun, no_start, number_some, number_none, number_reads, too_deep, other_refused, unread, no_json}
use Rattle.catalogue.proofs.passing.+pass.Goals as goal
use Rattle.catalogue.proofs.passing.+pass.Goals.{pass_from-in_default-via-in-BeginArray+else-depth-gt0, pass_from-in_default-via-in-BeginObject+else-depth-gt0-2, pass_from-in_default-via-in_default}

pub pass_items-loop-reader-init : goal.pass_items-loop-reader-init
pass_items-loop-reader-init t c = (
  (λ ds. ds),
  (λ o h. subst (ReadsItems c.args.depth c.args.reader.now) (itself o) h),
  omega arith,
)

pub pass_items-loop-reader-preserved : goal.pass_items-loop-reader-preserved
pass_items-loop-reader-preserved t c =
    let l = c.loop-reader in
    let going : GoOn l.reader c.take_end_array.new.self = grind arith in
    let passed = c.in_ok-pass_value.ensures.passed in
    let r = c.pass_value.new.reader in
    let shorter = c.in_ok-pass_value.ensures.shorter in
    let less : length r < length l.reader = rw (← going.1) shorter in (
      (λ ds. l.invariant.0 (item passed.0 ds)),
      (λ o h. one_read c.args.depth c.args.reader.now l.reader c.take_end_array.new.self l.invariant.0
          l.invariant.1 going passed.0 r o passed.1 shorter h),
      omega (arith, l.invariant.2),
    )

pub pass_items-returns-in_err-pass_value-clause-err :
    goal.pass_items-returns-in_err-pass_value-clause-err
pass_items-returns-in_err-pass_value-clause-err t c =
    let l = c.loop-reader in
    let going : GoOn l.reader c.take_end_array.new.self = grind arith in
    unread _ _ c.from_residual.result c.in_err-pass_value.field-0.0 c.from_residual.ensures.1
    (none_read c.args.depth c.args.reader.now l.reader c.take_end_array.new.self l.invariant.0
    l.invariant.1 going)
    c.in_err-pass_value.ensures.err

pub pass_items-returns-clause-passed : goal.pass_items-returns-clause-passed
pass_items-returns-clause-passed t c =
    let l = c.loop-reader in
    let r = c.take_end_array.new.self in (
      l.invariant.0 no_items,
      l.invariant.1 (Some (no_items, r))
          (items_close c.args.depth l.reader r (grind arith)),
    )

pub pass_members-loop-reader-init : goal.pass_members-loop-reader-init
pass_members-loop-reader-init t c = (no_members, (λ o h. h), omega arith)

pub pass_members-returns-in_err-next_key-clause-err :
    goal.pass_members-returns-in_err-next_key-clause-err
pass_members-returns-in_err-next_key-clause-err t c =
    let l = c.loop-reader in
    no_json _ c.from_residual.result c.from_residual.ensures.1
    (l.invariant.1 None
    (members_no_key c.args.depth l.reader l.invariant.0 c.in_err-next_key.ensures.value))

pub pass_members-loop-reader-preserved : goal.pass_members-loop-reader-preserved
pass_members-loop-reader-preserved t c =
    let l = c.loop-reader in
    let k = c.in-Some.field-0.now in
    let s = c.next_key.new.self in
    let named : read_key l.reader ≡ Some (Some k, s) = grind arith in
    let passed = c.in_ok-pass_value.ensures.passed in
    let r = c.pass_value.new.reader in
    let nearer = read_key-shorter l.reader (Some k) s named in
    let less : length r < length l.reader =
    omega (arith, c.in_ok-pass_value.ensures.shorter, nearer) in (
      put k passed.0 l.invariant.0,
      (λ o h.
          l.invariant.1 o
          (members_step c.args.depth l.reader r l.invariant.0 k s passed.0 o named passed.1 less
          h)),
      omega (arith, l.invariant.2, less),
    )

pub pass_members-returns-in_err-pass_value-clause-err :
    goal.pass_members-returns-in_err-pass_value-clause-err
pass_members-returns-in_err-pass_value-clause-err t c =
    let l = c.loop-reader in
    let k = c.in-Some.field-0.now in
    let s = c.next_key.new.self in
    let named : read_key l.reader ≡ Some (Some k, s) = grind arith in
    unread _ _ c.from_residual-in_err-pass_value.result c.in_err-pass_value.field-0.0
    c.from_residual-in_err-pass_value.ensures.1
    (λ none. l.invariant.1 None (members_stop c.args.depth l.reader l.invariant.0 k s named none))
    c.in_err-pass_value.ensures.err

pub pass_members-returns-clause-passed : goal.pass_members-returns-clause-passed
pass_members-returns-clause-passed t c =
    let l = c.loop-reader in
    let r = c.next_key.new.self in (
      l.invariant.0,
      l.invariant.1 (Some (l.invariant.0, r))
          (members_close c.args.depth l.reader r l.invariant.0 (grind arith)),
    )

pub pass_value-returns-in_default-clause-err : goal.pass_value-returns-in_default-clause-err
pass_value-returns-in_default-clause-err t c =
    no_start c.args.depth c.args.reader.now (grind arith)

pub pass_from-returns-in-String-clause-passed : goal.pass_from-returns-in-String-clause-passed
pass_from-returns-in-String-clause-passed t c =
    let ts = c.args.reader.now in
    elim c.in-String.is [
      | inl s ↦ rw s.1
          (string s.0.now, begun c.args.depth (Token.string s.0.now ∷ ts) _ (λ a o. refl), tt)
      | inr (inl b) ↦ rw b.1
          (boolean b.0, begun c.args.depth (Token.boolean b.0 ∷ ts) _ (λ a o. refl), tt)
      | inr (inr e) ↦ rw e (null, begun c.args.depth (Token.null ∷ ts) _ (λ a o. refl), tt)
    ]

pub pass_from-returns-in-Some-clause-passed : goal.pass_from-returns-in-Some-clause-passed
pass_from-returns-in-Some-clause-passed t c =
    let s = c.in-Number.text.now in
    let n = number_some (number_of s) c.in-Some.field-0 c.in-Some.ensures in
    rw c.in-Number.is
    (number n.0, number_reads c.args.depth c.args.reader.now s (Some n.0) n.1, tt)

pub pass_from-returns-in-None-clause-err : goal.pass_from-returns-in-None-clause-err
pass_from-returns-in-None-clause-err t c =
    let s = c.in-Number.text.now in
    rw c.in-Number.is (number_reads c.args.depth c.args.reader.now s None
    (number_none (number_of s) c.in-None.ensures))

pub pass_from-returns-in-BeginArray-clause-passed :
    goal.pass_from-returns-in-BeginArray-clause-passed
pass_from-returns-in-BeginArray-clause-passed t c =
    let r = c.pass_items.new.reader in
    rw c.in-BeginArray.is (on_ok_weaker c.pass_items.result
    (λ h. (
      array h.0,
      array_begins c.args.depth c.args.reader.now (Some (h.0, r)) (omega arith) h.1,
      tt,
    ))
    c.pass_items.ensures.passed)

pub pass_from-returns-in-BeginArray-clause-err : goal.pass_from-returns-in-BeginArray-clause-err
pass_from-returns-in-BeginArray-clause-err t c =
    array_unread c.args.depth c.args.reader.now _ (omega arith) c.pass_items.result
    (ap (λ k. token_of k ∷ c.args.reader.now) c.in-BeginArray.is) c.pass_items.ensures.err

pub pass_from-returns-in-BeginObject-clause-passed :
    goal.pass_from-returns-in-BeginObject-clause-passed
pass_from-returns-in-BeginObject-clause-passed t c =
    let r = c.pass_members.new.reader in
    rw c.in-BeginObject.is (on_ok_weaker c.pass_members.result
    (λ h. (
      object h.0,
      object_begins c.args.depth c.args.reader.now (Some (h.0, r)) (omega arith) h.1,
      tt,
    ))
    c.pass_members.ensures.passed)

pub pass_from-returns-in-BeginObject-clause-err : goal.pass_from-returns-in-BeginObject-clause-err
pass_from-returns-in-BeginObject-clause-err t c =
    object_unread c.args.depth c.args.reader.now _ (omega arith) c.pass_members.result
    (ap (λ k. token_of k ∷ c.args.reader.now) c.in-BeginObject.is) c.pass_members.ensures.err

pub pass_from-returns-in_default-clause-err : goal.pass_from-returns-in_default-clause-err
pass_from-returns-in_default-clause-err t c =
    let ts = c.args.reader.now in
    elim c.in_default.branch [
      | pass_from-in_default-via-in-BeginArray+else-depth-gt0 w ↦ rw w.in-BeginArray.is
          (too_deep c.args.depth ts (omega (arith, w.if-depth-gt0.false))).0
      | pass_from-in_default-via-in-BeginObject+else-depth-gt0-2 w ↦ rw w.in-BeginObject.is
          (too_deep c.args.depth ts (omega (arith, w.if-depth-gt0-2.false))).1
      | pass_from-in_default-via-in_default w ↦ let no = w.in_default in
          other_refused c.args.depth ts c.args.token no.not-BeginObject no.not-BeginArray
          no.not-String no.not-Number no.not-Bool no.not-Null
    ]

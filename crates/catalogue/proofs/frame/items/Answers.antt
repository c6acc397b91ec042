use Rattle.std.proofs.Common.{◌<◌, length, Some, None, sym, subst, arith}
use Rattle.std.proofs.lemmas.Result.{IfOk-from_err}
use Rattle.serde_json.specs.Data.{no_items, item}
use Rattle.catalogue.specs.Files.{IsEntry, written}
use Rattle.catalogue.specs.Reading.{EntryIs, ReadsItems}
use Rattle.catalogue.proofs.FrameLemmas.{Before, none_before, one_more, all_before, none_of}
use Rattle.catalogue.proofs.ReadLemmas.{itself, items_close, GoOn, one_read, none_read, unread}
use Rattle.catalogue.proofs.frame.items.Goals as goal

pub loop-reader-init : goal.loop-reader-init
loop-reader-init c = (
  (λ ds. ds),
  subst (Before (λ ds. ds)) (sym c.new-entries.ensures.items) none_before,
  (λ o h. subst (ReadsItems c.args.depth c.args.reader.now) (itself o) h),
  omega arith,
)

pub returns-in_err-texts : goal.returns-in_err-texts
returns-in_err-texts c =
    let l = c.loop-reader in
    let going : GoOn l.reader c.take_end_array.new.self = grind arith in
    let fault = c.from_residual.ensures in
    record {
      read = IfOk-from_err _ _ fault.0;
      shorter = IfOk-from_err _ _ fault.0;
      err = unread _ _ c.from_residual.result c.in_err-texts.field-0.0 fault.1
          (none_read c.args.depth c.args.reader.now l.reader c.take_end_array.new.self
          l.invariant.0 l.invariant.2 going) c.in_err-texts.ensures.err;
    }

pub returns-in_err-pass_items : goal.returns-in_err-pass_items
returns-in_err-pass_items c =
    let l = c.loop-reader in
    let going : GoOn l.reader c.take_end_array.new.self = grind arith in
    let done = c.in_ok-texts.ensures in
    let fault = c.from_residual-in_err-pass_items.ensures in
    record {
      read = IfOk-from_err _ _ fault.0;
      shorter = IfOk-from_err _ _ fault.0;
      err = unread _ _ c.from_residual-in_err-pass_items.result c.in_err-pass_items.field-0.0 fault.1
          (one_read c.args.depth c.args.reader.now l.reader c.take_end_array.new.self
          l.invariant.0 l.invariant.2 going done.read.0 c.entry.new.reader None
          done.read.1 done.shorter) c.in_err-pass_items.ensures.err;
    }

pub returns-in_default-clause-read : goal.returns-in_default-clause-read
returns-in_default-clause-read c =
    let l = c.loop-reader in
    let going : GoOn l.reader c.take_end_array.new.self = grind arith in
    let done = c.in_ok-texts.ensures in
    let d = done.read.0 in
    let passed = c.in_ok-pass_items.ensures.passed in
    let none : EntryIs None d = subst (λ e. EntryIs e d) c.in_default.is done.read.2 in (
      l.invariant.0 (item d passed.0),
      one_read c.args.depth c.args.reader.now l.reader c.take_end_array.new.self l.invariant.0
          l.invariant.2 going d c.entry.new.reader (Some (passed.0, c.pass_items.new.reader))
          done.read.1 done.shorter passed.1,
      none_of l.invariant.0 l.entries.items d passed.0 none l.invariant.1,
    )

pub loop-reader-preserved : goal.loop-reader-preserved
loop-reader-preserved c =
    let l = c.loop-reader in
    let f = l.invariant.0 in
    let going : GoOn l.reader c.take_end_array.new.self = grind arith in
    let done = c.in_ok-texts.ensures in
    let d = done.read.0 in
    let t = c.in-Some.texts in
    let r = c.entry.new.reader in
    let less : length r < length l.reader = rw (← going.1) done.shorter in
    let is : IsEntry d (written t) = subst (λ e. EntryIs e d) c.in-Some.is done.read.2 in (
      (λ ds. f (item d ds)),
      subst (Before (λ ds. f (item d ds))) (sym c.in_ok-push.ensures.items)
          (one_more f l.entries.items t d is l.invariant.1),
      (λ o h. one_read c.args.depth c.args.reader.now l.reader c.take_end_array.new.self f
          l.invariant.2 going d r o done.read.1 done.shorter h),
      omega (arith, l.invariant.3, less),
    )

pub returns-clause-read : goal.returns-clause-read
returns-clause-read c =
    let l = c.loop-reader in
    let r = c.take_end_array.new.self in (
      l.invariant.0 no_items,
      l.invariant.2 (Some (no_items, r))
          (items_close c.args.depth l.reader r (grind arith)),
      all_before l.invariant.0 l.entries l.invariant.1,
    )

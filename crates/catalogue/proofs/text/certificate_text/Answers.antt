use Rattle.std.proofs.Common.{◌≡◌, ◌∙◌, Some, subst, sym}
use Rattle.std.specs.Str.{IsUtf8}
use Rattle.certificate_text.specs.Spelling.{lines, text}
use Rattle.catalogue.proofs.TextLemmas.{certificate_utf8, taken_is}
use Rattle.catalogue.proofs.text.certificate_text.Goals as goal

pub returns-in-Ok : goal.returns-in-Ok
returns-in-Ok c =
    let same : c.bytes.result.now ≡ text (lines c.args.cert.now) =
    taken_is (Some c.new-sink.result.bytes.items) (Some c.write.new.sink.bytes.items)
    c.bytes.result.now (text (lines c.args.cert.now))
    c.new-sink.ensures.taken c.in-Ok.ensures.puts c.bytes.ensures in
    c.in_ok-from_utf8_lossy-in-Ok.ensures.ok
    (subst IsUtf8 (sym same) (certificate_utf8 c.args.cert.now c.in_ranges.ensures.ranges)) ∙ same

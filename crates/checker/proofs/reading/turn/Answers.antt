use Rattle.std.proofs.Common.{sym, ap, ◌∙◌, inl, Err}
use Rattle.checker.proofs.ReadTurns.{opened-text}
use Rattle.checker.proofs.reading.turn.Goals as goal

pub returns-in-Err-Text : goal.returns-in-Err-Text
returns-in-Err-Text g c =
    inl (sym (opened-text c.reading_is_spelling.ensures.takes _
    (c.read.ensures.text (c.in-Err-Text.is ∙ ap Err c.in-Err-Text.field-0-is))))

use denote.Param.Send.{IsSend}
use Rattle.opened.proofs.Handles.{handle_sends}
use Rattle.opened.proofs.Form.{R, form}
use Rattle.opened.proofs.quotient.Quotient.TheSendSync.{the_send as kept}
use Rattle.opened.specs.contracts.handle.Handle.{the_row}

pub send : IsSend the_row
send = handle_sends R form kept

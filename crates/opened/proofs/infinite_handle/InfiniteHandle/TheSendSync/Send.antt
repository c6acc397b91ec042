use denote.Param.Send.{IsSend}
use Rattle.opened.proofs.Handles.{handle_sends}
use Rattle.opened.proofs.InfiniteForm.{R, form}
use Rattle.opened.proofs.infinite.InfiniteQuotient.TheSendSync.{the_send as kept}
use Rattle.opened.specs.contracts.infinite_handle.InfiniteHandle.{the_row}

pub send : IsSend the_row
send = handle_sends R form kept

use Rattle.opened.proofs.Handles.{into_loose_meets}
use Rattle.opened.proofs.Form.{R, form}
use Rattle.opened.specs.contracts.handle.Handle.into_loose.Key.{name as #self}
use Rattle.opened.proofs.handle.Handle.into_loose.Statement.{statement}
use Rattle.opened.proofs.handle.Handle.into_loose.Code as code

pub into_loose_spec : {M : Type 1} → statement M
into_loose_spec 𝓤 𝓛 𝓜 𝓡 wired = into_loose_meets R form 𝓤 𝓛 𝓜 𝓡 #self (code.unfolded 𝓤 𝓛.H 𝓜 𝓡 wired)

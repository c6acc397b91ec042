use Rattle.opened.proofs.Handles.{none_meets}
use Rattle.opened.proofs.InfiniteForm.{R, form}
use Rattle.opened.specs.contracts.infinite_handle.InfiniteHandle.none.Key.{name as #self}
use Rattle.opened.proofs.infinite_handle.InfiniteHandle.none.Statement.{statement}
use Rattle.opened.proofs.infinite_handle.InfiniteHandle.none.Code as code

pub none_spec : {M : Type 1} → statement M
none_spec 𝓤 𝓛 𝓜 𝓡 wired = none_meets R form 𝓤 𝓛 𝓜 𝓡 #self (code.unfolded 𝓤 𝓛.H 𝓜 𝓡 wired)

use Rattle.opened.proofs.Handles.{of_loose_meets}
use Rattle.opened.proofs.InfiniteForm.{R, form}
use Rattle.opened.specs.contracts.infinite_handle.InfiniteHandle.of_loose.Key.{name as #self}
use Rattle.opened.proofs.infinite_handle.InfiniteHandle.of_loose.Statement.{statement}
use Rattle.opened.proofs.infinite_handle.InfiniteHandle.of_loose.Code as code

pub of_loose_spec : {M : Type 1} → statement M
of_loose_spec 𝓤 𝓛 𝓜 𝓡 wired = of_loose_meets R form 𝓤 𝓛 𝓜 𝓡 #self (code.unfolded 𝓤 𝓛.H 𝓜 𝓡 wired)

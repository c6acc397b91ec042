-- What a handle owns: the box at its pointer, or nothing. This project's own.
use base.Fml.{Fml, ftrue}
use denote.RattleType.{RattleType}
use denote.RawPtr.{Ptr}
use Rattle.std.specs.declared.option.Option.{Option}
use Rattle.std.specs.declared.option.Option.TheVariants.{None, Some}
use Rattle.std.specs.declared.alloc.Global.{Global}
use Rattle.std.specs.contracts.impls.GlobalAllocator.TheImpl.{ghosts}
use Rattle.std_alloc.specs.Box.Ownership.{box_owns}

module _ (R : RattleType) (a : Global) (p : Ptr) where
  abbrev pub handle_owns : Option R.Denot → Fml
  handle_owns None = ftrue
  handle_owns (Some x) = box_owns (ghosts.dealloc_token a) R p x

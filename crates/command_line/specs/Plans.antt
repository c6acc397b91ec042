-- Plans whose numbers lie in their ranges. This project's own.
use Rattle.std.specs.Prelude.{⊤, ℕ}
use Rattle.command_line.specs.Numbers.{IsWithin}
use Rattle.command_line.specs.declared.numbers.Quantity.TheVariants.{Limit, Rounds, Heaps, Order, Part, DeepOrder, Last, PartOrder, Furthest, SeriesLast}
use Rattle.requests.specs.declared.plans.Aim.{Aim}
use Rattle.requests.specs.declared.plans.Aim.TheVariants as aim
use Rattle.requests.specs.declared.plans.CatalogueTask.{CatalogueTask}
use Rattle.requests.specs.declared.plans.CatalogueTask.TheVariants as task
use Rattle.requests.specs.declared.plans.Plan.{Plan}
use Rattle.requests.specs.declared.plans.Plan.TheVariants as plan
use Rattle.requests.specs.declared.plans.PartsBounds.{PartsBounds}
use Rattle.requests.specs.declared.plans.SolveBounds.{SolveBounds}

-- each number of a task lies in its range
abbrev pub TaskHasNumbersWithin : CatalogueTask → Type 0
TaskHasNumbersWithin task.Print = ⊤
TaskHasNumbersWithin (task.Table json) = ⊤
TaskHasNumbersWithin task.New = ⊤
TaskHasNumbersWithin (task.Add certificate) = ⊤
TaskHasNumbersWithin (task.NewWith certificate) = ⊤
TaskHasNumbersWithin (task.Get code heaps) = IsWithin Part heaps
TaskHasNumbersWithin task.Salvage = ⊤
TaskHasNumbersWithin task.Migrate = ⊤

-- the number of heaps that are aimed at lies in its range, where one is given, and so does the order
abbrev pub AimsWithin : Aim → ℕ → Type 0
AimsWithin (aim.Whole heaps) order = IsWithin Heaps heaps × IsWithin Order order
AimsWithin aim.Deep order = IsWithin DeepOrder order
AimsWithin aim.Any order = IsWithin DeepOrder order
AimsWithin (aim.Part last) order = IsWithin Last last × IsWithin PartOrder order
AimsWithin aim.Furthest order = IsWithin Furthest order

-- each number of a search lies in its range
abbrev pub AreWithin : SolveBounds → Type 0
AreWithin bounds = IsWithin Limit bounds.limit × IsWithin Rounds bounds.rounds
    × AimsWithin bounds.aim bounds.order

-- each number of a series lies in its range
abbrev pub ArePartsWithin : PartsBounds → Type 0
ArePartsWithin bounds = IsWithin Limit bounds.limit × IsWithin DeepOrder bounds.order
    × IsWithin SeriesLast bounds.heaps

-- each number lies in its range
abbrev pub HasNumbersWithin : Plan → Type 0
HasNumbersWithin (plan.Check file limit) = IsWithin Limit limit
HasNumbersWithin (plan.Verify file limit) = IsWithin Limit limit
HasNumbersWithin (plan.Solve code bounds) = AreWithin bounds
HasNumbersWithin (plan.SolveMany codes bounds) = AreWithin bounds
HasNumbersWithin (plan.SolveLines bounds) = AreWithin bounds
HasNumbersWithin (plan.SolveInfinite code heaps presented) = IsWithin SeriesLast heaps
HasNumbersWithin (plan.Series code bounds) = ArePartsWithin bounds
HasNumbersWithin (plan.Show file limit) = IsWithin Limit limit
HasNumbersWithin (plan.Tail file limit) = IsWithin Limit limit
HasNumbersWithin (plan.Describe file output basis limit) = IsWithin Limit limit
HasNumbersWithin (plan.Play file position limit) = IsWithin Limit limit
HasNumbersWithin (plan.PlayLines file limit) = IsWithin Limit limit
HasNumbersWithin (plan.Wins file position limit) = IsWithin Limit limit
HasNumbersWithin (plan.Value file position limit) = IsWithin Limit limit
HasNumbersWithin (plan.Apart file first second limit) = IsWithin Limit limit
HasNumbersWithin (plan.Compare first second limit) = IsWithin Limit limit
HasNumbersWithin (plan.Certify file limit) = IsWithin Limit limit
HasNumbersWithin (plan.Explain file) = ⊤
HasNumbersWithin (plan.Present text) = ⊤
HasNumbersWithin (plan.Catalogue file asked limit) =
    TaskHasNumbersWithin asked × IsWithin Limit limit
HasNumbersWithin (plan.Desk script) = ⊤
HasNumbersWithin (plan.Infinite file) = ⊤
HasNumbersWithin (plan.ShowInfinite file layout) = ⊤
HasNumbersWithin (plan.PlayInfinite file position) = ⊤
HasNumbersWithin (plan.PlayInfiniteLines file) = ⊤

-- What can be asked of the program, with texts as lists of codes. This project's own.
use Rattle.std.specs.Prelude.{ℕ, Bool, List, Option, map, option_map}
use Rattle.requests.specs.declared.plans.CatalogueTask.{CatalogueTask}
use Rattle.requests.specs.declared.plans.CatalogueTask.TheVariants as task
use Rattle.requests.specs.declared.plans.Layout.{Layout}
use Rattle.requests.specs.declared.plans.Output.{Output}
use Rattle.requests.specs.declared.plans.Plan.{Plan}
use Rattle.requests.specs.declared.plans.Plan.TheVariants as plan
use Rattle.requests.specs.declared.plans.PartsBounds.{PartsBounds}
use Rattle.requests.specs.declared.plans.SolveBounds.{SolveBounds}

-- what is asked of a catalogue
pub data CatalogueRequest : Type 0 where
  Print : CatalogueRequest
  Table : Bool → CatalogueRequest
  New : CatalogueRequest
  Add : List ℕ → CatalogueRequest
  NewWith : List ℕ → CatalogueRequest
  Get : List ℕ → ℕ → CatalogueRequest
  Salvage : CatalogueRequest
  Migrate : CatalogueRequest

-- what is asked of the program
pub data Request : Type 0 where
  Check : Option (List ℕ) → ℕ → Request
  Verify : Option (List ℕ) → ℕ → Request
  Solve : List ℕ → SolveBounds → Request
  SolveMany : List (List ℕ) → SolveBounds → Request
  SolveLines : SolveBounds → Request
  SolveInfinite : List ℕ → ℕ → Bool → Request
  Series : List ℕ → PartsBounds → Request
  Show : Option (List ℕ) → ℕ → Request
  Tail : Option (List ℕ) → ℕ → Request
  Describe : Option (List ℕ) → Output → Bool → ℕ → Request
  Play : Option (List ℕ) → List ℕ → ℕ → Request
  PlayLines : List ℕ → ℕ → Request
  Wins : Option (List ℕ) → List ℕ → ℕ → Request
  Value : Option (List ℕ) → List ℕ → ℕ → Request
  Apart : Option (List ℕ) → List ℕ → List ℕ → ℕ → Request
  Compare : Option (List ℕ) → Option (List ℕ) → ℕ → Request
  Certify : Option (List ℕ) → ℕ → Request
  Explain : Option (List ℕ) → Request
  Present : List ℕ → Request
  Catalogue : List ℕ → CatalogueRequest → ℕ → Request
  Desk : List ℕ → Request
  Infinite : Option (List ℕ) → Request
  ShowInfinite : Option (List ℕ) → Layout → Request
  PlayInfinite : Option (List ℕ) → List ℕ → Request
  PlayInfiniteLines : List ℕ → Request

-- what a task asks for
abbrev pub catalogue_request_of : CatalogueTask → CatalogueRequest
catalogue_request_of task.Print = Print
catalogue_request_of (task.Table json) = Table json
catalogue_request_of task.New = New
catalogue_request_of (task.Add certificate) = Add certificate.now
catalogue_request_of (task.NewWith certificate) = NewWith certificate.now
catalogue_request_of (task.Get code heaps) = Get code.now heaps
catalogue_request_of task.Salvage = Salvage
catalogue_request_of task.Migrate = Migrate

-- what a plan asks for
abbrev pub request_of : Plan → Request
request_of (plan.Check file limit) = Check (option_map (λ f. f.now) file) limit
request_of (plan.Verify file limit) = Verify (option_map (λ f. f.now) file) limit
request_of (plan.Solve code bounds) = Solve code.now bounds
request_of (plan.SolveMany codes bounds) = SolveMany (map (λ c. c.now) codes.items) bounds
request_of (plan.SolveLines bounds) = SolveLines bounds
request_of (plan.SolveInfinite code heaps presented) = SolveInfinite code.now heaps presented
request_of (plan.Series code bounds) = Series code.now bounds
request_of (plan.Show file limit) = Show (option_map (λ f. f.now) file) limit
request_of (plan.Tail file limit) = Tail (option_map (λ f. f.now) file) limit
request_of (plan.Describe file output basis limit) =
    Describe (option_map (λ f. f.now) file) output basis limit
request_of (plan.Play file position limit) =
    Play (option_map (λ f. f.now) file) position.now limit
request_of (plan.PlayLines file limit) = PlayLines file.now limit
request_of (plan.Wins file position limit) =
    Wins (option_map (λ f. f.now) file) position.now limit
request_of (plan.Value file position limit) =
    Value (option_map (λ f. f.now) file) position.now limit
request_of (plan.Apart file first second limit) =
    Apart (option_map (λ f. f.now) file) first.now second.now limit
request_of (plan.Compare first second limit) =
    Compare (option_map (λ f. f.now) first) (option_map (λ f. f.now) second) limit
request_of (plan.Certify file limit) = Certify (option_map (λ f. f.now) file) limit
request_of (plan.Explain file) = Explain (option_map (λ f. f.now) file)
request_of (plan.Present text) = Present text.now
request_of (plan.Catalogue file asked limit) =
    Catalogue file.now (catalogue_request_of asked) limit
request_of (plan.Desk script) = Desk script.now
request_of (plan.Infinite file) = Infinite (option_map (λ f. f.now) file)
request_of (plan.ShowInfinite file layout) = ShowInfinite (option_map (λ f. f.now) file) layout
request_of (plan.PlayInfinite file position) =
    PlayInfinite (option_map (λ f. f.now) file) position.now
request_of (plan.PlayInfiniteLines file) = PlayInfiniteLines file.now

use Rattle.std.proofs.Common.{◌≡◌, ◌≤◌, ◌-◌, ℕ, List}
use Rattle.certificate_text.specs.Reading.{with_front, rising_at}
use Rattle.certificate_lines.proofs.lines.rising.Given as goal

pub record SoFar (limit least : ℕ) (front : List ℕ) (left : ℕ) (bytes all : List ℕ) : Type 0 where
  pub small : least ≤ limit
  pub read : with_front front (rising_at limit left least bytes) ≡ rising_at limit limit 0 all

abbrev pub invariant-loop : goal.invariant-loop
invariant-loop g l =
    SoFar l.limit l.least l.found.items (l.limit - l.counter) l.reader l.initial.reader

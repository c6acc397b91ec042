-- Which stages go on, and which have an answer.
use Rattle.std.proofs.Common.{◌≡◌, ◌<◌, None, false, refl, arith}
use Rattle.checker.specs.Stages.{answered}
use Rattle.check_machine.specs.Turns.{Phase, is_ended, stage_of}
use Rattle.check_machine.specs.Turns.Phase.{Reading, Laws, Keys, Products, Periods, Separating, Heaps, Closing, Elements, Ended}

-- a stage that goes on is one of the nine
pub early : (p : Phase) → is_ended p ≡ false → stage_of p < 9
early Reading e = omega arith
early (Laws l) e = omega arith
early (Keys k) e = omega arith
early (Products p) e = omega arith
early (Periods p) e = omega arith
early (Separating p) e = omega arith
early (Heaps h) e = omega arith
early (Elements x) e = omega arith
early (Closing x) e = omega arith
early (Ended a) e = absurd (cc)

-- it has no answer
pub going-none : (s : Phase) → is_ended s ≡ false → answered s ≡ None
going-none Reading e = refl
going-none (Laws l) e = refl
going-none (Keys l) e = refl
going-none (Products l) e = refl
going-none (Periods l) e = refl
going-none (Separating l) e = refl
going-none (Heaps l) e = refl
going-none (Closing l) e = refl
going-none (Elements l) e = refl
going-none (Ended a) e = absurd (cc)

-- a stage with no answer goes on
pub none-going : (s : Phase) → answered s ≡ None → is_ended s ≡ false
none-going Reading e = refl
none-going (Laws l) e = refl
none-going (Keys l) e = refl
none-going (Products l) e = refl
none-going (Periods l) e = refl
none-going (Separating l) e = refl
none-going (Heaps l) e = refl
none-going (Closing l) e = refl
none-going (Elements l) e = refl
none-going (Ended a) e = absurd (cc)

-- a stage goes on while it stays the same
pub same-going : (s t : Phase) → is_ended s ≡ false → stage_of t ≡ stage_of s → is_ended t ≡ false
same-going s Reading e d = refl
same-going s (Laws l) e d = refl
same-going s (Keys l) e d = refl
same-going s (Products l) e d = refl
same-going s (Periods l) e d = refl
same-going s (Separating l) e d = refl
same-going s (Heaps l) e d = refl
same-going s (Closing l) e d = refl
same-going s (Elements l) e d = refl
same-going s (Ended a) e d = absurd (let l = early s e in omega arith)

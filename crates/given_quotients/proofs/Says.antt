-- What is said, from what was found.
use Rattle.std.proofs.Common.{ℕ, Bool, List, Result, Ok, Err, Vec, inl, inr, subst, sym}
use Rattle.given_quotients.specs.Says.{FindsBy, SaysFound, SaysGiven}

pub says_given : {Q A : Type 0} (Says : Q → List ℕ → Bool → Type 0) (Gives : Q → Type 0) (Refuses : List ℕ → Type 0)
    (found : Result Q (Vec ℕ A)) (text : List ℕ) (succeeds : Bool) → FindsBy Gives Refuses found
    → SaysFound Says found text succeeds → SaysGiven Says Gives Refuses text succeeds
says_given Says Gives Refuses (Ok q) text succeeds found said = inl (q, found, said)
says_given Says Gives Refuses (Err refused) text succeeds found said = inr (subst Refuses (sym said.0) found, said.1)

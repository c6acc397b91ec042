-- Texts that are joined from the left, and from the right.
use Rattle.std.proofs.Common.{◌≡◌, ◌∙◌, ◌++◌, ℕ, List, append_assoc, sym}

joined : (a m b e : List ℕ) → a ++ (m ++ (b ++ e)) ≡ ((a ++ m) ++ b) ++ e
joined a m b e = sym (append_assoc (a ++ m) b e ∙ append_assoc a m (b ++ e))

pub joined_twice : (a m b n c e : List ℕ)
    → a ++ (m ++ (b ++ (n ++ (c ++ e)))) ≡ ((((a ++ m) ++ b) ++ n) ++ c) ++ e
joined_twice a m b n c e = joined a m b (n ++ (c ++ e)) ∙ joined ((a ++ m) ++ b) n c e

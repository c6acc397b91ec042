-- The first member held that some generator hasn't multiplied.
-- By what the first place that passes a test says of those before it.
use Rattle.std.proofs.Common.{◌≡◌, ℕ, zero, suc, ◌<◌, Bool, true, false, cond, not, List, [], ◌∷◌, ◌++◌, length, get_or, set, refl, sym, ap, ◌∙◌, arith, ◌||◌, filter, nat_lt, lt-ltb, le-ltb}
use Rattle.std.specs.List.{list_any}
use Rattle.std.proofs.lemmas.Bool.{or_parts}
use Rattle.std.proofs.lemmas.List.Sums.{position_or_len_is}
use Rattle.std.proofs.lemmas.List.{get_or_append_left, get_or-set_other, length-set}
use Rattle.pair_closure.specs.OverSets.{Held}
use Rattle.transition_algebra.specs.OverSets.{Pair}
use Rattle.transition_algebra.specs.Pairs.{covers}
use Rattle.pair_closure.specs.Turns.{blank_held, first_pending, held_with, NoneBefore}

pub pending_here : (held : List Held) (n at : ℕ) → NoneBefore held n at → at < length held
    → (get_or held at blank_held).by < n → at ≡ first_pending held n
pending_here held n at before l b =
    sym (position_or_len_is (λ m. nat_lt m.by n) held at blank_held (omega arith)
    (λ k h. le-ltb _ _ (before k h (omega arith))) (λ _. lt-ltb _ _ b))

pub pending_none : (held : List Held) (n at : ℕ) → NoneBefore held n at → at ≡ length held
    → at ≡ first_pending held n
pending_none held n at before e =
    sym (position_or_len_is (λ m. nat_lt m.by n) held at blank_held (omega arith)
    (λ k h. le-ltb _ _ (before k h (omega arith))) (λ l. absurd (omega arith)))

-- where x covers none, none is given up
pub filter_none : {A : Type 0} (p : A → Bool) (xs : List A) → list_any p xs ≡ false
    → filter (λ m. not (p m)) xs ≡ xs
filter_none p [] e = refl
filter_none p (x ∷ xs) e = let (a, b) = or_parts (p x) (list_any p xs) e in
    rw (a, filter_none p xs b) refl

-- what stands before the place stays
pub before_write : (held : List Held) (at : ℕ) (m : Held) (k : ℕ) → k < at
    → get_or (set held at m) k blank_held ≡ get_or held k blank_held
before_write held at m k l = get_or-set_other held at k m blank_held (λ e. absurd (omega arith))

pub before_hold : (held : List Held) (at : ℕ) (m : Held) (x : Pair) (place by : ℕ)
    → at < length held → list_any (λ n. covers x n.pair) (set held at m) ≡ false
    → (k : ℕ) → k < at → get_or (held_with (set held at m) x place by) k blank_held
    ≡ get_or held k blank_held
before_hold held at m x place by l e k h =
    ap (λ ys. get_or (ys ++ record { pair = x; place = place; by = by } ∷ []) k blank_held)
    (filter_none (λ n. covers x n.pair) (set held at m) e)
    ∙ get_or_append_left (set held at m) (record { pair = x; place = place; by = by } ∷ [])
    blank_held k (let len = length-set held at m in omega arith)
    ∙ before_write held at m k h

-- What is told of many positions, one after another.
use Rattle.std.proofs.Common.{◌≡◌, ℕ, ◌+◌, ◌<◌, ◌≤◌, ⊎_elim, List, [], ◌∷◌, ◌++◌, length, get_or, sym, ◌∙◌, ap, subst, arith}
use Rattle.std.specs.Prelude.{slice_set}
use Rattle.std.proofs.lemmas.Bool.{cases_lt}
use Rattle.std.proofs.lemmas.List.{get_or-set_same, get_or-set_other, get_or_push, get_or_append_left, length-append, length-set}
use Rattle.player.specs.Many.{TellFirst, TellAll, part}

module _ {A C : Type 0} (Tells : List ℕ → A → C → Type 0) (heaps ends : List ℕ) (c : C) where
  -- the room has an entry for each position, and those of the first are told
  abbrev pub AreFilled : ℕ → List A → Type 0
  AreFilled at told = (length told ≡ length ends) × TellFirst Tells at heaps ends told c

  -- the first positions have an entry each
  abbrev pub AreListed : ℕ → List A → Type 0
  AreListed at told = (length told ≡ at) × TellFirst Tells at heaps ends told c

  -- the next entry is set
  pub fill_next : (at : ℕ) (told : List A) (X : List ℕ) (n : A) → AreFilled at told → at < length ends
      → X ≡ part heaps ends at → Tells X n c → AreFilled (at + 1) (slice_set told at n)
  fill_next at told X n (room, before) inside is here = (
    length-set told at n ∙ room,
    λ i d l. ⊎_elim
        (λ less. subst (λ (v : A). Tells (part heaps ends i) v c)
        (sym (get_or-set_other told at i n d (λ e. absurd (omega (arith, e, less))))) (before i d less))
        (λ not_less. let e : at ≡ i = omega arith in
        subst (λ (k : ℕ). Tells (part heaps ends k) (get_or (slice_set told at n) k d) c) e
        (subst (λ (v : A). Tells (part heaps ends at) v c)
        (sym (get_or-set_same told at n d (omega (arith, room, inside))))
        (subst (λ (Y : List ℕ). Tells Y n c) is here)))
        (cases_lt i at),
  )

  -- the next entry is added
  pub list_next : (at : ℕ) (told more : List A) (X : List ℕ) (n : A) → AreListed at told
      → more ≡ told ++ n ∷ [] → X ≡ part heaps ends at → Tells X n c → AreListed (at + 1) more
  list_next at told more X n (full, before) added is here = subst (AreListed (at + 1)) (sym added) (
    length-append told (n ∷ []) ∙ ap (λ (k : ℕ). k + 1) full,
    λ i d l. ⊎_elim
        (λ less. subst (λ (v : A). Tells (part heaps ends i) v c)
        (sym (get_or_append_left told (n ∷ []) d i (omega (arith, full, less)))) (before i d less))
        (λ not_less. let e : at ≡ i = omega arith in
        subst (λ (k : ℕ). Tells (part heaps ends k) (get_or (told ++ n ∷ []) k d) c) e
        (subst (λ (v : A). Tells (part heaps ends at) v c) (sym (get_or_push told n d at full))
        (subst (λ (Y : List ℕ). Tells Y n c) is here)))
        (cases_lt i at),
  )

  -- those below a number that is none of theirs are all
  pub all_filled : (at : ℕ) (told : List A) → length ends ≤ at → AreFilled at told
      → TellAll Tells heaps ends told c
  all_filled at told past (same, first) = (same, λ i d l. first i d (omega (arith, past, l)))

  pub all_listed : (at : ℕ) (told : List A) → at ≡ length ends → AreListed at told
      → TellAll Tells heaps ends told c
  all_listed at told past (same, first) = (same ∙ past, λ i d l. first i d (omega (arith, past, l)))

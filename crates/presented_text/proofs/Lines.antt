-- The words of the lines: numbers, words of letters, relations and cycles.
use Rattle.std.proofs.Common.{◌≡◌, ◌⊎◌, ℕ, zero, suc, ◌+◌, ◌<◌, ◌≤◌, ◌^◌, false, List, [], ◌∷◌, ◌++◌, length, Option, Some, None, refl, sym, ap, ◌∙◌, append_assoc, inl, inr, arith, codes}
use Rattle.std.specs.Fmt.{decimal}
use Rattle.std.proofs.lemmas.Bool.{ltb-false, le-ltb, lt-leb}
use Rattle.std.proofs.lemmas.Option.{some_pair_parts}
use Rattle.certificate_text.specs.Spelling.{key_word}
use Rattle.certificate_text.specs.Reading.{◌>>=◌, fixed_at, is_digit}
use Rattle.certificate_text.proofs.Numbers.{bind_some, test_none, fixed_takes, fixed_then, fixed_again, number_takes, number_again, behind}
use Rattle.certificate_text.proofs.Fields.{otherwise_some}
use Rattle.relations.specs.Printed.{or_one}
use Rattle.presented_text.specs.Spelled.{powers_text, spelled, IsSpellable}
use Rattle.presented_text.specs.Read.{spelled_at}
use Rattle.presented_text.proofs.Powers.{no_fixed}
use Rattle.presented_text.proofs.WordLaws.{spelled_takes, spelled_again}
use Rattle.presented_text.specs.declared.TheConstants.{LARGEST_CYCLE}
use Rattle.presented_text.specs.Said.{IsHeapWord, IsSpellablePair, IsCycle}
use Rattle.presented_text.specs.Spelling.{heap_word}
use Rattle.presented_text.specs.Reading.{positive_at, heap_word_at, relation_at, cycle_at}
use Rattle.presented_text.proofs.ListLaws.{IsReaderBefore, IsLow}

pub low_digit : (s : ℕ) → s < 48 → is_digit s ≡ false
low_digit s low = rw (lt-leb 48 s low) refl

-- ---- numbers from 1 on

abbrev pub IsPositive : ℕ → ℕ → Type 0
IsPositive limit x = (1 ≤ x) × (x < limit)

positive_takes : (limit : ℕ) → 0 < limit → limit ≤ 2 ^ 16 → (bytes : List ℕ) (x : ℕ) (rest : List ℕ)
    → positive_at limit bytes ≡ Some (x, rest) → (bytes ≡ decimal x ++ rest) × IsPositive limit x
unfolding positive_at
positive_takes limit some small bytes x rest e =
    let number = bind_some e in
    let t = test_none number.2 in
    let nt = number_takes _ _ _ _ some small number.1 in
    let p = some_pair_parts number.0.0 x number.0.1 rest t.1 in
    rw (← p.0) (
      behind (decimal number.0.0) nt.0 p.1,
      (ltb-false _ _ t.0, nt.1),
    )

positive_again : (limit : ℕ) → limit ≤ 2 ^ 16 → (x : ℕ) (bytes : List ℕ) → IsPositive limit x
    → IsLow bytes → positive_at limit (decimal x ++ bytes) ≡ Some (x, bytes)
unfolding positive_at
positive_again limit small x bytes fits low =
    rw (
      low.is,
      number_again limit x low.first low.more fits.1 small (low_digit low.first low.low),
      le-ltb x 1 fits.0,
    ) refl

pub positive_reader : (limit : ℕ) → 0 < limit → limit ≤ 2 ^ 16
    → IsReaderBefore decimal (IsPositive limit) IsLow (positive_at limit)
positive_reader limit some small = record {
  takes = positive_takes limit some small;
  again = positive_again limit small;
}

-- ---- words

pub word_reader : IsReaderBefore spelled IsSpellable IsLow spelled_at
word_reader = record {
  takes = spelled_takes;
  again = λ w bytes fits low. rw low.is (spelled_again w low.first low.more low.low fits);
}

-- a word has no sign in front
starts : (letter : ℕ) (word bytes : List ℕ) → (powers_text letter word ≡ [])
    ⊎ (fixed_at (codes "-") (powers_text letter word ++ bytes) ≡ None)
starts letter [] bytes = inl refl
starts letter (zero ∷ word) bytes = starts (suc letter) word bytes
starts letter (suc zero ∷ word) bytes =
    inr (no_fixed 45 (97 + letter) (powers_text (suc letter) word ++ bytes)
    (λ e. omega (arith, e)))
starts letter (suc (suc k) ∷ word) bytes =
    inr (no_fixed 45 (97 + letter)
    (94 ∷ ((decimal (suc (suc k)) ++ powers_text (suc letter) word) ++ bytes))
    (λ e. omega (arith, e)))

or_starts : (text bytes : List ℕ) → (text ≡ []) ⊎ (fixed_at (codes "-") (text ++ bytes) ≡ None)
    → fixed_at (codes "-") (or_one text ++ bytes) ≡ None
or_starts [] bytes c = no_fixed 45 49 bytes (λ e. omega (arith, e))
or_starts (b ∷ text) bytes (inl e) = absurd (omega (arith, ap (λ (t : List ℕ). length t) e))
or_starts (b ∷ text) bytes (inr none) = none

heap_word_takes : (bytes : List ℕ) (x : Option (List ℕ)) (rest : List ℕ)
    → heap_word_at bytes ≡ Some (x, rest) → (bytes ≡ heap_word x ++ rest) × IsHeapWord x
unfolding heap_word_at
heap_word_takes bytes x rest e =
    elim (otherwise_some (fixed_at (codes "-") bytes) (spelled_at bytes >>= λ w. Some (Some w.0, w.1))
    (λ r. Some (None, r)) (x, rest) e) [
      | inl some ↦
          let w = bind_some some.1 in
          let wt = spelled_takes bytes w.0.0 w.0.1 w.1 in
          let p = some_pair_parts (Some w.0.0) x w.0.1 rest w.2 in
          rw (← p.0) (behind (spelled w.0.0) wt.0 p.1, wt.1)
      | inr none ↦
          let p = some_pair_parts None x none.0 rest none.2 in
          rw (← p.0) (behind (codes "-") (fixed_takes _ _ _ none.1) p.1, tt)
    ]

heap_word_again : (x : Option (List ℕ)) (bytes : List ℕ) → IsHeapWord x → IsLow bytes
    → heap_word_at (heap_word x ++ bytes) ≡ Some (x, bytes)
unfolding heap_word_at
heap_word_again None bytes fits low = rw (fixed_again (codes "-") bytes) refl
heap_word_again (Some w) bytes fits low =
    rw (
      or_starts (powers_text 0 w) bytes (starts 0 w bytes),
      word_reader.again w bytes fits low,
    ) refl

pub heap_word_reader : IsReaderBefore heap_word IsHeapWord IsLow heap_word_at
heap_word_reader = record { takes = heap_word_takes; again = heap_word_again }

-- ---- relations, with the ends of their lines

abbrev pub pair_text : List ℕ × List ℕ → List ℕ
pair_text r = spelled r.0 ++ (32 ∷ (spelled r.1 ++ 10 ∷ []))

pair_then : (r : List ℕ × List ℕ) (rest : List ℕ)
    → pair_text r ++ rest ≡ spelled r.0 ++ (32 ∷ (spelled r.1 ++ 10 ∷ rest))
pair_then r rest =
    append_assoc (spelled r.0) (32 ∷ (spelled r.1 ++ 10 ∷ [])) rest
    ∙ ap (λ (t : List ℕ). spelled r.0 ++ (32 ∷ t)) (append_assoc (spelled r.1) (10 ∷ []) rest)

relation_takes : (bytes : List ℕ) (r : List ℕ × List ℕ) (rest : List ℕ)
    → relation_at bytes ≡ Some (r, rest) → (bytes ≡ pair_text r ++ rest) × IsSpellablePair r
unfolding relation_at
relation_takes bytes r rest e =
    let left = bind_some e in
    let space = fixed_then _ _ left.2 in
    let right = bind_some space.2 in
    let ended = fixed_then _ _ right.2 in
    let lt = spelled_takes _ _ _ left.1 in
    let rt_ = spelled_takes _ _ _ right.1 in
    let p = some_pair_parts (left.0.0, right.0.0) r ended.0 rest ended.2 in
    rw (← p.0) (
      behind (spelled left.0.0) lt.0
          (behind (codes " ") space.1
          (behind (spelled right.0.0) rt_.0 (behind (10 ∷ []) ended.1 p.1)))
          ∙ sym (pair_then (left.0.0, right.0.0) rest),
      (lt.1, rt_.1),
    )

relation_again : (r : List ℕ × List ℕ) (bytes : List ℕ) → IsSpellablePair r → Unit {0}
    → relation_at (pair_text r ++ bytes) ≡ Some (r, bytes)
unfolding relation_at
relation_again r bytes fits any =
    rw (
      pair_then r bytes,
      spelled_again r.0 32 (spelled r.1 ++ 10 ∷ bytes) (omega arith) fits.0,
      fixed_again (codes " ") (spelled r.1 ++ 10 ∷ bytes),
      spelled_again r.1 10 bytes (omega arith) fits.1,
      fixed_again (10 ∷ []) bytes,
    ) refl

pub relation_reader : IsReaderBefore pair_text IsSpellablePair (λ bytes. Unit {0}) relation_at
relation_reader = record { takes = relation_takes; again = relation_again }

-- ---- cycles

cycle_takes : (bytes : List ℕ) (c : ℕ × ℕ) (rest : List ℕ) → cycle_at bytes ≡ Some (c, rest)
    → (bytes ≡ key_word c ++ rest) × IsCycle c
unfolding cycle_at
cycle_takes bytes c rest e =
    let start = bind_some e in
    let colon = fixed_then _ _ start.2 in
    let period = bind_some colon.2 in
    let st = number_takes _ _ _ _ (omega arith) (omega arith) start.1 in
    let pt = positive_takes (LARGEST_CYCLE + 1) (omega arith) (omega arith) _ _ _ period.1 in
    let p = some_pair_parts (start.0.0, period.0.0) c period.0.1 rest period.2 in
    let below : start.0.0 < LARGEST_CYCLE + 1 = st.1 in
    let below_ : period.0.0 < LARGEST_CYCLE + 1 = pt.1.1 in
    rw (← p.0) (
      behind (decimal start.0.0) st.0
          (behind (codes ":") colon.1 (behind (decimal period.0.0) pt.0 p.1))
          ∙ sym (append_assoc (decimal start.0.0) (58 ∷ decimal period.0.0) rest),
      (omega (arith, below), pt.1.0, omega (arith, below_)),
    )

cycle_again : (c : ℕ × ℕ) (bytes : List ℕ) → IsCycle c → IsLow bytes
    → cycle_at (key_word c ++ bytes) ≡ Some (c, bytes)
unfolding cycle_at
cycle_again c bytes fits low =
    rw (
      append_assoc (decimal c.0) (58 ∷ decimal c.1) bytes,
      number_again (LARGEST_CYCLE + 1) c.0 58 (decimal c.1 ++ bytes) (omega (arith, fits.0))
          (omega arith) refl,
      fixed_again (codes ":") (decimal c.1 ++ bytes),
      positive_again (LARGEST_CYCLE + 1) (omega arith) c.1 bytes
          (fits.1, omega (arith, fits.2)) low,
    ) refl

pub cycle_reader : IsReaderBefore key_word IsCycle IsLow cycle_at
cycle_reader = record { takes = cycle_takes; again = cycle_again }

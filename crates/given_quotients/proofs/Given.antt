-- The bytes that are read of a certificate decide as all of its bytes do.
use Rattle.std.proofs.Common.{◌≡◌, ◌≢◌, ◌∙◌, ◌≤◌, ◌<◌, ◌++◌, ℕ, Bool, List, Option, Some, None, Result, Ok, Err, Vec, IfOk, ap, sym, subst, refl, arith, false, length, take, vec_len}
use Rattle.std.specs.Io.KnownBytes.{Consumes, IsAtEnd}
use Rattle.std.proofs.lemmas.List.{append-nil, length-take, take_all, take_at}
use native.Mathlib.Decide.{dec_lt}
use Rattle.misere_theory.specs.Certificates.{Certificate}
use Rattle.certificate_text.specs.Spelling.{Spells}
use Rattle.streams.specs.Files.{BeginsWith, Holds}
use Rattle.answers.specs.ByteVerdicts.{ByteVerdict, IsTrueOf, Holds as HoldsOf}
use Rattle.answers.specs.ByteVerdicts.ByteVerdict.{Yes, Text, No, Outcome, Limit, Memory}
use Rattle.check_machine.specs.Turns.{verdict}
use Rattle.verdict_texts.specs.Streams.{AreKnownAs}
use Rattle.given_quotients.specs.Checks.{Checks, Finds, IsFrontOf, IsYes, Judges, SaysVerdict}
use Rattle.given_quotients.proofs.Lengths.{long_spells_none}

-- ---- what is read

-- What holds of what is read holds of all bytes, if it does so of those that are too many for a text.
pub of_all : (P : List ℕ → Type 0) (bytes front : List ℕ) → front ≡ take 4194305 bytes
    → (4194304 < length front → 4194304 < length bytes → P front → P bytes) → P front → P bytes
of_all P bytes front is longer h = elim (dec_lt 4194305 (length bytes)) [
  | yes long ↦
      let cut = ap length is ∙ length-take 4194305 bytes in
      longer (grind (arith, cut, long)) (omega (arith, long)) h
  | no short ↦ subst P (is ∙ take_all 4194305 bytes (omega (arith, short))) h
]

-- all of the bytes, where they are no more than are read
all_read : (bytes : List ℕ) → length bytes ≤ 4194305 → bytes ≡ take 4194305 bytes
all_read bytes few = sym (take_all 4194305 bytes few)

-- what a file holds whose front this is
pub front_of_file : (files : Option (List ℕ → Option (List ℕ))) (name front : List ℕ)
    → BeginsWith files name 4194305 front → length front ≤ 4194305
    → IsFrontOf (Holds files name) front
front_of_file None name front begins few = (front, tt, all_read front few)
front_of_file (Some files) name front begins few = (begins.0, begins.1, begins.2)

-- what is read of a file, where it is read
pub reads_file : {A E : Type 0} (files : Option (List ℕ → Option (List ℕ))) (name : List ℕ)
    (r : Result (Vec ℕ A) E) → IfOk r (λ v. BeginsWith files name 4194305 v.items)
    → IfOk r (λ v. vec_len v ≤ 4194305) → IfOk r (λ v. IsFrontOf (Holds files name) v.items)
reads_file files name (Ok v) begins few =
    let within : v.len ≤ 4194305 = few in
    front_of_file files name v.items begins (omega (arith, within, v.ok))
reads_file files name (Err e) begins few = tt

-- a stream whose end was reached, or of which one byte too many was read
pub reads_stream : (before after : Option (List ℕ)) (front : List ℕ) → Consumes before after front
    → length front ≤ 4194305 → (length front ≤ 4194304 → IsAtEnd after)
    → IsFrontOf (AreKnownAs before) front
reads_stream None after front consumed few end = (front, tt, all_read front few)
reads_stream (Some bytes) None front consumed few end = absurd consumed
reads_stream (Some bytes) (Some rest) front consumed few end = elim (dec_lt 4194304 (length front)) [
  | yes more ↦
      let full : length front ≡ 4194305 = omega (arith, more, few) in
      (bytes, refl, sym (ap (take 4194305) consumed ∙ take_at front rest 4194305 full))
  | no less ↦
      let none = end (omega (arith, less)) in
      let whole : bytes ≡ front = consumed ∙ ap (λ (r : List ℕ). front ++ r) none ∙ append-nil front in
      (bytes, refl, all_read front few ∙ ap (take 4194305) (sym whole))
]

-- ---- what it decides

-- the one answer that is true of bytes that spell no certificate
only_text : (bytes : List ℕ) (limit : ℕ) (answer : ByteVerdict)
    → ((c : Certificate) → Spells bytes c → ⊥) → HoldsOf bytes limit answer → answer ≢ Memory
    → answer ≡ Text
only_text bytes limit (Yes c) none holds some = absurd (none holds.0 holds.1)
only_text bytes limit Text none holds some = refl
only_text bytes limit (No fault) none holds some = absurd (none holds.0 holds.1)
only_text bytes limit (Outcome code X) none holds some = absurd (none holds.0 holds.1)
only_text bytes limit Limit none holds some = absurd (none holds.0 holds.1)
only_text bytes limit Memory none holds some = absurd (some refl)

-- Verdicts are true and never want of memory.
module _ (laws : (bytes : List ℕ) (limit : ℕ) → IsTrueOf bytes limit (verdict bytes limit)
    × (verdict bytes limit ≢ Memory)
    × ((c d : Certificate) → verdict bytes limit ≡ Yes c → Spells bytes d → c ≡ d)) where
  long_is_text : (bytes : List ℕ) (limit : ℕ) → 4194304 < length bytes → verdict bytes limit ≡ Text
  long_is_text bytes limit long =
      only_text bytes limit (verdict bytes limit) (long_spells_none bytes long)
      (laws bytes limit).0.holds (laws bytes limit).1

  -- the front has the verdict of all
  pub same_verdict : (bytes front : List ℕ) (limit : ℕ) → front ≡ take 4194305 bytes
      → verdict front limit ≡ verdict bytes limit
  same_verdict bytes front limit is =
      of_all (λ (b : List ℕ). verdict front limit ≡ verdict b limit) bytes front is
      (λ long more _. long_is_text front limit long ∙ sym (long_is_text bytes limit more)) refl

  pub yes_all : (bytes front : List ℕ) (limit : ℕ) (c : Certificate)
      → verdict front limit ≡ verdict bytes limit → IsYes front limit c → IsYes bytes limit c
  yes_all bytes front limit c same said =
      let is = sym same ∙ said.1 in (subst (IsTrueOf bytes limit) is (laws bytes limit).0, is)

  pub says_all : (bytes front : List ℕ) (limit : ℕ) (text : List ℕ) (accepted : Bool)
      → verdict front limit ≡ verdict bytes limit → SaysVerdict front limit text accepted
      → SaysVerdict bytes limit text accepted
  says_all bytes front limit text accepted same said = (
    record {
      answer = said.0.answer;
      text = said.0.text;
      true_of = subst (IsTrueOf bytes limit) (sym (said.0.decided ∙ same)) (laws bytes limit).0;
      decided = said.0.decided ∙ same;
      told = said.0.told;
    },
    said.1,
    said.2,
  )

  -- what is said of the front is said of all
  pub checks_all : (Are : List ℕ → Type 0) (front : List ℕ) (limit : ℕ) (text : List ℕ)
      (accepted : Bool) → IsFrontOf Are front → SaysVerdict front limit text accepted
      → Checks Are limit text accepted
  checks_all Are front limit text accepted (bytes, are, is) said =
      (bytes, are, says_all bytes front limit text accepted (same_verdict bytes front limit is) said)

  -- what is found by the front is found by all
  pub finds_all : {A : Type 0} (Are : List ℕ → Type 0) (front : List ℕ) (limit : ℕ)
      (q : Result Certificate (Vec ℕ A)) → IsFrontOf Are front → Judges front limit q
      → Finds Are limit q
  finds_all Are front limit (Ok c) (bytes, are, is) judged =
      (bytes, are, yes_all bytes front limit c (same_verdict bytes front limit is) judged)
  finds_all Are front limit (Err text) given judged =
      checks_all Are front limit text.items false given judged

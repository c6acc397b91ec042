-- What was said between a search and a proposer. This project's own.
use Rattle.std.specs.Prelude.{◌≡◌, ℕ, refl, List, [], ◌∷◌, ◌⊎◌, slice_index_or}
use mathlib.Core.Logic.{inl, inr}
use Rattle.std.specs.Coded.{Coded, code_by, coded×, coded⊎, coded_ℕ, coded_list}
use Rattle.misere_theory.specs.Certificates.{Certificate}
use Rattle.misere_theory.specs.Verdicts.{fault_number}
use Rattle.misere_theory.specs.Verdicts.Fault.{Law, Word, Order, Period, Apart}
use Rattle.answers.specs.ByteVerdicts.{ByteVerdict}
use Rattle.answers.specs.ByteVerdicts.ByteVerdict.{Yes, Text, No, Outcome, Limit, Memory}

-- It was asked, and gave this draft, or none, or memory was wanting; or it was told this refusal.
pub data Event : Type 0 where
  Gave : List ℕ → Event
  Silent : Event
  Wanting : Event
  Told : ByteVerdict → Event

-- all that was said to a proposer, the latest first
abbrev pub Events : Type 0
Events = List Event

abbrev Numbers : Type 0
Numbers = List ℕ

abbrev coded_numbers : Coded Numbers
coded_numbers = coded_list coded_ℕ

-- a certificate is stored as its fields
abbrev Fields : Type 0
Fields = Numbers × (ℕ × (ℕ × (ℕ × (Numbers × (Numbers × (List (ℕ × ℕ) × (List Numbers × Numbers)))))))

abbrev coded_certificate : Coded Certificate
coded_certificate =
    code_by Fields
    (coded× coded_numbers (coded× coded_ℕ (coded× coded_ℕ (coded× coded_ℕ (coded× coded_numbers
    (coded× coded_numbers (coded× (coded_list (coded× coded_ℕ coded_ℕ))
    (coded× (coded_list coded_numbers) coded_numbers))))))))
    (λ c. (c.code, (c.order, (c.start, (c.period, (c.phi, (c.portion, (c.words, (c.rows, c.apart)))))))))
    (λ f. record {
      code = f.0;
      order = f.1.0;
      start = f.1.1.0;
      period = f.1.1.1.0;
      phi = f.1.1.1.1.0;
      portion = f.1.1.1.1.1.0;
      words = f.1.1.1.1.1.1.0;
      rows = f.1.1.1.1.1.1.1.0;
      apart = f.1.1.1.1.1.1.1.1;
    }) (λ _. refl)

abbrev AnswerSum : Type 0
AnswerSum = (Certificate ⊎ (Numbers × Numbers)) ⊎ ℕ

abbrev sum_of_answer : ByteVerdict → AnswerSum
sum_of_answer (Yes c) = inl (inl c)
sum_of_answer (Outcome code X) = inl (inr (code, X))
sum_of_answer Text = inr 0
sum_of_answer Limit = inr 1
sum_of_answer (No fault) = inr (fault_number fault)
sum_of_answer Memory = inr 7

abbrev numbered : ℕ → ByteVerdict
numbered n = slice_index_or (Text ∷ Limit ∷ No Law ∷ No Word ∷ No Order ∷ No Period ∷ No Apart ∷ []) n Memory

abbrev answer_of_sum : AnswerSum → ByteVerdict
answer_of_sum (inl (inl c)) = Yes c
answer_of_sum (inl (inr o)) = Outcome o.0 o.1
answer_of_sum (inr n) = numbered n

pub answer_back : (a : ByteVerdict) → answer_of_sum (sum_of_answer a) ≡ a
answer_back (Yes c) = refl
answer_back (Outcome code X) = refl
answer_back Text = refl
answer_back (No Law) = refl
answer_back (No Word) = refl
answer_back (No Order) = refl
answer_back (No Period) = refl
answer_back (No Apart) = refl
answer_back Limit = refl
answer_back Memory = refl

abbrev coded_answer : Coded ByteVerdict
coded_answer =
    code_by AnswerSum (coded⊎ (coded⊎ coded_certificate (coded× coded_numbers coded_numbers)) coded_ℕ) sum_of_answer
    answer_of_sum answer_back

abbrev EventSum : Type 0
EventSum = (Numbers ⊎ ByteVerdict) ⊎ ℕ

abbrev sum_of_event : Event → EventSum
sum_of_event (Gave draft) = inl (inl draft)
sum_of_event (Told a) = inl (inr a)
sum_of_event Silent = inr 0
sum_of_event Wanting = inr 1

abbrev event_at : ℕ → Event
event_at n = slice_index_or (Silent ∷ []) n Wanting

abbrev event_of_sum : EventSum → Event
event_of_sum (inl (inl draft)) = Gave draft
event_of_sum (inl (inr a)) = Told a
event_of_sum (inr n) = event_at n

pub event_back : (e : Event) → event_of_sum (sum_of_event e) ≡ e
event_back (Gave draft) = refl
event_back (Told a) = refl
event_back Silent = refl
event_back Wanting = refl

abbrev coded_event : Coded Event
coded_event = code_by EventSum (coded⊎ (coded⊎ coded_numbers coded_answer) coded_ℕ) sum_of_event event_of_sum event_back

-- so are the events of a history
abbrev pub coded_events : Coded Events
coded_events = coded_list coded_event

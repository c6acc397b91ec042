-- What a line spells, and when it spells nothing.
use Rattle.std.proofs.Common.{◌≡◌, ◌≢◌, ◌≤◌, ◌<◌, ◌∙◌, ℕ, List, Result, Err, ap, arith, codes, decimal, subst, sym}
use Rattle.desk.specs.declared.step.TheConstants.{LARGEST_CLIENT, LARGEST_JOB}
use Rattle.desk.specs.Steps.{IsFileName, IsJob, IsPosition, Lacks, Spells, SpellsPosition, SpellsTail, Step, client_of, spaced, word_of}
use Rattle.desk.specs.Steps.Step.{Open, Work, Drop, Ask, Play}
use Rattle.desk.proofs.Cuts.{cut_once, decimal_lacks, head_apart, three, four}

pub no_limit : (tail front back : List ℕ) → tail ≡ spaced front back → Lacks 32 front
    → ((n : ℕ) → 0 ≤ n → n ≤ 4294967295 → back ≢ decimal n)
    → (file : List ℕ) (limit : ℕ) → IsFileName file → limit < 4294967296
    → tail ≢ spaced file (decimal limit)
no_limit tail front back is lacks none file limit name small e =
    none limit (omega arith) (omega (arith, small))
    (cut_once 32 front file back (decimal limit) lacks name.1 (sym is ∙ e)).1

job_parts : (front back text : List ℕ) (job : ℕ) → Lacks 32 front → IsJob job
    → spaced front back ≡ spaced (decimal job) text
    → (front ≡ decimal job) × (back ≡ text)
job_parts front back text job lacks is e =
    let small : job ≤ LARGEST_JOB = is.1 in
    cut_once 32 front (decimal job) back text lacks (decimal_lacks job (omega (arith, small))) e

pub no_job : (tail front back : List ℕ) → tail ≡ spaced front back → Lacks 32 front
    → ((n : ℕ) → IsJob n → front ≢ decimal n)
    → (job units : ℕ) → IsJob job → units < 18446744073709551616
    → tail ≢ spaced (decimal job) (decimal units)
no_job tail front back is lacks none job units j small e =
    none job j (job_parts front back (decimal units) job lacks j (sym is ∙ e)).0

pub no_units : (tail front back : List ℕ) → tail ≡ spaced front back → Lacks 32 front
    → ((n : ℕ) → 0 ≤ n → n ≤ 18446744073709551615 → back ≢ decimal n)
    → (job units : ℕ) → IsJob job → units < 18446744073709551616
    → tail ≢ spaced (decimal job) (decimal units)
no_units tail front back is lacks none job units j small e =
    none units (omega arith) (omega (arith, small))
    (job_parts front back (decimal units) job lacks j (sym is ∙ e)).1

pub no_job_to_ask : (tail front back : List ℕ) → tail ≡ spaced front back → Lacks 32 front
    → ((n : ℕ) → IsJob n → front ≢ decimal n)
    → (job : ℕ) (position : List ℕ) → SpellsPosition tail job position → ⊥
no_job_to_ask tail front back is lacks none job position s =
    none job s.0 (job_parts front back s.1.0 job lacks s.0 (sym is ∙ s.1.2)).0

pub no_position : (tail front back : List ℕ) → tail ≡ spaced front back → Lacks 32 front
    → ((position : List ℕ) → IsPosition back position → ⊥)
    → (job : ℕ) (position : List ℕ) → SpellsPosition tail job position → ⊥
no_position tail front back is lacks none job position s =
    let same = (job_parts front back s.1.0 job lacks s.0 (sym is ∙ s.1.2)).1 in
    none position (subst (λ t. IsPosition t position) (sym same) s.1.1)

word_lacks : (step : Step) → Lacks 32 (word_of step)
word_lacks (Open client file limit) =
    four 111 112 101 110 (omega arith) (omega arith) (omega arith) (omega arith)
word_lacks (Work client job units) =
    four 119 111 114 107 (omega arith) (omega arith) (omega arith) (omega arith)
word_lacks (Drop client job) =
    four 100 114 111 112 (omega arith) (omega arith) (omega arith) (omega arith)
word_lacks (Ask client job position) = three 97 115 107 (omega arith) (omega arith) (omega arith)
word_lacks (Play client job position) =
    four 112 108 97 121 (omega arith) (omega arith) (omega arith) (omega arith)

-- how a line that is cut twice begins, where it spells a step
pub heads : (line word rest : List ℕ) (step : Step) → line ≡ spaced word rest → Lacks 32 word
    → (s : Spells line step)
    → (word_of step ≡ word) × (rest ≡ spaced (decimal (client_of step)) s.tail)
heads line word rest step is lacks s =
    let r = cut_once 32 (word_of step) word (spaced (decimal (client_of step)) s.tail) rest
    (word_lacks step) lacks (sym s.line_is ∙ is) in
    (r.0, sym r.1)

pub clients : (line word rest client tail : List ℕ) (step : Step) → line ≡ spaced word rest
    → Lacks 32 word → rest ≡ spaced client tail → Lacks 32 client
    → (s : Spells line step) → (client ≡ decimal (client_of step)) × (s.tail ≡ tail)
clients line word rest client tail step is lacks rest_is lacks_too s =
    let small : client_of step ≤ LARGEST_CLIENT = s.client.1 in
    let r =
    cut_once 32 (decimal (client_of step)) client s.tail tail
    (decimal_lacks (client_of step) (omega (arith, small))) lacks_too
    (sym (heads line word rest step is lacks s).1 ∙ rest_is) in
    (sym r.0, r.1)

pub no_ask : (tail word : List ℕ) → word ≡ codes "ask"
    → ((job : ℕ) (position : List ℕ) → SpellsPosition tail job position → ⊥)
    → (step : Step) → word_of step ≡ word → SpellsTail tail step → ⊥
no_ask tail word is none (Open client file limit) w s =
    absurd (omega (arith, (head_apart 111 97 _ _ (w ∙ is)).0))
no_ask tail word is none (Work client job units) w s =
    absurd (omega (arith, (head_apart 119 97 _ _ (w ∙ is)).0))
no_ask tail word is none (Drop client job) w s =
    absurd (omega (arith, (head_apart 100 97 _ _ (w ∙ is)).0))
no_ask tail word is none (Ask client job position) w s = none job position s
no_ask tail word is none (Play client job position) w s =
    absurd (omega (arith, (head_apart 112 97 _ _ (w ∙ is)).0))

pub no_play : (tail word : List ℕ) → word ≡ codes "play"
    → ((job : ℕ) (position : List ℕ) → SpellsPosition tail job position → ⊥)
    → (step : Step) → word_of step ≡ word → SpellsTail tail step → ⊥
no_play tail word is none (Open client file limit) w s =
    absurd (omega (arith, (head_apart 111 112 _ _ (w ∙ is)).0))
no_play tail word is none (Work client job units) w s =
    absurd (omega (arith, (head_apart 119 112 _ _ (w ∙ is)).0))
no_play tail word is none (Drop client job) w s =
    absurd (omega (arith, (head_apart 100 112 _ _ (w ∙ is)).0))
no_play tail word is none (Ask client job position) w s =
    absurd (omega (arith, (head_apart 97 112 _ _ (w ∙ is)).0))
no_play tail word is none (Play client job position) w s = none job position s

-- the same fault, whatever was to be answered
pub same_fault : {A B E : Type 0} (x y : E) → (let r : Result A E = Err x in r ≡ Err y)
    → (let r : Result B E = Err x in r ≡ Err y)
same_fault x y e = let same : x ≡ y = cc in ap Err same

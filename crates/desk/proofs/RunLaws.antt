-- What one client sees of a run depends on its own calls alone.
-- A step of its own gives one reply and one state of its jobs; a step of another changes none.
use Rattle.std.proofs.Common.{◌≡◌, ℕ, ◌==◌, true, false, if◌then◌else◌, List, [], ◌∷◌, Option, Some, None, refl, sym, ◌∙◌, ap, subst, inl, inr, arith, suc}
use Rattle.std.proofs.lemmas.Bool.{eq-eqb}
use Rattle.std.proofs.lemmas.Bool.Decides.{eqb_tells}
use Rattle.misere_theory.proofs.Outcomes.{not_both}
use Rattle.positions.specs.Outcomes.{HasOutcome}
use Rattle.positions.specs.declared.outcome.Outcome.{Outcome as PositionOutcome}
use Rattle.positions.specs.declared.outcome.Outcome.TheVariants.{P, N}
use Rattle.answers.specs.ByteVerdicts.{ByteVerdict}
use Rattle.answers.specs.ByteVerdicts.ByteVerdict.{Yes}
use Rattle.checker.specs.JobViews.{JobView}
use Rattle.player.specs.Answers.{IsRightAnswer}
use Rattle.player.specs.declared.answering.Answer.{Answer as PlayAnswer}
use Rattle.desk.specs.Machine.{Jobs, State, Event, Call, Reply, Step, AmpleStep, Serves, Refuses, RunsOut, Opens, Works, Drops, Asks, Plays, OutcomeReplies, AnswerReplies, work_reply, worked, with_jobs, least_free}
use Rattle.desk.specs.Machine.Event.{Open, Work, Drop, Ask, Play}
use Rattle.desk.specs.Machine.Reply.{OutcomeIs, AnswerIs}
use Rattle.desk.specs.Runs.{Run, AmpleRun, calls_of, replies_to, is_nine, is_refused, HasNoNine}
use Rattle.desk.proofs.Steps.{with_same}

-- a position has one outcome
outcome_one : (code X : List ℕ) (p q : PositionOutcome) → HasOutcome code X p → HasOutcome code X q → p ≡ q
outcome_one code X P P f g = refl
outcome_one code X N N f g = refl
outcome_one code X P N f g = absurd (not_both f g)
outcome_one code X N P f g = absurd (not_both g f)

outcome_replies_one : (e : Option ByteVerdict) (X : List ℕ) (a b : Reply) → OutcomeReplies e X a → OutcomeReplies e X b
    → a ≡ b
outcome_replies_one (Some (Yes c)) X a b (inl (p, f)) (inl (q, g)) =
    f.1 ∙ (ap OutcomeIs (outcome_one c.code X f.0 g.0 f.2 g.2) ∙ sym g.1)
outcome_replies_one (Some (Yes c)) X a b (inl (p, f)) (inr g) = absurd (g.1 p)
outcome_replies_one (Some (Yes c)) X a b (inr f) (inl (q, g)) = absurd (f.1 q)
outcome_replies_one (Some (Yes c)) X a b (inr f) (inr g) = f.2 ∙ sym g.2
outcome_replies_one other X a b f g = f ∙ sym g

opens_one : (old : Jobs) (bytes : List ℕ) (limit : ℕ) (o : Option ℕ) (a b : Reply) (m n : Jobs)
    → Opens old bytes limit o a m → Opens old bytes limit o b n → (a ≡ b) × (m ≡ n)
opens_one old bytes limit (Some j) a b m n f g = (f.0 ∙ sym g.0, f.1 ∙ sym g.1)
opens_one old bytes limit None a b m n f g = (f.0 ∙ sym g.0, f.1 ∙ sym g.1)

drops_one : (old : Jobs) (j : ℕ) (o : Option JobView) (a b : Reply) (m n : Jobs) → Drops old j o a m
    → Drops old j o b n → (a ≡ b) × (m ≡ n)
drops_one old j (Some job) a b m n f g = (f.0 ∙ sym g.0, f.1 ∙ sym g.1)
drops_one old j None a b m n f g = (f.0 ∙ sym g.0, f.1 ∙ sym g.1)

asks_one : (old : Jobs) (X : List ℕ) (o : Option JobView) (a b : Reply) (m n : Jobs)
    → Asks old X o a m → Asks old X o b n → (a ≡ b) × (m ≡ n)
asks_one old X (Some job) a b m n f g = (outcome_replies_one job.ended X a b f.0 g.0, f.1 ∙ sym g.1)
asks_one old X None a b m n f g = (f.0 ∙ sym g.0, f.1 ∙ sym g.1)

none_head : (reply : Reply) (replies : List Reply) → HasNoNine (reply ∷ replies)
    → is_nine reply ≡ false
none_head reply replies free = free 0 reply (omega arith)

none_tail : (reply : Reply) (replies : List Reply) → HasNoNine (reply ∷ replies) → HasNoNine replies
none_tail reply replies free = λ k d below. free (suc k) d (omega arith)

reply_done : (e : Option ByteVerdict) → is_refused (work_reply e) ≡ false
reply_done None = refl
reply_done (Some a) = refl

here_now : (s : State) (client : ℕ) (jobs : Jobs) → with_jobs s client jobs client ≡ jobs
here_now s client jobs = ap (λ b. if b then jobs else s client) (eq-eqb client client refl)

others_stay : (s : State) (client other : ℕ) (jobs : Jobs) → (client == other) ≡ false
    → with_jobs s client jobs other ≡ s other
others_stay s client other jobs e = ap (λ b. if b then jobs else s other) e

-- right answers are one
module _ (right_one : (code X : List ℕ) (a b : PlayAnswer) → IsRightAnswer code X a
    → IsRightAnswer code X b → a ≡ b)
    (cost : List ℕ → ℕ → ℕ) (verdict : List ℕ → ℕ → ByteVerdict) where
  answer_replies_one : (e : Option ByteVerdict) (X : List ℕ) (a b : Reply) → AnswerReplies e X a → AnswerReplies e X b
      → a ≡ b
  answer_replies_one (Some (Yes c)) X a b (inl (p, f)) (inl (q, g)) =
      f.1 ∙ (ap AnswerIs (right_one c.code X f.0 g.0 f.2 g.2) ∙ sym g.1)
  answer_replies_one (Some (Yes c)) X a b (inl (p, f)) (inr g) = absurd (g.1 p)
  answer_replies_one (Some (Yes c)) X a b (inr f) (inl (q, g)) = absurd (f.1 q)
  answer_replies_one (Some (Yes c)) X a b (inr f) (inr g) = f.2 ∙ sym g.2
  answer_replies_one other X a b f g = f ∙ sym g

  plays_one : (old : Jobs) (X : List ℕ) (o : Option JobView) (a b : Reply) (m n : Jobs)
      → Plays old X o a m → Plays old X o b n → (a ≡ b) × (m ≡ n)
  plays_one old X (Some job) a b m n f g = (answer_replies_one job.ended X a b f.0 g.0, f.1 ∙ sym g.1)
  plays_one old X None a b m n f g = (f.0 ∙ sym g.0, f.1 ∙ sym g.1)

  works_one : (old : Jobs) (j u : ℕ) (o : Option JobView) (a b : Reply) (m n : Jobs)
      → Works cost verdict old j u o a m → Works cost verdict old j u o b n → (a ≡ b) × (m ≡ n)
  works_one old j u (Some job) a b m n f g = (f.0 ∙ sym g.0, f.1 ∙ sym g.1)
  works_one old j u None a b m n f g = (f.0 ∙ sym g.0, f.1 ∙ sym g.1)

  serves_one : (old : Jobs) (e : Event) (a b : Reply) (m n : Jobs) → Serves cost verdict old e a m
      → Serves cost verdict old e b n → (a ≡ b) × (m ≡ n)
  serves_one old (Open bytes limit) a b m n f g =
      opens_one old bytes limit (least_free old) a b m n f g
  serves_one old (Work j u) a b m n f g = works_one old j u (old j) a b m n f g
  serves_one old (Drop j) a b m n f g = drops_one old j (old j) a b m n f g
  serves_one old (Ask j X) a b m n f g = asks_one old X (old j) a b m n f g
  serves_one old (Play j X) a b m n f g = plays_one old X (old j) a b m n f g

  runs_out_nine : (state : State) (old : Jobs) (j u : ℕ) (o : Option JobView) (a : Reply) (m : Jobs)
      → RunsOut cost verdict state old j u o a m → is_nine a ≡ true
  runs_out_nine state old j u (Some job) a m f = ap is_nine f.3
  runs_out_nine state old j u None a m f = absurd f

  refuses_nine : (state : State) (old : Jobs) (e : Event) (a : Reply) (m : Jobs)
      → Refuses cost verdict state old e a m → is_nine a ≡ true
  refuses_nine state old (Open bytes limit) a m f = ap is_nine f.2
  refuses_nine state old (Work j u) a m f = runs_out_nine state old j u (old j) a m f
  refuses_nine state old (Drop j) a m f = absurd f
  refuses_nine state old (Ask j X) a m f = absurd f
  refuses_nine state old (Play j X) a m f = absurd f

  -- where memory isn't wanting, a step is one where it is refused to nobody
  ample : (old new : State) (call : Call) (reply : Reply) → is_nine reply ≡ false
      → Step cost verdict old call reply new → AmpleStep cost verdict old call reply new
  ample old new call reply free step =
      elim step.1 [
        | inl serves ↦ (step.0, serves, step.2)
        | inr refuses ↦
            let nine : is_nine reply ≡ true =
            refuses_nine old (old call.client) call.event reply step.0 refuses in
            absurd (cc)
      ]

  pub own_step : (old new other next : State) (call : Call) (a b : Reply)
      → Step cost verdict old call a new → Step cost verdict other call b next
      → old call.client ≡ other call.client → is_nine a ≡ false → is_nine b ≡ false
      → (a ≡ b) × (new call.client ≡ next call.client)
  own_step old new other next call a b s t same free_a free_b =
      let f = ample old new call a free_a s in
      let g = ample other next call b free_b t in
      let one =
      serves_one (other call.client) call.event a b f.0 g.0
      (subst (λ (mine : Jobs). Serves cost verdict mine call.event a f.0) same f.1) g.1 in (
        one.0,
        ap (λ (state : State). state call.client) f.2
            ∙ (here_now old call.client f.0
            ∙ (one.1
            ∙ (sym (here_now other call.client g.0)
            ∙ sym (ap (λ (state : State). state call.client) g.2)))),
      )

  -- what isn't done changes no job
  opens_kept : (old : Jobs) (bytes : List ℕ) (limit : ℕ) (o : Option ℕ) (a : Reply) (m : Jobs)
      → Opens old bytes limit o a m → is_refused a ≡ true → m ≡ old
  opens_kept old bytes limit (Some j) a m f undone = let done : is_refused a ≡ false =
      ap is_refused f.0 in absurd (cc)
  opens_kept old bytes limit None a m f undone = f.1

  drops_kept : (old : Jobs) (j : ℕ) (o : Option JobView) (a : Reply) (m : Jobs) → Drops old j o a m
      → is_refused a ≡ true → m ≡ old
  drops_kept old j (Some job) a m f undone = let done : is_refused a ≡ false = ap is_refused f.0 in
      absurd (cc)
  drops_kept old j None a m f undone = f.1

  works_kept : (old : Jobs) (j u : ℕ) (o : Option JobView) (a : Reply) (m : Jobs)
      → Works cost verdict old j u o a m → is_refused a ≡ true → m ≡ old
  works_kept old j u (Some job) a m f undone =
      let done : is_refused a ≡ false =
      ap is_refused f.0 ∙ reply_done (worked cost verdict job u).ended in
      absurd (cc)
  works_kept old j u None a m f undone = f.1

  asks_kept : (old : Jobs) (X : List ℕ) (o : Option JobView) (a : Reply) (m : Jobs)
      → Asks old X o a m → m ≡ old
  asks_kept old X (Some job) a m f = f.1
  asks_kept old X None a m f = f.1

  plays_kept : (old : Jobs) (X : List ℕ) (o : Option JobView) (a : Reply) (m : Jobs)
      → Plays old X o a m → m ≡ old
  plays_kept old X (Some job) a m f = f.1
  plays_kept old X None a m f = f.1

  serves_kept : (old : Jobs) (e : Event) (a : Reply) (m : Jobs) → Serves cost verdict old e a m
      → is_refused a ≡ true → m ≡ old
  serves_kept old (Open bytes limit) a m f undone =
      opens_kept old bytes limit (least_free old) a m f undone
  serves_kept old (Work j u) a m f undone = works_kept old j u (old j) a m f undone
  serves_kept old (Drop j) a m f undone = drops_kept old j (old j) a m f undone
  serves_kept old (Ask j X) a m f undone = asks_kept old X (old j) a m f
  serves_kept old (Play j X) a m f undone = plays_kept old X (old j) a m f

  runs_out_kept : (state : State) (old : Jobs) (j u : ℕ) (o : Option JobView) (a : Reply) (m : Jobs)
      → RunsOut cost verdict state old j u o a m → is_refused a ≡ true → m ≡ old
  runs_out_kept state old j u (Some job) a m f undone = let done : is_refused a ≡ false =
      ap is_refused f.3 in absurd (cc)
  runs_out_kept state old j u None a m f undone = absurd f

  refuses_kept : (state : State) (old : Jobs) (e : Event) (a : Reply) (m : Jobs)
      → Refuses cost verdict state old e a m → is_refused a ≡ true → m ≡ old
  refuses_kept state old (Open bytes limit) a m f undone = f.3
  refuses_kept state old (Work j u) a m f undone = runs_out_kept state old j u (old j) a m f undone
  refuses_kept state old (Drop j) a m f undone = absurd f
  refuses_kept state old (Ask j X) a m f undone = absurd f
  refuses_kept state old (Play j X) a m f undone = absurd f

  pub refused_step : (old new : State) (call : Call) (reply : Reply)
      → Step cost verdict old call reply new → is_refused reply ≡ true → new ≡ old
  refused_step old new call reply step undone =
      let kept : step.0 ≡ old call.client = elim step.1 [
        | inl serves ↦ serves_kept (old call.client) call.event reply step.0 serves undone
        | inr refuses ↦ refuses_kept old (old call.client) call.event reply step.0 refuses undone
      ] in
      step.2 ∙ (ap (λ jobs. with_jobs old call.client jobs) kept ∙ sym (with_same old call.client))

  -- two ample runs of the same calls give the same replies
  pub runs_one : (calls : List Call) (a b : List Reply) (old s t : State)
      → Run (AmpleStep cost verdict) old calls a s → Run (AmpleStep cost verdict) old calls b t
      → a ≡ b
  runs_one [] [] [] old s t f g = refl
  runs_one [] (x ∷ a) b old s t f g = absurd f
  runs_one [] [] (y ∷ b) old s t f g = absurd g
  runs_one (call ∷ calls) [] b old s t f g = absurd f
  runs_one (call ∷ calls) (x ∷ a) [] old s t f g = absurd g
  runs_one (call ∷ calls) (x ∷ a) (y ∷ b) old s t f g =
      let one = serves_one (old call.client) call.event x y f.1.0 g.1.0 f.1.1 g.1.1 in
      let mids : f.0 ≡ g.0 = f.1.2 ∙ (ap (λ jobs. with_jobs old call.client jobs) one.1 ∙ sym g.1.2)
      in
      let P : State → Type 0 = λ mid. Run (AmpleStep cost verdict) mid calls a s in
      let rest : a ≡ b = runs_one calls a b g.0 s t (subst P mids f.2) g.2 in
      ap (λ r. r ∷ a) one.0 ∙ ap (λ l. y ∷ l) rest

  -- the jobs of a client, after a step of any client, are those that the same step leaves where the
  -- client's jobs were the same
  own_after : (s t mid : State) (client other : ℕ) (jobs : Jobs) → mid ≡ with_jobs s client jobs
      → s other ≡ t other → mid other ≡ with_jobs t client jobs other
  own_after s t mid client other jobs is e =
      ap (λ (state : State). state other) is
      ∙ ap (λ mine. if client == other then jobs else mine) e

  pub alone_from : (calls : List Call) (replies : List Reply) (old alone end : State) (client : ℕ)
      → old client ≡ alone client
      → Run (Step cost verdict) old calls replies end → HasNoNine (replies_to client calls replies)
      → AmpleRun cost verdict alone (calls_of client calls) (replies_to client calls replies)
  alone_from [] [] old alone end client same run free = (alone, refl)
  alone_from [] (reply ∷ replies) old alone end client same run free = absurd run
  alone_from (call ∷ calls) [] old alone end client same run free = absurd run
  alone_from (call ∷ calls) (reply ∷ replies) old alone end client same run free =
      elim (eqb_tells call.client client) [
        | inl (e, is) ↦
            let none : HasNoNine (reply ∷ replies_to client calls replies) = rw e at free in
            let here : old call.client ≡ alone call.client =
            subst (λ (c : ℕ). old c ≡ alone c) (sym is) same in
            let step =
            ample old run.0 call reply (none_head reply (replies_to client calls replies) none) run.1
            in
            let next : State = with_jobs alone call.client step.0 in
            let rest =
            alone_from calls replies run.0 next end client
            (own_after old alone run.0 call.client client step.0 step.2 same) run.2
            (none_tail reply (replies_to client calls replies) none) in
            let served = subst (λ (mine : Jobs). Serves cost verdict mine call.event reply step.0) here
            step.1 in
            rw e (rest.0, (next, (step.0, served, refl), rest.1))
        | inr (e, _) ↦
            rw e
            (alone_from calls replies run.0 alone end client
            (ap (λ s. s client) run.1.2 ∙ (others_stay old call.client client run.1.0 e ∙ same))
            run.2 (rw e at free))
      ]

-- How a round goes on from place to place.
use Rattle.std.proofs.Common.{◌≡◌, ◌≢◌, ◌<◌, ◌≤◌, ◌+◌, ℕ, suc, Result, Err, Bool, true, false, List, [], length, map, refl, sym, ap, subst, ◌∙◌, arith, below_more, get_or, set}
use Rattle.std.proofs.lemmas.List.{get_or-set_same, get_or-set_other, length-set, get_or-map, map-set, length-map}
use Rattle.quotient_finder.specs.Histories.{Events}
use Rattle.quotient_finder.specs.Turns.{HasReplied}
use Rattle.quotient_finder.specs.Rounds.{said, HasMissed, HasComeTo, HasStopped, HasRounds, HasEnded, HasSearched, IsRound, IsBroken}
use Rattle.misere_theory.specs.Certificates.{Certificate}
use Rattle.quotient_finder.specs.declared.gave_up.GaveUp.{GaveUp}
use Rattle.quotient_finder.specs.declared.gave_up.GaveUp.TheVariants.{Memory}
use Rattle.quotient_finder.specs.declared.reply.ProposerReply.{ProposerReply}
use Rattle.quotient_finder.specs.declared.reply.ProposerReply.TheVariants.{Drafted, Nothing}

module _ (code : List ℕ) (kind members : ℕ) (olds : List Events) where
  pub begun : HasComeTo code kind members 0 false olds olds
  begun = record {
    same = refl;
    asked = λ k l. absurd (omega arith);
    others = λ k l. refl;
    some = λ no. let never : false ≡ true = no in cc;
    none = λ _ k l. absurd (omega arith);
  }

  module _ (news : List Events) (place : ℕ) (b : Bool)
      (come : HasComeTo code kind members place b olds news)
      (within : place < length news) (h : Events) where
    there : said (set news place h) place ≡ h
    there = get_or-set_same news place h [] within

    elsewhere : (k : ℕ) → k ≢ place → said (set news place h) k ≡ said news k
    elsewhere k ne = get_or-set_other news place k h [] ne

    kept : (P : Events → Events → Type 0) (k : ℕ) → k < place → P (said olds k) (said news k)
        → P (said olds k) (said (set news place h) k)
    kept P k l p =
        subst (λ e. P (said olds k) e)
        (sym (elsewhere k (let ne : k ≢ place = omega arith in ne))) p

    last : (P : Events → Events → Type 0) → P (said news place) h
        → P (said olds place) (said (set news place h) place)
    last P p =
        subst (λ e. P e (said (set news place h) place)) (come.others place (omega arith))
        (subst (λ e. P (said news place) e) (sym there) p)

    long : length (set news place h) ≡ length olds
    long = length-set news place h ∙ come.same

    before : (k : ℕ) → k < place
        → HasMissed code kind members (said olds k) (said (set news place h) k)
    before k l = kept (HasMissed code kind members) k l (come.asked k l)

    behind : (k : ℕ) → place < k → said (set news place h) k ≡ said olds k
    behind k l =
        elsewhere k (let ne : k ≢ place = omega arith in ne)
        ∙ come.others k (let le : place ≤ k = omega arith in le)

    pub stopped : (Last : Events → Events → Type 0) → Last (said news place) h
        → HasStopped code kind members Last olds (set news place h)
    stopped Last p = record {
      place = place;
      within = let same : length news ≡ length olds = come.same in omega arith;
      same = long;
      asked = before;
      last = last Last p;
      others = behind;
    }

    pub went_on : HasReplied code kind members Drafted (said news place) h
        → HasComeTo code kind members (place + 1) true olds (set news place h)
    went_on p =
        let now = last (HasReplied code kind members Drafted) p in
        record {
          same = long;
          asked = below_more _ _ before (true, now);
          others = λ k l. behind k (let lt : place < k = omega arith in lt);
          some = λ _. (place, (let lt : place < place + 1 = omega arith in lt), now);
          none = λ no. let never : true ≡ false = no in cc;
        }

    pub passed : HasReplied code kind members Nothing (said news place) h
        → HasComeTo code kind members (place + 1) b olds (set news place h)
    passed p =
        let now = last (HasReplied code kind members Nothing) p in
        record {
          same = long;
          asked = below_more _ _ before (false, now);
          others = λ k l. behind k (let lt : place < k = omega arith in lt);
          some = λ is. let found = come.some is in (
            found.0,
            (let lt : found.0 < place + 1 = let l = found.1 in omega arith in lt),
            kept (HasReplied code kind members Drafted) found.0 found.1 found.2,
          );
          none = λ is. below_more _ _
              (λ k l. kept (HasReplied code kind members Nothing) k l (come.none is k l)) now;
        }

-- The same of boxes, whose histories h gives.
module _ (code : List ℕ) (kind members : ℕ) (olds : List Events) {B : Type 0} (h : B → Events)
    (items : List B) (i : ℕ) (b : Bool) (come : HasComeTo code kind members i b olds (map h items))
    (within : i < length items) (d new : B) where
  lies : i < length (map h items)
  lies = let e : length (map h items) ≡ length items = length-map items h in omega arith

  at : (P : Events → Events → Type 0) → P (h (get_or items i d)) (h new)
      → P (said (map h items) i) (h new)
  at P p = subst (λ e. P e (h new)) (sym (get_or-map h items i d [] within)) p

  made : map h (set items i new) ≡ set (map h items) i (h new)
  made = map-set h items i new

  pub box_stopped : (Last : Events → Events → Type 0) → Last (h (get_or items i d)) (h new)
      → HasStopped code kind members Last olds (map h (set items i new))
  box_stopped Last p =
      subst (λ news. HasStopped code kind members Last olds news) (sym made)
      (stopped code kind members olds (map h items) i b come lies (h new) Last (at Last p))

  module _ (reply : ProposerReply)
      (replied : HasReplied code kind members reply (h (get_or items i d)) (h new)) where
    turned : (r : ProposerReply) → reply ≡ r → HasReplied code kind members r (h (get_or items i d)) (h new)
    turned r e = subst (λ x. HasReplied code kind members x (h (get_or items i d)) (h new)) e replied

    pub box_found : (r : ProposerReply) → reply ≡ r
        → HasStopped code kind members (HasReplied code kind members r) olds (map h (set items i new))
    box_found r e = box_stopped (HasReplied code kind members r) (turned r e)

    pub box_went_on : reply ≡ Drafted → (b' : Bool) → b' ≡ true
        → HasComeTo code kind members (i + 1) b' olds (map h (set items i new))
    box_went_on e b' is =
        subst (λ x. HasComeTo code kind members (i + 1) x olds (map h (set items i new))) (sym is)
        (subst (λ news. HasComeTo code kind members (i + 1) true olds news) (sym made)
        (went_on code kind members olds (map h items) i b come lies (h new)
        (at (HasReplied code kind members Drafted) (turned Drafted e))))

    pub box_passed : reply ≡ Nothing → (b' : Bool) → b' ≡ b
        → HasComeTo code kind members (i + 1) b' olds (map h (set items i new))
    box_passed e b' is =
        subst (λ x. HasComeTo code kind members (i + 1) x olds (map h (set items i new))) (sym is)
        (subst (λ news. HasComeTo code kind members (i + 1) b olds news) (sym made)
        (passed code kind members olds (map h items) i b come lies (h new)
        (at (HasReplied code kind members Nothing) (turned Nothing e))))

-- One round more, told by what came of it.
pub more : (code : List ℕ) (kind members n : ℕ) (olds middle news : List Events) (reply : ProposerReply)
    → HasRounds code kind members n olds middle → IsRound code kind members reply middle news
    → reply ≡ Drafted → HasRounds code kind members (n + 1) olds news
more code kind members n olds middle news reply r d is =
    subst (λ m. HasRounds code kind members m olds news)
    (let e : suc n ≡ n + 1 = omega arith in e)
    (middle, r, subst (λ x. IsRound code kind members x middle news) is d)

pub over : (code : List ℕ) (kind members n rounds : ℕ) (olds news : List Events)
    → HasRounds code kind members n olds news → n ≤ rounds → rounds ≤ n
    → HasRounds code kind members rounds olds news
over code kind members n rounds olds news r l m =
    subst (λ x. HasRounds code kind members x olds news) (let e : n ≡ rounds = omega arith in e) r

-- A last round, told by what came of it.
pub ended : (code : List ℕ) (kind members rounds n : ℕ) (olds middle news : List Events)
    (reply r : ProposerReply) → n < rounds → HasRounds code kind members n olds middle
    → IsRound code kind members reply middle news → reply ≡ r
    → HasEnded code kind members rounds (IsRound code kind members r) olds news
ended code kind members rounds n olds middle news reply r l before last e = record {
  count = n;
  within = l;
  middle = middle;
  before = before;
  last = subst (λ x. IsRound code kind members x middle news) e last;
}

pub broken : (code : List ℕ) (kind members rounds n : ℕ) (olds middle news : List Events)
    → n < rounds → HasRounds code kind members n olds middle
    → IsBroken code kind members middle news
    → HasEnded code kind members rounds (IsBroken code kind members) olds news
broken code kind members rounds n olds middle news l before last = record {
  count = n;
  within = l;
  middle = middle;
  before = before;
  last = last;
}

-- Why a search found nothing, told by what is known of its answer.
pub told_broken : (code : List ℕ) (kind members rounds : ℕ) (olds news : List Events)
    (r : Result Certificate GaveUp) (why : GaveUp)
    → HasEnded code kind members rounds (IsBroken code kind members) olds news
    → why ≡ Memory → r ≡ Err why → HasSearched code kind members rounds olds news r
told_broken code kind members rounds olds news r why b m e =
    subst (λ x. HasSearched code kind members rounds olds news x) (sym (e ∙ ap Err m)) b

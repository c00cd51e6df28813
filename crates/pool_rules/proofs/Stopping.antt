-- Where no claim was given back, and where work ends.
use Rattle.std.proofs.Common.{◌≡◌, ◌⊎◌, inl, inr, ℕ, ◌+◌, ◌≤◌, ◌<◌, leb, Bool, true, false, cond, ◌||◌, [], ◌∷◌, ◌++◌, refl, sym, ◌∙◌, ap, subst, true≢false, arith, append_assoc, length, drop}
use Rattle.std.proofs.Math.Seq.{drop-append_seam, drop-length}
use Rattle.std.proofs.Math.ListN.{drop_of_length-le}
use Rattle.std.proofs.lemmas.Bool.Decides.{leb_tells}
use Rattle.std.proofs.lemmas.List.{append-nil, drop-append-le}
use Rattle.std.proofs.lemmas.List.Folds.{list_any-append}
use Rattle.std.proofs.lemmas.List.Sums.{sum_by-append, sum_by-cons}
use Rattle.claim_rules.proofs.Along.{along_more}
use Rattle.claim_rules.specs.Counts.{gave_back, is_claim, is_return}
use Rattle.claim_rules.specs.Histories.{What, claim, Entry, History}
use Rattle.claim_rules.specs.Legal.{Along, Legal, StopsFrom}
use Rattle.claim_rules.specs.Resolvers.{Resolver}
use Rattle.pool_rules.proofs.Counting.{rose_on}
use Rattle.pool_rules.proofs.Working.{works_on}
use Rattle.pool_rules.specs.Boards.{Desk, all_returns}
use Rattle.pool_rules.specs.Counts.{Counts}
use Rattle.pool_rules.specs.Ends.{IsFinish, IsWorked}
use Rattle.pool_rules.specs.Works.{GoesOn, IsEndOf, IsGoing, by_seat, with_entry, with_turn}
use Rattle.pool_rules.specs.declared.finish.Finish.{Finish}
use Rattle.pool_rules.specs.declared.finish.Finish.TheVariants as finishes
use Rattle.res_base.specs.declared.key.FileKey.{FileKey}

-- an entry after which it is no claim, or claims have not stopped
abbrev pub Stops : ℕ → History → Entry → Type 0
Stops n before e = is_claim e.what ≡ true → gave_back (drop n before) ≡ false

or_left : (a b : Bool) → (a || b) ≡ false → a ≡ false
or_left true b e = absurd (true≢false e)
or_left false b e = refl

or_right : (a b : Bool) → a ≡ false → (a || b) ≡ b
or_right true b e = absurd (true≢false e)
or_right false b e = refl

-- ---- counts of returns

pub none_back : (h : History) → all_returns h ≡ 0 → gave_back h ≡ false
none_back [] none = refl
none_back (e ∷ h) none =
    by (is_return e.what) (none_back h) (sym (sum_by-cons (λ (x : Entry). cond (is_return x.what) 1 0) e h) ∙ none)
  where
    by : (b : Bool) → (all_returns h ≡ 0 → gave_back h ≡ false) → cond b 1 0 + all_returns h ≡ 0
        → (b || gave_back h) ≡ false
    by true later sum = absurd (omega (arith, sum))
    by false later sum = later (omega (arith, sum))

-- what a history that goes on adds has no return, where their number stayed
pub more_none : (old new : History) (goes : GoesOn old new) → all_returns new ≡ all_returns old
    → gave_back goes.0 ≡ false
more_none old new goes same =
    let sum : all_returns new ≡ all_returns old + all_returns goes.0 =
    ap all_returns goes.1 ∙ sum_by-append (λ (x : Entry). cond (is_return x.what) 1 0) old goes.0 in
    none_back goes.0 (omega (arith, sum, same))

-- ---- claims stop

-- a beginning of what is left
left_of : (n : ℕ) (before : History) (rest : History) → gave_back (drop n (before ++ rest)) ≡ false
    → gave_back (drop n before) ≡ false
left_of n before rest none = by (leb_tells n (length before))
  where
    by : ((leb n (length before) ≡ true) × (n ≤ length before)) ⊎ ((leb n (length before) ≡ false)
        × (length before < n)) → gave_back (drop n before) ≡ false
    by (inl le) =
        or_left (gave_back (drop n before)) (gave_back rest)
        (sym (list_any-append (λ (e : Entry). is_return e.what) (drop n before) rest)
        ∙ (sym (ap gave_back (drop-append-le n before rest le.1)) ∙ none))
    by (inr lt) = ap gave_back (drop_of_length-le before {i = n} (omega (arith, lt.1)))

pub stops_none : (n : ℕ) (before h : History) → gave_back (drop n (before ++ h)) ≡ false → Along (Stops n) before h
stops_none n before [] none = tt
stops_none n before (e ∷ h) none = (
  λ is. left_of n before (e ∷ h) none,
  stops_none n (before ++ e ∷ []) h (subst (λ t. gave_back (drop n t) ≡ false) (sym (append_assoc before
      (e ∷ []) h)) none),
)

along_split : (May : History → Entry → Type 0) (before h more : History) → Along May before (h ++ more)
    → Along May (before ++ h) more
along_split May before [] more along = subst (λ t. Along May t more) (sym (append-nil before)) along
along_split May before (e ∷ h) more along =
    subst (λ t. Along May t more) (append_assoc before (e ∷ []) h) (along_split May (before ++ e ∷ []) h more along.1)

along_join : (May : History → Entry → Type 0) (before h more : History) → Along May before h
    → Along May (before ++ h) more → Along May before (h ++ more)
along_join May before [] more one two = subst (λ t. Along May t more) (append-nil before) two
along_join May before (e ∷ h) more one two = (
  one.0,
  along_join May (before ++ e ∷ []) h more one.1 (subst (λ t. Along May t more) (sym (append_assoc before
      (e ∷ []) h)) two),
)

-- where nothing was given back between two places, claims that stop from the later one stop from the first
module _ (first mid : History) (none : gave_back mid ≡ false) where
  abbrev second : History
  second = first ++ mid

  back_of : (t : History)
      → gave_back (drop (length first) (second ++ t)) ≡ gave_back (drop (length second) (second ++ t))
  back_of t =
      ap (λ x. gave_back (drop (length first) x)) (append_assoc first mid t)
      ∙ ap gave_back (drop-append_seam first (mid ++ t))
      ∙ list_any-append (λ (e : Entry). is_return e.what) mid t ∙ or_right (gave_back mid) (gave_back t) none
      ∙ ap gave_back (sym (drop-append_seam second t))

  stops_rest : (t rest : History) → Along (Stops (length second)) (second ++ t) rest
      → Along (Stops (length first)) (second ++ t) rest
  stops_rest t [] along = tt
  stops_rest t (e ∷ rest) along = (
    λ is. back_of t ∙ along.0 is,
    subst (λ x. Along (Stops (length first)) x rest) (sym (append_assoc second t (e ∷ [])))
        (stops_rest (t ++ e ∷ []) rest (subst (λ x. Along (Stops (length second)) x rest) (append_assoc second t
        (e ∷ [])) along.1)),
  )

  pub stops_from : (more : History) → StopsFrom (length second) (second ++ more)
      → StopsFrom (length first) (second ++ more)
  stops_from more stops =
      along_join (Stops (length first)) [] second more
      (stops_none (length first) [] second (ap gave_back (drop-append_seam first mid) ∙ none))
      (subst (λ x. Along (Stops (length first)) x more) (append-nil second)
      (stops_rest [] more (subst (λ x. Along (Stops (length second)) x more) (sym (append-nil second)) (along_split
      (Stops (length second)) [] second more stops))))

pub waiting_stops : (h : History) → StopsFrom (length h) h
waiting_stops h = stops_none (length h) [] h (ap gave_back (drop-length h))

pub turn_stops : (h : History) (seat : ℕ) (key : FileKey) (what : What) → IsEndOf key what
    → StopsFrom (length h) (with_turn h seat key what)
turn_stops h seat key what ends =
    along_more (Stops (length h)) [] (with_entry h seat (claim key)) (by_seat seat what)
    (along_more (Stops (length h)) [] h (by_seat seat (claim key)) (stops_none (length h) [] h (ap gave_back
    (drop-length h))) (λ is. ap gave_back (drop-length h)))
    (λ is. absurd (true≢false (sym is ∙ ends.end)))

-- ---- work that ends

module _ {V : Type 0} (r : Resolver V) where
  pub answered : (old new : Desk) (before now : Counts) (finish : Finish) → IsGoing old new before now
      → Legal new.settings r new.history
      → IsFinish r new before now finish → IsWorked r old new before now finish
  answered old new before now finish going legal ends =
      record {
        works = going.works;
        legal = legal;
        landed = going.landed;
        given = λ back. absurd (true≢false (sym back ∙ none));
        stops = stops_none (length old.history) [] new.history none;
        ends = ends;
      }
    where
      none : gave_back (drop (length old.history) new.history) ≡ false
      none =
          ap (λ t. gave_back (drop (length old.history) t)) going.works.goes_on.1
          ∙ ap gave_back (drop-append_seam old.history going.works.goes_on.0)
          ∙ more_none old.history new.history going.works.goes_on going.kept

  ends_by : (desk : Desk) (a b c : Counts) (finish : Finish) → a.disk_faults ≤ b.disk_faults
      → IsFinish r desk b c finish → IsFinish r desk a c finish
  ends_by desk a b c finishes.Over le is = is
  ends_by desk a b c (finishes.Stuck key why) le is = is
  ends_by desk a b c finishes.TooMany le is = is
  ends_by desk a b c (finishes.Disk call) le is =
      (rose_on a.disk_faults b.disk_faults c.disk_faults le is.0, is.1, is.2)
  ends_by desk a b c finishes.Memory le is = is

  pub turns : (a b c : Desk) (k l m : Counts) (finish : Finish) → IsGoing a b k l → IsWorked r b c l m finish
      → IsWorked r a c k m finish
  turns a b c k l m finish going worked =
      record {
        works = works_on a b c k l m going.works worked.works;
        legal = worked.legal;
        landed = worked.landed;
        given = λ back. worked.given (sym same ∙ back);
        stops = stops;
        ends = ends_by c k l m finish going.works.later.disk_faults worked.ends;
      }
    where
      mid : History
      mid = going.works.goes_on.0

      more : History
      more = worked.works.goes_on.0

      none : gave_back going.works.goes_on.0 ≡ false
      none = more_none a.history b.history going.works.goes_on going.kept

      is : c.history ≡ (a.history ++ going.works.goes_on.0) ++ worked.works.goes_on.0
      is = worked.works.goes_on.1 ∙ ap (λ h. h ++ worked.works.goes_on.0) going.works.goes_on.1

      same : gave_back (drop (length a.history) c.history) ≡ gave_back (drop (length b.history) c.history)
      same =
          ap (λ t. gave_back (drop (length a.history) t)) is
          ∙ back_of a.history going.works.goes_on.0 none worked.works.goes_on.0
          ∙ sym (ap (λ t. gave_back (drop (length t) c.history)) going.works.goes_on.1
          ∙ ap (λ t. gave_back (drop (length (a.history ++ going.works.goes_on.0)) t)) is)

      stops : StopsFrom (length a.history) c.history
      stops =
          subst (StopsFrom (length a.history)) (sym is)
          (stops_from a.history going.works.goes_on.0 none worked.works.goes_on.0
          (subst (StopsFrom (length (a.history ++ going.works.goes_on.0))) is (subst (λ t. StopsFrom
          (length t) c.history) going.works.goes_on.1 worked.stops)))

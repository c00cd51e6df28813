-- Work goes on, entry by entry.
use Rattle.std.proofs.Common.{◌≡◌, ℕ, ◌+◌, ◌≤◌, Bool, true, false, ◌&&◌, List, [], ◌∷◌, ◌++◌, Option, Some, None, refl, sym, ◌∙◌, ap, subst, true≢false, arith, append_assoc}
use Rattle.std.specs.Prelude.{IsSome}
use Rattle.std.specs.Option.{option_map}
use Rattle.claim_rules.specs.Counts.{is_lack, is_link_break, is_of, link_breaks}
use Rattle.claim_rules.specs.Histories.{What, claim, arrive, broke, give_back, Entry, History, key_in}
use Rattle.claim_rules.specs.declared.why.Why.TheVariants.{Link, NotCached}
use Rattle.cache_policy.specs.declared.Mode.TheVariants.{Offline}
use Rattle.pool_rules.proofs.Counting.{later_on, none_more, one_more, rise_none, rise_on, rise_once, told_on, urls_later}
use Rattle.pool_rules.specs.Boards.{Desk, all_breaks, all_lacks}
use Rattle.pool_rules.specs.Counts.{AreLater, Counts, FailsAt, RiseBeside, urls_of}
use Rattle.pool_rules.specs.Plans.{url_in}
use Rattle.pool_rules.specs.Works.{AddsEntry, IsGoing, IsSameJob, Works, by_seat, costs, with_entry}
use Rattle.pool_rules.specs.declared.plan.Plan.{Plan}
use Rattle.file_answers.specs.Asking.{IsBeside}
use Rattle.res_base.specs.Names.{key_eq}
use Rattle.res_base.specs.declared.key.FileKey.{FileKey}

pub same_on : (a b c : Desk) → IsSameJob a b → IsSameJob b c → IsSameJob a c
same_on a b c one two = record { settings = two.settings ∙ one.settings; plan = two.plan ∙ one.plan }

pub works_on : (a b c : Desk) (k l m : Counts) → Works a b k l → Works b c l m → Works a c k m
works_on a b c k l m one two =
    record {
      job = same_on a b c one.job two.job;
      goes_on = (one.goes_on.0 ++ two.goes_on.0, goes);
      later = later_on a.plan k l m one.later later;
      broken =
          rise_on k.faults l.faults m.faults (all_breaks a.history) (all_breaks b.history) (all_breaks c.history)
          two.later.faults one.broken two.broken;
      urls = urls;
      no_link = λ off. two.no_link (mode ∙ off) ∙ one.no_link off;
      lacking = λ on. two.lacking (λ off. on (sym mode ∙ off)) ∙ one.lacking on;
    }
  where
    mode : b.plan.mode ≡ a.plan.mode
    mode = ap (λ (p : Plan). p.mode) one.job.plan

    later : AreLater a.plan l m
    later = subst (λ p. AreLater p l m) one.job.plan two.later

    goes : c.history ≡ a.history ++ (one.goes_on.0 ++ two.goes_on.0)
    goes =
        two.goes_on.1 ∙ ap (λ h. h ++ two.goes_on.0) one.goes_on.1
        ∙ append_assoc a.history one.goes_on.0 two.goes_on.0

    urls : (key : FileKey) → IsSome k.failed
        → link_breaks c.history key + urls_of a.plan key k.failed
        ≤ link_breaks a.history key + urls_of a.plan key m.failed
    urls key told =
        let first : link_breaks b.history key + urls_of a.plan key k.failed
        ≤ link_breaks a.history key + urls_of a.plan key l.failed = one.urls key told in
        let second : link_breaks c.history key + urls_of a.plan key l.failed
        ≤ link_breaks b.history key + urls_of a.plan key m.failed =
        subst (λ p. link_breaks c.history key + urls_of p key l.failed
        ≤ link_breaks b.history key + urls_of p key m.failed) one.job.plan
        (two.urls key (told_on k.failed l.failed one.later.failed told)) in
        omega (arith, first, second)

pub going_on : (a b c : Desk) (k l m : Counts) → IsGoing a b k l → IsGoing b c l m → IsGoing a c k m
going_on a b c k l m one two =
    record {
      works = works_on a b c k l m one.works two.works;
      kept = two.kept ∙ one.kept;
      landed = two.landed;
      going = two.going;
    }

-- ---- one entry more

abbrev pub Added : Type 0
Added = (plan : Plan) (key : FileKey) (urls : List (List ℕ)) (other : List ℕ) → IsBeside (url_in plan key) other
    → urls_of plan key (Some (urls ++ other ∷ [])) ≡ urls_of plan key (Some urls) + 1

abbrev pub SameKeys : Type 0
SameKeys = (a b : FileKey) → key_eq a b ≡ true → a ≡ b

failed_more : Added → (plan : Plan) (key : FileKey) (a b : Option (List (List ℕ))) (other : List ℕ) → IsSome a
    → IsBeside (url_in plan key) other → b ≡ option_map (λ urls. urls ++ other ∷ []) a
    → urls_of plan key b ≡ urls_of plan key a + 1
failed_more added plan key None b other told beside is = absurd (true≢false (sym told))
failed_more added plan key (Some urls) b other told beside is =
    ap (urls_of plan key) is ∙ added plan key urls other beside

-- which entries break a claim by a link, and which for want of the file
data Kind (what : What) : Type 0 where
  by_link : (key : FileKey) → what ≡ broke key Link → Kind what
  by_lack : (key : FileKey) → what ≡ broke key NotCached → Kind what
  other : is_link_break what ≡ false → is_lack what ≡ false → Kind what

kind : (what : What) → Kind what
kind (claim key) = other refl refl
kind (arrive key reading) = other refl refl
kind (broke key Link) = by_link key refl
kind (broke key NotCached) = by_lack key refl
kind (give_back key) = other refl refl

module _ (added : Added) (same : SameKeys) (old new : Desk) (before now : Counts) (seat : ℕ) (what : What)
    (adds : AddsEntry old new seat what) (later : AreLater old.plan before now) where
  abbrev h : History
  h = with_entry old.history seat what

  abbrev e : Entry
  e = by_seat seat what

  breaks_same : is_link_break what ≡ false → all_breaks h ≡ all_breaks old.history
  breaks_same fails = none_more (λ (x : Entry). is_link_break x.what) old.history e fails

  lacks_same : is_lack what ≡ false → all_lacks h ≡ all_lacks old.history
  lacks_same fails = none_more (λ (x : Entry). is_lack x.what) old.history e fails

  urls_quiet : (key : FileKey) → is_of is_link_break key e ≡ false
      → link_breaks h key + urls_of old.plan key before.failed
      ≤ link_breaks old.history key + urls_of old.plan key now.failed
  urls_quiet key quiet =
      let breaks : link_breaks h key ≡ link_breaks old.history key = none_more
      (is_of is_link_break key) old.history e quiet in
      omega (arith, breaks, urls_later old.plan key before.failed now.failed later.failed)

  urls_failed : (one : FileKey) → what ≡ broke one Link → FailsAt old.plan one before now → (key : FileKey)
      → IsSome before.failed
      → link_breaks h key + urls_of old.plan key before.failed
      ≤ link_breaks old.history key + urls_of old.plan key now.failed
  urls_failed one is fails key told = by (key_eq one key) refl
    where
      of_key : (b : Bool) → key_eq one key ≡ b → is_of is_link_break key e ≡ b
      of_key b at = ap (λ w. is_link_break w && key_eq (key_in w) key) is ∙ at

      by : (b : Bool) → key_eq one key ≡ b
          → link_breaks h key + urls_of old.plan key before.failed
          ≤ link_breaks old.history key + urls_of old.plan key now.failed
      by true at =
          let breaks : link_breaks h key ≡ link_breaks old.history key + 1 = one_more
          (is_of is_link_break key) old.history e (of_key true at) in
          let more : urls_of old.plan key now.failed ≡ urls_of old.plan key before.failed + 1 =
          failed_more added old.plan key before.failed now.failed fails.url.0 told (subst (λ k. IsBeside
          (url_in old.plan k) fails.url.0) (same one key at) fails.url.1) fails.url.2 in
          omega (arith, breaks, more)
      by false at = urls_quiet key (of_key false at)

  -- at the history with the entry
  works_at : (broken : RiseBeside before.faults now.faults (all_breaks old.history) (all_breaks h))
      → ((key : FileKey) → IsSome before.failed → link_breaks h key + urls_of old.plan key before.failed
      ≤ link_breaks old.history key + urls_of old.plan key now.failed)
      → (old.plan.mode ≡ Offline → all_breaks h ≡ all_breaks old.history)
      → ((old.plan.mode ≡ Offline → ⊥) → all_lacks h ≡ all_lacks old.history) → Works old new before now
  works_at broken urls no_link lacking =
      record {
        job = adds.job;
        goes_on = (e ∷ [], adds.history);
        later = later;
        broken = subst (λ t. RiseBeside before.faults now.faults (all_breaks old.history) (all_breaks t))
            (sym adds.history) broken;
        urls = λ key told. subst (λ t. link_breaks t key + urls_of old.plan key before.failed
            ≤ link_breaks old.history key + urls_of old.plan key now.failed) (sym adds.history) (urls key told);
        no_link = λ off. ap all_breaks adds.history ∙ no_link off;
        lacking = λ on. ap all_lacks adds.history ∙ lacking on;
      }

  pub entry_works : costs old.plan what before now → Works old new before now
  entry_works cost = by (kind what)
    where
      by : Kind what → Works old new before now
      by (by_link key is) =
          let fails : FailsAt old.plan key before now = subst (λ w. costs old.plan w before now) is cost in
          works_at
          (rise_once before.faults now.faults (all_breaks old.history) (all_breaks h) fails.rose (one_more (λ
          (x : Entry). is_link_break x.what) old.history e (ap is_link_break is)))
          (urls_failed key is fails) (λ off. absurd (fails.online off)) (λ on. lacks_same (ap is_lack is))
      by (by_lack key is) =
          let off : old.plan.mode ≡ Offline = subst (λ w. costs old.plan w before now) is cost in
          works_at (rise_none before.faults now.faults (all_breaks old.history) (all_breaks h) later.faults
          (breaks_same (ap is_link_break is)))
          (λ one told. urls_quiet one (ap (λ w. is_link_break w && key_eq (key_in w) one) is)) (λ o. breaks_same
          (ap is_link_break is)) (λ on. absurd (on off))
      by (other quiet none) =
          works_at (rise_none before.faults now.faults (all_breaks old.history) (all_breaks h) later.faults
          (breaks_same quiet))
          (λ one told. urls_quiet one (ap (λ b. b && key_eq (key_in what) one) quiet)) (λ o. breaks_same quiet)
          (λ on. lacks_same none)

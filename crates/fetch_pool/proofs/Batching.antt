-- A history with an entry more for each of some keys: all claimed, or all given back.
use Rattle.std.proofs.Common.{◌≡◌, ◌⊎◌, inl, inr, ◌≤◌, ◌+◌, ◌*◌, ℕ, true, false, List, [], ◌∷◌, ◌++◌, Option, refl, sym, ◌∙◌, ap, subst, arith, length, true≢false, append_assoc, append-nil, drop}
use Rattle.std.specs.Prelude.{map}
use Rattle.std.proofs.Math.Nat.{add-mul, mul-le-mul_right}
use Rattle.std.proofs.Math.Seq.{drop-append_seam}
use Rattle.std.proofs.lemmas.List.{map-append}
use Rattle.claim_rules.specs.Counts.{claims, is_claim, is_lack, is_lacking, is_return, gave_back}
use Rattle.claim_rules.specs.Histories.{What, claim, give_back, Entry, History, pair_in}
use Rattle.claim_rules.specs.Legal.{StopsFrom}
use Rattle.cache_policy.specs.declared.Decision.TheVariants.{Unavailable}
use Rattle.disk_base.specs.Names.{Names, read_name}
use Rattle.fetch_pool.proofs.Lacking.{lacks_none}
use Rattle.fetch_pool.specs.Flights.{with_each}
use Rattle.fetch_pool.specs.Turns.{EndsClaim, EndsSome, LacksOnly}
use Rattle.file_fetch.specs.Decided.{decided_in}
use Rattle.pool_rules.proofs.Counting.{none_more, one_more}
use Rattle.pool_rules.proofs.Stopping.{more_none, stops_none}
use Rattle.pool_rules.specs.Boards.{Desk, all_returns}
use Rattle.pool_rules.specs.Counts.{AreLater, Counts}
use Rattle.pool_rules.specs.Plans.{files_in}
use Rattle.pool_rules.specs.Works.{AddsEntry, AddsNothing, IsSameJob, Works, by_seat, costs, with_entry}
use Rattle.pool_rules.specs.Worlds.{StaysTrue}
use Rattle.pool_rules.specs.declared.finish.Finish.{Finish}
use Rattle.pool_rules.specs.declared.plan.Plan.{Plan}
use Rattle.res_base.specs.Known.{Known}
use Rattle.res_base.specs.declared.key.FileKey.{FileKey}

-- what the rules of work and of claims say
pub record Steps : Type 0 where
  pub entry : (old new : Desk) (before now : Counts) (seat : ℕ) (what : What) → AddsEntry old new seat what
      → AreLater old.plan before now → costs old.plan what before now → Works old new before now
  pub nothing : (old new : Desk) (before now : Counts) → AddsNothing old new → AreLater old.plan before now
      → Works old new before now
  pub on : (first second third : Desk) (one two three : Counts) → Works first second one two → Works second third two three
      → Works first third one three
  pub same : (plan : Plan) (counts : Counts) → AreLater plan counts counts
  pub stops : (n : ℕ) (h : History) (e : Entry) → StopsFrom n h → (is_claim e.what ≡ true → gave_back (drop n h) ≡ false)
      → StopsFrom n (h ++ e ∷ [])

module _ (seat : ℕ) (what : FileKey → What) where
  each_first : (h : History) (key : FileKey) (keys : List FileKey)
      → with_each (with_entry h seat (what key)) seat what keys ≡ with_each h seat what (key ∷ keys)
  each_first h key keys = append_assoc h (by_seat seat (what key) ∷ []) (map (λ one. by_seat seat (what one)) keys)

  pub each_last : (h : History) (keys : List FileKey) (key : FileKey)
      → with_entry (with_each h seat what keys) seat (what key) ≡ with_each h seat what (keys ++ key ∷ [])
  each_last h keys key =
      append_assoc h (map (λ one. by_seat seat (what one)) keys) (by_seat seat (what key) ∷ [])
      ∙ ap (λ t. h ++ t) (sym (map-append (λ one. by_seat seat (what one)) keys (key ∷ [])))

  pub each_none : (h : History) → h ≡ with_each h seat what []
  each_none h = sym (append-nil h)

  -- what holds from a history to itself, over one entry, and on, holds over all
  along_each : (R : History → History → Type 0) → ((h : History) → R h h)
      → ((a b c : History) → R a b → R b c → R a c) → ((h : History) (key : FileKey) → R h (with_entry h seat (what key)))
      → (h : History) (keys : List FileKey) → R h (with_each h seat what keys)
  along_each R same on step h [] = subst (λ t. R h t) (each_none h) (same h)
  along_each R same on step h (key ∷ keys) =
      on h (with_entry h seat (what key)) (with_each h seat what (key ∷ keys)) (step h key)
      (subst (λ t. R (with_entry h seat (what key)) t) (each_first h key keys)
      (along_each R same on step (with_entry h seat (what key)) keys))

  pub true_each : ((all : Known) (h : History) (seat : ℕ) (what : What) → pair_in what ≡ []
      → StaysTrue all h (with_entry h seat what))
      → ((key : FileKey) → pair_in (what key) ≡ [])
      → (all : Known) (h : History) (keys : List FileKey) → StaysTrue all h (with_each h seat what keys)
  true_each others none all h keys =
      along_each (λ a b. StaysTrue all a b) (λ h x. x) (λ a b c one two x. two (one x))
      (λ h key. others all h seat (what key) (none key)) h keys

  pub lacks_each : ((key : FileKey) → is_lack (what key) ≡ false) → (plan : Plan) (told : Option Names) (h : History)
      → (keys : List FileKey) → LacksOnly plan told h (with_each h seat what keys)
  lacks_each none plan told h keys =
      along_each (LacksOnly plan told) (λ h s at key is. inl is) on (λ h key. lacks_none plan told h seat (what key) (none key)) h keys
    where
      on : (a b c : History) → LacksOnly plan told a b → LacksOnly plan told b c → LacksOnly plan told a c
      on a b c one two s at key is = by (two s at key is)
        where
          by : (is_lacking b key ≡ true) ⊎ (decided_in plan key (read_name s) ≡ Unavailable)
              → (is_lacking a key ≡ true) ⊎ (decided_in plan key (read_name s) ≡ Unavailable)
          by (inl x) = one s at key x
          by (inr x) = inr x

  module _ (laws : Steps) where
    pub works_each : (old new : Desk) (counts : Counts) (keys : List FileKey)
        → ((key : FileKey) → costs old.plan (what key) counts counts) → IsSameJob old new
        → new.history ≡ with_each old.history seat what keys → Works old new counts counts
    works_each old new counts keys free job history =
        laws.on old (at (with_each old.history seat what keys)) new counts counts counts
        (along_each (λ a b. Works (at a) (at b) counts counts)
        (λ h. laws.nothing (at h) (at h) counts counts (record { job = stays h h; history = refl }) (laws.same old.plan counts))
        (λ a b c one two. laws.on (at a) (at b) (at c) counts counts counts one two)
        (λ h key. laws.entry (at h) (at (with_entry h seat (what key))) counts counts seat (what key)
        (record { job = stays h (with_entry h seat (what key)); history = refl }) (laws.same old.plan counts) (free key))
        old.history keys)
        (laws.nothing (at (with_each old.history seat what keys)) new counts counts
        (record { job = record { settings = job.settings; plan = job.plan }; history = history }) (laws.same old.plan counts))
      where
        at : History → Desk
        at h = record old { history = h }

        stays : (a b : History) → IsSameJob (at a) (at b)
        stays a b = record { settings = refl; plan = refl }

-- ---- claims

pub claims_one : (h : History) (seat : ℕ) (key : FileKey) → claims (with_entry h seat (claim key)) ≡ claims h + 1
claims_one h seat key = one_more (λ (e : Entry). is_claim e.what) h (by_seat seat (claim key)) refl

claims_none : (h : History) (seat : ℕ) (what : What) → is_claim what ≡ false → claims (with_entry h seat what) ≡ claims h
claims_none h seat what end = none_more (λ (e : Entry). is_claim e.what) h (by_seat seat what) end

pub claims_each : (seat : ℕ) (h : History) (keys : List FileKey)
    → claims (with_each h seat (λ key. claim key) keys) ≡ claims h + length keys
claims_each seat h [] = let same : claims (with_each h seat (λ key. claim key) []) ≡ claims h = ap claims (append-nil h) in omega (arith, same)
claims_each seat h (key ∷ keys) =
    let first : claims (with_entry h seat (claim key)) ≡ claims h + 1 = claims_one h seat key in
    let rest : claims (with_each h seat (λ key. claim key) (key ∷ keys))
    ≡ claims (with_entry h seat (claim key)) + length keys =
    ap claims (sym (each_first seat (λ key. claim key) h key keys)) ∙ claims_each seat (with_entry h seat (claim key)) keys in
    omega (arith, first, rest)

pub returns_each : (seat : ℕ) (h : History) (keys : List FileKey)
    → all_returns (with_each h seat (λ key. claim key) keys) ≡ all_returns h
returns_each seat h keys =
    along_each seat (λ key. claim key) (λ a b. all_returns b ≡ all_returns a) (λ h. refl) (λ a b c one two. two ∙ one)
    (λ h key. none_more (λ (e : Entry). is_return e.what) h (by_seat seat (claim key)) refl) h keys

-- nothing is given back among them
pub stops_each : (seat : ℕ) (h : History) (keys : List FileKey) → StopsFrom (length h) (with_each h seat (λ key. claim key) keys)
stops_each seat h keys =
    stops_none (length h) [] (with_each h seat (λ key. claim key) keys)
    (ap gave_back (drop-append_seam h (map (λ one. by_seat seat (claim one)) keys))
    ∙ more_none h (with_each h seat (λ key. claim key) keys) (map (λ one. by_seat seat (claim one)) keys, refl)
    (returns_each seat h keys))

-- ---- ends

more_files : (n m k : ℕ) → n ≤ m → n * k ≤ m * k
more_files n m k le = mul-le-mul_right k le

module _ (laws : Steps) where
  pub ends_one : (old new : Desk) (seat : ℕ) (key : FileKey) (before now : Counts) (finish : Option Finish)
      → IsSameJob old new → AreLater old.plan before now → EndsClaim old new seat key before now finish
      → now.asked ≤ before.asked + files_in old.plan → EndsSome old new before now 1
  ends_one old new seat key before now finish job later ends few = record {
    works = laws.entry old new before now seat ends.what (record { job = job; history = ends.history }) later ends.cost;
    same = ap claims ends.history ∙ claims_none old.history seat ends.what ends.end.end;
    stops = λ m stops. subst (λ t. StopsFrom m t) (sym ends.history)
        (laws.stops m old.history (by_seat seat ends.what) stops (λ is. absurd (true≢false (sym is ∙ ends.end.end))));
    few = omega (arith, few);
  }

  pub ends_none : (old new : Desk) (counts : Counts) → AddsNothing old new → EndsSome old new counts counts 0
  ends_none old new counts adds = record {
    works = laws.nothing old new counts counts adds (laws.same old.plan counts);
    same = ap claims adds.history;
    stops = λ m stops. subst (λ t. StopsFrom m t) (sym adds.history) stops;
    few = omega arith;
  }

  pub ends_on : (a b c : Desk) (one two three : Counts) (n m : ℕ) → EndsSome a b one two n → EndsSome b c two three m
      → EndsSome a c one three (n + m)
  ends_on a b c one two three n m first second =
      let same_files : files_in b.plan ≡ files_in a.plan = ap files_in first.works.job.plan in
      let further : three.asked ≤ two.asked + m * files_in a.plan =
      subst (λ k. three.asked ≤ two.asked + m * k) same_files second.few in
      record {
        works = laws.on a b c one two three first.works second.works;
        same = second.same ∙ first.same;
        stops = λ k stops. second.stops k (first.stops k stops);
        few = omega (arith, first.few, further, add-mul n m (files_in a.plan));
      }

  pub ends_most : (old new : Desk) (before now : Counts) (n m : ℕ) → n ≤ m → EndsSome old new before now n
      → EndsSome old new before now m
  ends_most old new before now n m le ends = record {
    works = ends.works;
    same = ends.same;
    stops = ends.stops;
    few = let more : n * files_in old.plan ≤ m * files_in old.plan = more_files n m (files_in old.plan) le in omega (arith, ends.few, more);
  }

  -- where all these are given back
  pub ends_back : (old new : Desk) (counts : Counts) (seat : ℕ) (keys : List FileKey) → IsSameJob old new
      → new.history ≡ with_each old.history seat (λ key. give_back key) keys → EndsSome old new counts counts 0
  ends_back old new counts seat keys job history = record {
    works = works_each seat (λ key. give_back key) laws old new counts keys (λ key. tt) job history;
    same = ap claims history
        ∙ along_each seat (λ key. give_back key) (λ a b. claims b ≡ claims a) (λ h. refl) (λ a b c one two. two ∙ one)
        (λ h key. claims_none h seat (give_back key) refl) old.history keys;
    stops = λ m stops. subst (λ t. StopsFrom m t) (sym history)
        (along_each seat (λ key. give_back key) (λ a b. StopsFrom m a → StopsFrom m b) (λ h x. x)
        (λ a b c one two x. two (one x))
        (λ h key x. laws.stops m h (by_seat seat (give_back key)) x (λ is. absurd (true≢false (sym is))))
        old.history keys stops);
    few = omega arith;
  }

-- What the end of a claim costs, and how it ends the work.
use Rattle.std.proofs.Common.{◌≡◌, ◌≢◌, ◌≤◌, ℕ, Bool, true, [], Option, Some, None, Result, Ok, Err, refl, sym, ◌∙◌, ap, subst, false}
use Rattle.std.specs.Prelude.{IsErrOf, IsSome}
use Rattle.cache_policy.specs.declared.Mode.TheVariants.{Offline}
use Rattle.claim_rules.specs.Counts.{is_return}
use Rattle.claim_rules.specs.Histories.{What, History, arrive, pair_in}
use Rattle.claim_rules.specs.Resolvers.{Resolver}
use Rattle.fetch_pool.specs.Ends.{EndsBy, MayEnd, taken, what_of}
use Rattle.file_fetch.specs.Causes.{Failing, HasDiskFault, HasLinkFault, IsLiveAfter, UnlessEnded, failure}
use Rattle.file_fetch.specs.declared.errors.GetErr.{GetErr}
use Rattle.file_fetch.specs.declared.errors.GetErr.TheVariants.{Link, NotCached, Disk, NoMemory}
use Rattle.pool_rules.proofs.Counting.{rose_on}
use Rattle.pool_rules.specs.Boards.{Desk}
use Rattle.pool_rules.specs.Counts.{Counts}
use Rattle.pool_rules.specs.Ends.{IsFinish}
use Rattle.pool_rules.specs.Plans.{url_in}
use Rattle.pool_rules.specs.Works.{IsEndOf, costs, with_entry}
use Rattle.pool_rules.specs.Worlds.{StaysTrue}
use Rattle.pool_rules.specs.declared.finish.EndCause.{EndCause}
use Rattle.pool_rules.specs.declared.finish.EndCause.TheVariants as causes
use Rattle.pool_rules.specs.declared.finish.Finish.{Finish}
use Rattle.pool_rules.specs.declared.finish.Finish.TheVariants as finishes
use Rattle.pool_rules.specs.declared.plan.Plan.{Plan}
use Rattle.res_base.specs.Known.{Known}
use Rattle.res_base.specs.declared.key.FileKey.{FileKey}
use Rattle.res_base.specs.declared.reading.Reading.{Reading}

abbrev pub Got : Type 0
Got = Result Reading GetErr

pub is_end : (key : FileKey) (got : Got) (finish : Option Finish) → IsEndOf key (what_of key got finish)
is_end key (Ok reading) None = record { end = refl; same = refl }
is_end key (Ok reading) (Some f) = record { end = refl; same = refl }
is_end key (Err Link) finish = record { end = refl; same = refl }
is_end key (Err NotCached) finish = record { end = refl; same = refl }
is_end key (Err (Disk call)) finish = record { end = refl; same = refl }
is_end key (Err NoMemory) finish = record { end = refl; same = refl }

none_some : {A : Type 0} {B : Type 0} (o : Option A) (x : A) → o ≡ None → o ≡ Some x → B
none_some o x one two = cc

-- where the work goes on, nothing is given back, and nothing has ended it
pub goes_on : (key : FileKey) (got : Got) (finish : Option Finish) (ended : Option EndCause) → MayEnd got finish ended → finish ≡ None
    → (is_return (what_of key got finish) ≡ false) × (ended ≡ None)
goes_on key (Ok reading) None ended may none = (refl, may)
goes_on key (Ok reading) (Some f) ended may none = none_some (Some f) f none refl
goes_on key (Err Link) finish ended may none = (refl, may.1)
goes_on key (Err NotCached) finish ended may none = (refl, may.1)
goes_on key (Err (Disk call)) finish ended may none = none_some finish (finishes.Disk call) none may.0
goes_on key (Err NoMemory) finish ended may none = none_some finish finishes.Memory none may.0

-- where the work goes on, the store is live, and what holds unless the work ends
pub stays_idle : (got : Got) (finish : Option Finish) (ended : Option EndCause) (live : Bool) (P : Type 0) → MayEnd got finish ended
    → finish ≡ None → IsLiveAfter (failure got) live → UnlessEnded (failure got) P → (live ≡ true) × P
stays_idle (Ok reading) finish ended live P may none alive holds = (alive, holds)
stays_idle (Err Link) finish ended live P may none alive holds = (alive, holds)
stays_idle (Err NotCached) finish ended live P may none alive holds = (alive, holds)
stays_idle (Err (Disk call)) finish ended live P may none alive holds = none_some finish (finishes.Disk call) none may.0
stays_idle (Err NoMemory) finish ended live P may none alive holds = none_some finish finishes.Memory none may.0

pub ended_none : (got : Got) (finish : Option Finish) (ended : Option EndCause) → MayEnd got finish ended → ended ≡ None → finish ≡ None
ended_none (Ok reading) None ended may none = refl
ended_none (Ok reading) (Some f) ended may none = none_some ended causes.Memory none may.1
ended_none (Err Link) finish ended may none = may.0
ended_none (Err NotCached) finish ended may none = may.0
ended_none (Err (Disk call)) finish ended may none = none_some ended (causes.Disk call) none may.1
ended_none (Err NoMemory) finish ended may none = none_some ended causes.Memory none may.1

-- what is known of a map stays true of it, where what was got is what the map says
pub true_on : ((all : Known) (h : History) (seat : ℕ) (key : FileKey) (reading : Reading) → all key ≡ Some reading
    → StaysTrue all h (with_entry h seat (arrive key reading)))
    → ((all : Known) (h : History) (seat : ℕ) (what : What) → pair_in what ≡ [] → StaysTrue all h (with_entry h seat what))
    → (all : Known) (h : History) (seat : ℕ) (key : FileKey) (got : Got) (finish : Option Finish)
    → ((reading : Reading) → got ≡ Ok reading → all key ≡ Some reading)
    → StaysTrue all h (with_entry h seat (what_of key got finish))
true_on arrival others all h seat key (Ok reading) None says = arrival all h seat key reading (says reading refl)
true_on arrival others all h seat key (Ok reading) (Some f) says = others all h seat (taken key reading (Some f)) refl
true_on arrival others all h seat key (Err Link) finish says = others all h seat (what_of key (Err Link) finish) refl
true_on arrival others all h seat key (Err NotCached) finish says = others all h seat (what_of key (Err NotCached) finish) refl
true_on arrival others all h seat key (Err (Disk call)) finish says = others all h seat (what_of key (Err (Disk call)) finish) refl
true_on arrival others all h seat key (Err NoMemory) finish says = others all h seat (what_of key (Err NoMemory) finish) refl

-- what getting a file says of the counts
pub record Fetched (plan : Plan) (key : FileKey) (before now : Counts) (got : Got) : Type 0 where
  pub link : HasLinkFault before.faults now.faults (failure got)
  pub failing : Failing (url_in plan key) before.failed now.failed (failure got)
  pub online : IsErrOf got Link → plan.mode ≢ Offline
  pub not_cached : IsErrOf got NotCached → plan.mode ≡ Offline
  pub disk : HasDiskFault before.disk_faults now.disk_faults now.disk_last (failure got)

pub cost_of : (plan : Plan) (key : FileKey) (before now : Counts) (got : Got) (finish : Option Finish)
    → Fetched plan key before now got → costs plan (what_of key got finish) before now
cost_of plan key before now (Ok reading) None is = tt
cost_of plan key before now (Ok reading) (Some f) is = tt
cost_of plan key before now (Err Link) finish is =
    record { online = is.online refl; rose = is.link.rose refl; url = is.failing.added refl }
cost_of plan key before now (Err NotCached) finish is = is.not_cached refl
cost_of plan key before now (Err (Disk call)) finish is = tt
cost_of plan key before now (Err NoMemory) finish is = tt

some_same : {A : Type 0} (x : A) (o : Option A) (y : A) → o ≡ Some x → o ≡ Some y → x ≡ y
some_same x o y one two = some_injective (sym one ∙ two)
  where
    some_injective : {A : Type 0} {x y : A} → Some x ≡ Some y → x ≡ y
    some_injective e = cc

is_some : {A : Type 0} (x : A) (o : Option A) → o ≡ Some x → IsSome o
is_some x o is = subst (λ o. IsSome o) (sym is) refl

module _ (ended : Option EndCause) (plan : Plan) (key : FileKey) (before now : Counts) where
  -- want of memory
  by_memory : (finish : Option Finish) → finish ≡ Some finishes.Memory → ended ≡ Some causes.Memory → (f : Finish) → finish ≡ Some f
      → EndsBy ended before now f
  by_memory finish is gone f one = subst (λ x. EndsBy ended before now x) (some_same finishes.Memory finish f is one) gone

  pub ends_by : (got : Got) (finish : Option Finish) → Fetched plan key before now got → MayEnd got finish ended
      → (f : Finish) → finish ≡ Some f → EndsBy ended before now f
  ends_by (Ok reading) None is may f one = none_some None f refl one
  ends_by (Ok reading) (Some g) is may f one = by_memory (Some g) (ap Some may.0) may.1 f one
  ends_by (Err Link) finish is may f one = none_some finish f may.0 one
  ends_by (Err NotCached) finish is may f one = none_some finish f may.0 one
  ends_by (Err (Disk call)) finish is may f one =
      subst (λ x. EndsBy ended before now x) (some_same (finishes.Disk call) finish f may.0 one)
      (is.disk.rose call refl, is.disk.last_call call refl, may.1)
  ends_by (Err NoMemory) finish is may f one = by_memory finish may.0 may.1 f one

-- the same over counts that were earlier
pub ends_earlier : (ended : Option EndCause) (one two three : Counts) (finish : Finish) → one.disk_faults ≤ two.disk_faults
    → EndsBy ended two three finish → EndsBy ended one three finish
ends_earlier ended one two three finishes.Over le is = is
ends_earlier ended one two three (finishes.Stuck key why) le is = is
ends_earlier ended one two three finishes.TooMany le is = is
ends_earlier ended one two three (finishes.Disk call) le is =
    (rose_on one.disk_faults two.disk_faults three.disk_faults le is.0, is.1, is.2)
ends_earlier ended one two three finishes.Memory le is = is

-- so the work on a board is finished, and something ended it
pub finish_of : {V : Type 0} (r : Resolver V) (desk : Desk) (before now : Counts) (finish : Finish)
    → EndsBy desk.ended before now finish → IsFinish r desk before now finish × IsSome desk.ended
finish_of r desk before now finishes.Over is = absurd is
finish_of r desk before now (finishes.Stuck key why) is = absurd is
finish_of r desk before now finishes.TooMany is = absurd is
finish_of r desk before now (finishes.Disk call) is = (is, is_some (causes.Disk call) desk.ended is.2)
finish_of r desk before now finishes.Memory is = (is, is_some causes.Memory desk.ended is)

-- A batch of claims, and their ends, make a turn; and so does an answer without a claim.
use Rattle.std.proofs.Common.{◌≡◌, ◌≤◌, ◌<◌, ◌+◌, ◌*◌, ◌&&◌, ℕ, Bool, true, false, cond, List, [], ◌∷◌, Option, None, refl, sym, ◌∙◌, ap, subst, arith, length}
use Rattle.std.specs.Prelude.{IsSome}
use Rattle.std.proofs.Math.Nat.{add-mul}
use Rattle.std.proofs.lemmas.List.Sums.{sum_by-cons}
use Rattle.arrival_core.specs.Resolving.{resolver_of}
use Rattle.cache_store.specs.Stands.{disk_of}
use Rattle.cache_store.specs.declared.store.Store.{Store}
use Rattle.claim_rules.specs.Counts.{claims, claims_that, is_claim}
use Rattle.claim_rules.specs.Histories.{claim, Entry, History, any_in_flight}
use Rattle.claim_rules.specs.Legal.{Legal, StopsFrom}
use Rattle.claim_rules.specs.Resolvers.{Resolver}
use Rattle.claim_rules.specs.declared.settings.Settings.{Settings}
use Rattle.disk_base.specs.declared.disk_errors.DiskCall.{DiskCall}
use Rattle.fetch_pool.proofs.Batching.{Steps, claims_each, returns_each, stops_each, works_each}
use Rattle.fetch_pool.proofs.Settling.{finish_of}
use Rattle.fetch_pool.specs.Boards.{IsSameBoard, desk_of}
use Rattle.fetch_pool.specs.Claimed.{Answers}
use Rattle.fetch_pool.specs.Ends.{EndsBy}
use Rattle.fetch_pool.specs.Flights.{with_each}
use Rattle.fetch_pool.specs.Turns.{AreMore, EndsSome, GoesOnSo, most_claims}
use Rattle.fetch_pool.specs.declared.board.Board.{Board}
use Rattle.pool_rules.specs.Boards.{Desk, IsReady, all_returns}
use Rattle.pool_rules.specs.Counts.{Counts, counts_of}
use Rattle.pool_rules.specs.Ends.{IsFinish, IsWorked}
use Rattle.pool_rules.specs.Plans.{IsPlanFor, files_in}
use Rattle.pool_rules.specs.Works.{AddsNothing, AsksFor, IsGoing, IsSameJob, Works}
use Rattle.pool_rules.specs.Worlds.{StaysTrue}
use Rattle.pool_rules.specs.declared.finish.Finish.{Finish}
use Rattle.pool_rules.specs.declared.finish.Finish.TheVariants as finishes
use Rattle.res_base.specs.Known.{Known}
use Rattle.res_base.specs.declared.key.FileKey.{FileKey}
use Rattle.resolution.specs.declared.ask.Ask.{Ask}
use Rattle.resolution.specs.declared.verdict.Verdict.{Verdict}

-- what the rules of work say
pub record Laws : Type 0 where
  pub steps : Steps
  pub waits : (h : History) → StopsFrom (length h) h
  pub answered : (r : Resolver Verdict) (old new : Desk) (before now : Counts) (finish : Finish) → IsGoing old new before now
      → Legal new.settings r new.history → IsFinish r new before now finish → IsWorked r old new before now finish
  pub asks_nothing : (may : FileKey → Bool) (old new : Desk) (before now : Counts) → AddsNothing old new
      → now.asked ≤ before.asked → AsksFor may old new before now

-- the claims of keys of which each passes are all claims
all_claims : (h : History) → claims_that (λ one. true) h ≡ claims h
all_claims [] = refl
all_claims (e ∷ h) =
    sum_by-cons (λ (x : Entry). cond (is_claim x.what && true) 1 0) e h
    ∙ (ap (λ b. cond b 1 0 + claims_that (λ one. true) h) (and_true (is_claim e.what))
    ∙ ap (λ n. cond (is_claim e.what) 1 0 + n) (all_claims h))
    ∙ sym (sum_by-cons (λ (x : Entry). cond (is_claim x.what) 1 0) e h)
  where
    and_true : (b : Bool) → (b && true) ≡ b
    and_true true = refl
    and_true false = refl

module _ (laws : Laws) (old mid new : Desk) (seat : ℕ) (keys : List FileKey) (before now : Counts)
    (first : IsSameJob old mid) (claimed : mid.history ≡ with_each old.history seat (λ key. claim key) keys)
    (ends : EndsSome mid new before now (length keys)) where
  pub batch_works : Works old new before now
  batch_works =
      laws.steps.on old mid new before before now
      (works_each seat (λ key. claim key) laws.steps old mid before keys (λ key. tt) first claimed) ends.works

  counted : claims new.history ≡ claims old.history + length keys
  counted = ends.same ∙ ap claims claimed ∙ claims_each seat old.history keys

  pub batch_stops : StopsFrom (length old.history) new.history
  batch_stops =
      ends.stops (length old.history)
      (subst (λ h. StopsFrom (length old.history) h) (sym claimed) (stops_each seat old.history keys))

  pub batch_going : GoesOnSo mid new → any_in_flight new.history ≡ false → IsGoing old new before now
  batch_going goes landed = record {
    works = batch_works;
    kept = goes.kept ∙ ap all_returns claimed ∙ returns_each seat old.history keys;
    landed = landed;
    going = goes.going;
  }

  pub batch_worked : (r : Resolver Verdict) → Legal new.settings r new.history → any_in_flight new.history ≡ false
      → (f : Finish) → EndsBy new.ended before now f → IsWorked r old new before now f
  batch_worked r legal landed f by = record {
    works = batch_works;
    legal = legal;
    landed = landed;
    given = λ back. (finish_of r new before now f by).1;
    stops = batch_stops;
    ends = (finish_of r new before now f by).0;
  }

  pub batch_few : AsksFor (λ one. true) old new before now
  batch_few =
      let same_files : files_in mid.plan ≡ files_in old.plan = ap files_in first.plan in
      let few : now.asked ≤ before.asked + length keys * files_in old.plan =
      subst (λ k. now.asked ≤ before.asked + length keys * k) same_files ends.few in
      let more : claims_that (λ one. true) new.history ≡ claims_that (λ one. true) old.history + length keys =
      all_claims new.history ∙ counted ∙ ap (λ n. n + length keys) (sym (all_claims old.history)) in
      subst (λ n. now.asked + claims_that (λ one. true) old.history * files_in old.plan ≤ before.asked + n * files_in old.plan)
      (sym more)
      (files_more now.asked before.asked (claims_that (λ one. true) old.history) (length keys) (files_in old.plan) few)
    where
      files_more : (a b c n k : ℕ) → a ≤ b + n * k → a + c * k ≤ b + (c + n) * k
      files_more a b c n k le = omega (arith, le, add-mul c n k)

  pub batch_more : claims old.history < most_claims old.settings → 0 < length keys → AreMore old new
  batch_more room some = record { room = room; more = omega (arith, counted, some) }

module _ (laws : Laws) (old new : Desk) (counts : Counts) (r : Resolver Verdict) (job : IsSameJob old new)
    (history : new.history ≡ old.history) (ready : IsReady old) (legal : Legal new.settings r new.history) where
  none_adds : AddsNothing old new
  none_adds = record { job = job; history = history }

  none_works : Works old new counts counts
  none_works = laws.steps.nothing old new counts counts none_adds (laws.steps.same old.plan counts)

  none_landed : any_in_flight new.history ≡ false
  none_landed = ap any_in_flight history ∙ ready.landed

  none_going : new.ended ≡ None → IsGoing old new counts counts
  none_going going = record { works = none_works; kept = ap all_returns history; landed = none_landed; going = going }

  pub none_worked : (finish : Finish) → Answers r new finish → IsWorked r old new counts counts finish
  none_worked finishes.Over is = laws.answered r old new counts counts finishes.Over (none_going is.1) legal is
  none_worked (finishes.Stuck key why) is = laws.answered r old new counts counts (finishes.Stuck key why) (none_going is.1) legal is
  none_worked finishes.TooMany is = laws.answered r old new counts counts finishes.TooMany (none_going is.1) legal is
  none_worked (finishes.Disk call) is = absurd is
  none_worked finishes.Memory is = record {
    works = none_works;
    legal = legal;
    landed = none_landed;
    given = λ back. subst (λ o. IsSome o) (sym is) refl;
    stops = subst (λ h. StopsFrom (length old.history) h) (sym history) (laws.waits old.history);
    ends = is;
  }

  pub none_few : AsksFor (λ one. true) old new counts counts
  none_few = laws.asks_nothing (λ one. true) old new counts counts none_adds (omega arith)

-- the same of boards, of a link and of a disk
module _ {L D : Type 0} (faults asked : L → ℕ) (urls : L → Option (List (List ℕ))) (disk_faults : D → ℕ)
    (disk_last : D → Option DiskCall) (laws : Laws) (old mid new : Board D) (link after : L) (seat : ℕ) (keys : List FileKey)
    (same : IsSameBoard old mid)
    (claimed : mid.core.history ≡ with_each old.core.history seat (λ key. claim key) keys)
    (ends : EndsSome (desk_of mid) (desk_of new) (counts_of faults asked urls disk_faults disk_last link (disk_of mid.store))
    (counts_of faults asked urls disk_faults disk_last after (disk_of new.store)) (length keys)) where
  abbrev at : Store D → Counts
  at s = counts_of faults asked urls disk_faults disk_last link (disk_of s)

  abbrev now : Counts
  now = counts_of faults asked urls disk_faults disk_last after (disk_of new.store)

  ends_here : EndsSome (desk_of mid) (desk_of new) (at old.store) now (length keys)
  ends_here = subst (λ (s : Store D). EndsSome (desk_of mid) (desk_of new) (at s) now (length keys)) same.store ends

  first : IsSameJob (desk_of old) (desk_of mid)
  first = record { settings = same.settings; plan = same.plan }

  pub board_going : GoesOnSo (desk_of mid) (desk_of new) → any_in_flight new.core.history ≡ false
      → IsGoing (desk_of old) (desk_of new) (at old.store) now
  board_going goes landed =
      batch_going laws (desk_of old) (desk_of mid) (desk_of new) seat keys (at old.store) now first claimed ends_here goes landed

  pub board_worked : new.core.ask ≡ mid.core.ask → Legal new.core.settings (resolver_of new.core.ask) new.core.history
      → any_in_flight new.core.history ≡ false → (f : Finish) → EndsBy new.ended (at mid.store) now f
      → IsWorked (resolver_of old.core.ask) (desk_of old) (desk_of new) (at old.store) now f
  board_worked ask legal landed f by =
      batch_worked laws (desk_of old) (desk_of mid) (desk_of new) seat keys (at old.store) now first claimed ends_here
      (resolver_of old.core.ask)
      (subst (λ (a : Ask). Legal new.core.settings (resolver_of a) new.core.history) (ask ∙ same.ask) legal) landed f
      (subst (λ (s : Store D). EndsBy new.ended (at s) now f) same.store by)

  pub board_few : AsksFor (λ one. true) (desk_of old) (desk_of new) (at old.store) now
  board_few = batch_few laws (desk_of old) (desk_of mid) (desk_of new) seat keys (at old.store) now first claimed ends_here

  pub board_more : claims old.core.history < most_claims old.core.settings → 0 < length keys
      → AreMore (desk_of old) (desk_of new)
  board_more room some =
      batch_more laws (desk_of old) (desk_of mid) (desk_of new) seat keys (at old.store) now first claimed ends_here room some

-- nothing that is known changes by an entry without an answer, or without an entry
pub none_known : (all : Known) (h g : History) → g ≡ h → StaysTrue all h g
none_known all h g same = subst (λ g. StaysTrue all h g) (sym same) (λ x. x)

-- between two turns a board may be worked on
pub still_ready : (old new : Desk) (before after : Counts) → IsReady old → IsGoing old new before after → IsReady new
still_ready old new before after ready going = record {
  going = going.going;
  landed = going.landed;
  planned = subst (λ (s : Settings). IsPlanFor s.repos new.plan) (sym going.works.job.settings)
      (subst (λ p. IsPlanFor old.settings.repos p) (sym going.works.job.plan) ready.planned);
}

-- Claims of a batch end one after the other; where the work ends, those that are left are given back.
use Rattle.std.proofs.Common.{◌≡◌, ◌≤◌, ◌+◌, ℕ, List, Option, None, sym, ◌∙◌, ap, subst, arith}
use Rattle.cache_store.specs.Stands.{disk_of}
use Rattle.cache_store.specs.declared.store.Store.{Store}
use Rattle.claim_rules.specs.Counts.{is_return}
use Rattle.claim_rules.specs.Histories.{Entry, give_back}
use Rattle.disk_base.specs.declared.disk_errors.DiskCall.{DiskCall}
use Rattle.fetch_pool.proofs.Batching.{Steps, ends_back, ends_most, ends_on, ends_one}
use Rattle.fetch_pool.proofs.Settling.{ends_earlier}
use Rattle.fetch_pool.specs.Boards.{IsSameBoard, desk_of}
use Rattle.fetch_pool.specs.Ends.{EndsBy}
use Rattle.fetch_pool.specs.Flights.{with_each}
use Rattle.fetch_pool.specs.Turns.{EndsClaim, EndsSome, GoesOnSo}
use Rattle.fetch_pool.specs.declared.board.Board.{Board}
use Rattle.pool_rules.proofs.Counting.{none_more}
use Rattle.pool_rules.specs.Boards.{Desk, all_returns}
use Rattle.pool_rules.specs.Counts.{AreLater, Counts, counts_of}
use Rattle.pool_rules.specs.Plans.{files_in}
use Rattle.pool_rules.specs.Works.{IsSameJob, by_seat}
use Rattle.pool_rules.specs.declared.finish.EndCause.{EndCause}
use Rattle.pool_rules.specs.declared.finish.Finish.{Finish}
use Rattle.res_base.specs.declared.key.FileKey.{FileKey}

pub goes_on_so : (first mid new : Desk) (seat : ℕ) (key : FileKey) (before now : Counts) (finish : Option Finish)
    → GoesOnSo first mid → EndsClaim mid new seat key before now finish → finish ≡ None → GoesOnSo first new
goes_on_so first mid new seat key before now finish goes ends none = record {
  kept = ap all_returns ends.history
      ∙ none_more (λ (e : Entry). is_return e.what) mid.history (by_seat seat ends.what) (ends.goes none).0 ∙ goes.kept;
  going = (ends.goes none).1;
}

module _ {L D : Type 0} (faults asked : L → ℕ) (urls : L → Option (List (List ℕ))) (disk_faults : D → ℕ)
    (disk_last : D → Option DiskCall) (laws : Steps) where
  abbrev at : L → Store D → Counts
  at l s = counts_of faults asked urls disk_faults disk_last l (disk_of s)

  -- one claim more ended
  pub all_on : (a b d : Board D) (l m n : L) (seat : ℕ) (key : FileKey) (i : ℕ) (finish : Option Finish)
      → EndsSome (desk_of a) (desk_of b) (at l a.store) (at m b.store) i → IsSameJob (desk_of b) (desk_of d)
      → AreLater b.plan (at m b.store) (at n d.store)
      → EndsClaim (desk_of b) (desk_of d) seat key (at m b.store) (at n d.store) finish
      → asked n ≤ asked m + files_in b.plan → EndsSome (desk_of a) (desk_of d) (at l a.store) (at n d.store) (i + 1)
  all_on a b d l m n seat key i finish some job later ends few =
      ends_on laws (desk_of a) (desk_of b) (desk_of d) (at l a.store) (at m b.store) (at n d.store) i 1 some
      (ends_one laws (desk_of b) (desk_of d) seat key (at m b.store) (at n d.store) finish job later ends few)

  -- and those that are left were given back
  pub all_back : (a d e : Board D) (l n : L) (seat : ℕ) (keys : List FileKey) (i k : ℕ) → i ≤ k
      → EndsSome (desk_of a) (desk_of d) (at l a.store) (at n d.store) i → IsSameBoard d e
      → e.core.history ≡ with_each d.core.history seat (λ key. give_back key) keys
      → EndsSome (desk_of a) (desk_of e) (at l a.store) (at n e.store) k
  all_back a d e l n seat keys i k le some same history =
      ends_most laws (desk_of a) (desk_of e) (at l a.store) (at n e.store) (i + 0) k (omega (arith, le))
      (ends_on laws (desk_of a) (desk_of d) (desk_of e) (at l a.store) (at n e.store) (at n e.store) i 0
      (subst (λ (s : Store D). EndsSome (desk_of a) (desk_of d) (at l a.store) (at n s) i) (sym same.store) some)
      (ends_back laws (desk_of d) (desk_of e) (at n e.store) seat keys (record { settings = same.settings; plan = same.plan }) history))

  -- by which the work stays ended
  pub all_stopped : (a b d e : Board D) (l m n : L) (i : ℕ) (f : Finish)
      → EndsSome (desk_of a) (desk_of b) (at l a.store) (at m b.store) i → EndsBy d.ended (at m b.store) (at n d.store) f
      → IsSameBoard d e → e.ended ≡ d.ended → EndsBy e.ended (at l a.store) (at n e.store) f
  all_stopped a b d e l m n i f some by same ended =
      subst (λ (o : Option EndCause). EndsBy o (at l a.store) (at n e.store) f) (sym ended)
      (subst (λ (s : Store D). EndsBy d.ended (at l a.store) (at n s) f) (sym same.store)
      (ends_earlier d.ended (at l a.store) (at m b.store) (at n d.store) f some.works.later.disk_faults by))

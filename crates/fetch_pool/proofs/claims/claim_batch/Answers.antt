use Rattle.std.proofs.Common.{◌≡◌, ◌<◌, ℕ, [], ◌∷◌, ◌++◌, List, sym, ap, subst, ◌∙◌, arith, length, length-append}
use Rattle.arrival_core.specs.Resolving.{resolver_of}
use Rattle.claim_rules.specs.Claims.{claim_of}
use Rattle.claim_rules.specs.Histories.{History, claim}
use Rattle.claim_rules.specs.declared.claim.Claim.TheVariants.{Claimed}
use Rattle.claim_rules.specs.declared.settings.Settings.{Settings}
use Rattle.fetch_pool.proofs.Batching.{each_last, each_none}
use Rattle.fetch_pool.proofs.Flights.{due_more, due_none}
use Rattle.fetch_pool.proofs.Keeping.{board_on}
use Rattle.fetch_pool.specs.Boards.{IsSameBoard}
use Rattle.fetch_pool.specs.Flights.{AreDue, with_each}
use Rattle.fetch_pool.specs.declared.board.Board.{Board}
use Rattle.pool_rules.specs.Works.{with_entry}
use Rattle.res_base.specs.declared.key.FileKey.{FileKey}
use Rattle.resolution.specs.declared.ask.Ask.{Ask}
use Rattle.fetch_pool.proofs.claims.claim_batch.Goals as goal

-- what a claim answers by the board now, it answers by the board before
due_before : {D : Type 0} (old new : Board D) (h : History) (key : FileKey) → IsSameBoard old new
    → claim_of new.core.settings (resolver_of new.core.ask) h ≡ Claimed key
    → claim_of old.core.settings (resolver_of old.core.ask) h ≡ Claimed key
due_before old new h key same due =
    subst (λ (a : Ask). claim_of old.core.settings (resolver_of a) h ≡ Claimed key) same.ask
    (subst (λ (s : Settings). claim_of s (resolver_of new.core.ask) h ≡ Claimed key) same.settings due)

-- one key more
longer : (keys : List FileKey) (key : FileKey) → 0 < length (keys ++ key ∷ [])
longer keys key = omega (arith, length-append keys (key ∷ []))

-- one claim more of such a batch
claimed_on : (h g t : History) (seat : ℕ) (keys : List FileKey) (key : FileKey) → g ≡ with_each h seat (λ one. claim one) keys
    → t ≡ with_entry g seat (claim key) → t ≡ with_each h seat (λ one. claim one) (keys ++ key ∷ [])
claimed_on h g t seat keys key first second =
    second ∙ ap (λ (x : History). with_entry x seat (claim key)) first ∙ each_last seat (λ one. claim one) h keys key

pub batch-init : goal.batch-init
batch-init g c =
    let old = c.args.board.now in
    let one = c.claim_one.new.board in
    let seat = c.args.seat in
    let key : FileKey = c.in_ok-first.first in
    let keys : List FileKey = c.push_reserved.new.self.items in
    let held : keys ≡ [] ++ key ∷ [] =
    c.push_reserved.ensures.items ∙ ap (λ (xs : List FileKey). xs ++ key ∷ []) c.in-Ok.ensures.items in
    let landed = c.claimed_lands.ensures old.core.settings old.core.ask old.core.history key c.in_ok-first.ensures.due in
    let may = c.can_ask.ensures old.core.settings old.core.ask old.core.history old.plan key c.requires.repos
    c.requires.ready.planned c.in_ok-first.ensures.due in
    record {
      same = c.claim_one.ensures.same;
      claimed =
          claimed_on old.core.history old.core.history one.core.history seat [] key
          (each_none seat (λ one. claim one) old.core.history) c.in_ok-first.ensures.claimed
          ∙ ap (λ (xs : List FileKey). with_each old.core.history seat (λ one. claim one) xs) (sym held);
      due = subst (λ (xs : List FileKey). AreDue old.plan one.core.history seat xs) (sym held)
          (due_more c.equality_decided.ensures.keys old.plan old.core.history one.core.history seat [] key
          (due_none c.flights_told.ensures.any old.plan old.core.history seat c.requires.ready.landed) landed may
          c.in_ok-first.ensures.claimed);
      some = subst (λ (xs : List FileKey). 0 < length xs) (sym held) (longer [] key);
      room = c.claims_have_room.ensures old.core.settings old.core.ask old.core.history key c.in_ok-first.ensures.due;
      going = c.in_ok-first.ensures.going;
      caught_up = c.in_ok-first.ensures.caught_up;
    }

pub batch-preserved : goal.batch-preserved
batch-preserved g c =
    let old = c.args.board.now in
    let mid = c.batch.board in
    let new = c.claim_further.new.board in
    let seat = c.args.seat in
    let key : FileKey = c.in-Some.key in
    let was : List FileKey = c.batch.keys.items in
    let keys : List FileKey = c.push_reserved-in-Some.new.self.items in
    let held : keys ≡ was ++ key ∷ [] =
    c.push_reserved-in-Some.ensures.items ∙ ap (λ (xs : List FileKey). xs ++ key ∷ []) c.claim_further.ensures.keys in
    let due = due_before old mid mid.core.history key c.batch.invariant.same c.in-Some.ensures.due in
    let landed = c.claimed_lands.ensures old.core.settings old.core.ask mid.core.history key due in
    let may = c.can_ask.ensures old.core.settings old.core.ask mid.core.history old.plan key c.requires.repos
    c.requires.ready.planned due in
    record {
      same = board_on old mid new c.batch.invariant.same c.claim_further.ensures.same;
      claimed =
          claimed_on old.core.history mid.core.history new.core.history seat was key c.batch.invariant.claimed
          c.in-Some.ensures.claimed
          ∙ ap (λ (xs : List FileKey). with_each old.core.history seat (λ one. claim one) xs) (sym held);
      due = subst (λ (xs : List FileKey). AreDue old.plan new.core.history seat xs) (sym held)
          (due_more c.equality_decided.ensures.keys old.plan mid.core.history new.core.history seat was key
          c.batch.invariant.due landed may c.in-Some.ensures.claimed);
      some = subst (λ (xs : List FileKey). 0 < length xs) (sym held) (longer was key);
      room = c.batch.invariant.room;
      going = c.claim_further.ensures.ended ∙ c.batch.invariant.going;
      caught_up = c.claim_further.ensures.caught_up;
    }

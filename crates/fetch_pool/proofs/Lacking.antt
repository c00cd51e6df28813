-- Which keys the cache is said to lack, after one more entry.
use Rattle.std.proofs.Common.{◌≡◌, ◌⊎◌, inl, inr, ℕ, Bool, true, false, ◌||◌, ◌&&◌, Option, Some, None, Ok, Err, refl, sym, ◌∙◌, ap, subst, true≢false}
use Rattle.std.specs.Prelude.{IsErrOf}
use Rattle.cache_policy.specs.declared.Decision.TheVariants.{Unavailable}
use Rattle.claim_rules.proofs.EntryLemmas.{any_more}
use Rattle.claim_rules.specs.Counts.{is_lack, is_lacking, is_of}
use Rattle.claim_rules.specs.Histories.{What, History, key_in}
use Rattle.disk_base.specs.Names.{Names, read_name}
use Rattle.fetch_pool.proofs.Settling.{Got}
use Rattle.fetch_pool.specs.Ends.{what_of}
use Rattle.fetch_pool.specs.Turns.{LacksOnly}
use Rattle.file_fetch.specs.Decided.{decided_in}
use Rattle.file_fetch.specs.declared.errors.GetErr.TheVariants.{Link, NotCached, Disk, NoMemory}
use Rattle.pool_rules.specs.Works.{by_seat, with_entry}
use Rattle.pool_rules.specs.declared.finish.Finish.{Finish}
use Rattle.pool_rules.specs.declared.plan.Plan.{Plan}
use Rattle.res_base.specs.Names.{key_eq}
use Rattle.res_base.specs.declared.key.FileKey.{FileKey}

or_split : (a b : Bool) → (a || b) ≡ true → (a ≡ true) ⊎ (b ≡ true)
or_split true b is = inl refl
or_split false b is = inr is

-- a key that is lacking after one more entry was so before, or by this entry
split : (h : History) (seat : ℕ) (what : What) (key : FileKey) → is_lacking (with_entry h seat what) key ≡ true
    → (is_lacking h key ≡ true) ⊎ (is_of is_lack key (by_seat seat what) ≡ true)
split h seat what key is =
    or_split (is_lacking h key) (is_of is_lack key (by_seat seat what)) (sym (any_more (is_of is_lack key) h (by_seat seat what)) ∙ is)

pub lacks_none : (plan : Plan) (told : Option Names) (h : History) (seat : ℕ) (what : What) → is_lack what ≡ false
    → LacksOnly plan told h (with_entry h seat what)
lacks_none plan told h seat what none s at key is = by (split h seat what key is)
  where
    by : (is_lacking h key ≡ true) ⊎ (is_of is_lack key (by_seat seat what) ≡ true)
        → (is_lacking h key ≡ true) ⊎ (decided_in plan key (read_name s) ≡ Unavailable)
    by (inl x) = inl x
    by (inr x) = absurd (true≢false (sym x ∙ ap (λ b. b && key_eq (key_in what) key) none))

lacks_this : ((a b : FileKey) → key_eq a b ≡ true → a ≡ b) → (plan : Plan) (told : Option Names) (h : History) (seat : ℕ)
    → (one : FileKey) (what : What) → key_in what ≡ one
    → ((s : Names) → told ≡ Some s → decided_in plan one (read_name s) ≡ Unavailable)
    → LacksOnly plan told h (with_entry h seat what)
lacks_this same plan told h seat one what of says s at key is = by (split h seat what key is)
  where
    second : (a b : Bool) → (a && b) ≡ true → b ≡ true
    second true b e = e
    second false b e = absurd (true≢false (sym e))

    by : (is_lacking h key ≡ true) ⊎ (is_of is_lack key (by_seat seat what) ≡ true)
        → (is_lacking h key ≡ true) ⊎ (decided_in plan key (read_name s) ≡ Unavailable)
    by (inl x) = inl x
    by (inr x) =
        let is_key : one ≡ key = sym of ∙ same (key_in what) key (second (is_lack what) (key_eq (key_in what) key) x) in
        inr (subst (λ k. decided_in plan k (read_name s) ≡ Unavailable) is_key (says s at))

pub lacks_end : ((a b : FileKey) → key_eq a b ≡ true → a ≡ b) → (plan : Plan) (told : Option Names) (h : History) (seat : ℕ)
    → (key : FileKey) (got : Got) (finish : Option Finish)
    → ((s : Names) → told ≡ Some s → IsErrOf got NotCached → decided_in plan key (read_name s) ≡ Unavailable)
    → LacksOnly plan told h (with_entry h seat (what_of key got finish))
lacks_end same plan told h seat key (Ok reading) None says = lacks_none plan told h seat (what_of key (Ok reading) None) refl
lacks_end same plan told h seat key (Ok reading) (Some f) says = lacks_none plan told h seat (what_of key (Ok reading) (Some f)) refl
lacks_end same plan told h seat key (Err Link) finish says = lacks_none plan told h seat (what_of key (Err Link) finish) refl
lacks_end same plan told h seat key (Err NotCached) finish says =
    lacks_this same plan told h seat key (what_of key (Err NotCached) finish) refl (λ s at. says s at refl)
lacks_end same plan told h seat key (Err (Disk call)) finish says = lacks_none plan told h seat (what_of key (Err (Disk call)) finish) refl
lacks_end same plan told h seat key (Err NoMemory) finish says = lacks_none plan told h seat (what_of key (Err NoMemory) finish) refl

pub lacks_same : (plan : Plan) (told : Option Names) (h g : History) → g ≡ h → LacksOnly plan told h g
lacks_same plan told h g same s at key is = inl (subst (λ g. is_lacking g key ≡ true) same is)

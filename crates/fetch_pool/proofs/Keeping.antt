-- What is kept is kept on.
use Rattle.std.proofs.Common.{true≢false, ◌≡◌, ◌≤◌, ◌⊎◌, inl, inr, ℕ, List, [], ◌++◌, Option, Some, None, refl, sym, ◌∙◌, ap, subst, arith, append_assoc, append-nil, true, false}
use Rattle.std.specs.Prelude.{IsSome}
use Rattle.std.specs.Option.{option_map}
use Rattle.cache_images.specs.Sound.{IsFaithful, IsSound}
use Rattle.cache_policy.specs.declared.Decision.TheVariants.{Unavailable}
use Rattle.cache_policy.specs.declared.Mode.TheVariants.{Offline}
use Rattle.cache_store.specs.Stands.{disk_of}
use Rattle.cache_store.specs.declared.store.Store.{Store}
use Rattle.claim_rules.specs.Counts.{is_lack, is_lacking}
use Rattle.claim_rules.specs.Histories.{What, History, pair_in}
use Rattle.disk_base.specs.Images.{Image, IsImageOf}
use Rattle.disk_base.specs.Names.{Names, read_name}
use Rattle.disk_base.specs.Runs.{Keeps}
use Rattle.fetch_pool.proofs.Batching.{lacks_each, true_each}
use Rattle.fetch_pool.specs.Boards.{IsSameBoard, desk_of}
use Rattle.fetch_pool.specs.Flights.{with_each}
use Rattle.fetch_pool.specs.Turns.{AllNow, Kept, LacksOnly, TellsNames}
use Rattle.fetch_pool.specs.declared.board.Board.{Board}
use Rattle.file_fetch.specs.Decided.{decided_in}
use Rattle.file_fetch.specs.Worlds.{IsFaithfulTo}
use Rattle.link_base.specs.Links.{FailedLonger, LinkKept, Rows}
use Rattle.pool_rules.specs.Boards.{Desk}
use Rattle.pool_rules.specs.Works.{IsSameJob, with_entry}
use Rattle.pool_rules.specs.Worlds.{StaysTrue, whole_of}
use Rattle.pool_rules.specs.declared.plan.Plan.{Plan}
use Rattle.res_base.specs.Known.{Known}
use Rattle.res_base.specs.declared.key.FileKey.{FileKey}

module _ {D : Type 0} (told : D → Option Names) (moment : D → ℕ) (since : D → ℕ → Image → Type 0) where
  pub keeps_same : (P : Image → Type 0) (a : D) → Keeps told moment since P a a
  keeps_same P a = record { later = omega arith; now = λ all i x. all i x; each = λ all t i at s. inl s }

  pub keeps_on : (P : Image → Type 0) (a b c : D) → Keeps told moment since P a b → Keeps told moment since P b c
      → Keeps told moment since P a c
  keeps_on P a b c one two =
      record {
        later = omega (arith, one.later, two.later);
        now = λ all i x. two.now (one.now all) i x;
        each = λ all t i at s. by all t i at (two.each (one.now all) t i (omega (arith, at, one.later)) s);
      }
    where
      by : ((i : Image) → IsImageOf (told a) i → P i) → (t : ℕ) (i : Image) → t ≤ moment a → since b t i ⊎ P i
          → since a t i ⊎ P i
      by all t i at (inl s) = one.each all t i at s
      by all t i at (inr p) = inr p

longer_on : (x y z : Option (List (List ℕ))) → FailedLonger x y → FailedLonger y z → FailedLonger x z
longer_on None y z one two = (one.0, two.1 ∙ ap (option_map (λ urls. urls ++ two.0)) one.1)
longer_on (Some urls) y z one two =
    (one.0 ++ two.0, two.1 ∙ ap (option_map (λ urls. urls ++ two.0)) one.1 ∙ ap Some (append_assoc urls one.0 two.0))

longer_same : (x : Option (List (List ℕ))) → FailedLonger x x
longer_same None = ([], refl)
longer_same (Some urls) = ([], ap Some (sym (append-nil urls)))

pub same_on : (a b c : Desk) → IsSameJob a b → IsSameJob b c → IsSameJob a c
same_on a b c one two = record { settings = two.settings ∙ one.settings; plan = two.plan ∙ one.plan }

pub board_on : {D : Type 0} (a b c : Board D) → IsSameBoard a b → IsSameBoard b c → IsSameBoard a c
board_on a b c one two = record {
  ask = two.ask ∙ one.ask;
  settings = two.settings ∙ one.settings;
  plan = two.plan ∙ one.plan;
  store = two.store ∙ one.store;
  rows = two.rows ∙ one.rows;
}

module _ {L D : Type 0} (agrees : L → Rows → Type 0) (faults asked : L → ℕ) (failed : L → Option (List (List ℕ)))
    (told : D → Option Names) (moment : D → ℕ) (since : D → ℕ → Image → Type 0) where
  link_on : (l m n : L) → LinkKept agrees faults asked failed l m → LinkKept agrees faults asked failed m n
      → LinkKept agrees faults asked failed l n
  link_on l m n one two = record {
    agreement = λ w x. two.agreement w (one.agreement w x);
    faults_later = omega (arith, one.faults_later, two.faults_later);
    asked_later = omega (arith, one.asked_later, two.asked_later);
    failed_longer = longer_on (failed l) (failed m) (failed n) one.failed_longer two.failed_longer;
  }

  pub link_same : (l : L) → LinkKept agrees faults asked failed l l
  link_same l = record {
    agreement = λ w x. x;
    faults_later = omega arith;
    asked_later = omega arith;
    failed_longer = longer_same (failed l);
  }

  pub kept_on : (a b c : Board D) (l m n : L) → Kept agrees faults asked failed told moment since a b l m
      → Kept agrees faults asked failed told moment since b c m n → Kept agrees faults asked failed told moment since a c l n
  kept_on a b c l m n one two =
      record {
        ask = two.ask ∙ one.ask;
        job = same_on (desk_of a) (desk_of b) (desk_of c) one.job two.job;
        rows = two.rows ∙ one.rows;
        link = link_on l m n one.link two.link;
        sound = keeps_on told moment since IsSound (disk_of a.store) (disk_of b.store) (disk_of c.store) one.sound two.sound;
        faithful = λ w x. keeps_on told moment since (IsFaithful w) (disk_of a.store) (disk_of b.store) (disk_of c.store)
            (one.faithful w x) (two.faithful w (one.link.agreement w x));
        known = known;
        still = λ off. two.still (mode ∙ off) ∙ one.still off;
        lacking = lacking;
      }
    where
      mode : b.plan.mode ≡ a.plan.mode
      mode = ap (λ (p : Plan). p.mode) one.job.plan

      lacking : a.plan.mode ≡ Offline → LacksOnly a.plan (told (disk_of a.store)) a.core.history c.core.history
      lacking off s at key is = by (two.lacking (mode ∙ off) s (one.still off ∙ at) key is)
        where
          by : (is_lacking b.core.history key ≡ true) ⊎ (decided_in b.plan key (read_name s) ≡ Unavailable)
              → (is_lacking a.core.history key ≡ true) ⊎ (decided_in a.plan key (read_name s) ≡ Unavailable)
          by (inl x) = one.lacking off s at key x
          by (inr x) = inr (subst (λ (p : Plan). decided_in p key (read_name s) ≡ Unavailable) one.job.plan x)

      known : (w : Rows) → agrees l w → TellsNames told → AllNow told (IsFaithful w) (disk_of a.store)
          → StaysTrue (whole_of a.plan w) a.core.history c.core.history
      known w x tells all g =
          let further : StaysTrue (whole_of a.plan w) b.core.history c.core.history =
          subst (λ (p : Plan). StaysTrue (whole_of p w) b.core.history c.core.history) one.job.plan
          (two.known w (one.link.agreement w x) tells ((one.faithful w x).now all)) in
          further (one.known w x tells all g)

  -- where the store is as before
  pub kept_by : (a b : Board D) (l : L) → IsSameBoard a b
      → ((w : Rows) → StaysTrue (whole_of a.plan w) a.core.history b.core.history)
      → LacksOnly a.plan (told (disk_of a.store)) a.core.history b.core.history
      → Kept agrees faults asked failed told moment since a b l l
  kept_by a b l same true_on lacks = record {
    ask = same.ask;
    job = record { settings = same.settings; plan = same.plan };
    rows = same.rows;
    link = link_same l;
    sound = stays IsSound;
    faithful = λ w x. stays (IsFaithful w);
    known = λ w x tells all g. true_on w g;
    still = λ off. ap (λ (s : Store D). told (disk_of s)) same.store;
    lacking = λ off. lacks;
  }
    where
      stays : (P : Image → Type 0) → Keeps told moment since P (disk_of a.store) (disk_of b.store)
      stays P = subst (λ (s : Store D). Keeps told moment since P (disk_of a.store) (disk_of s)) (sym same.store)
          (keeps_same told moment since P (disk_of a.store))

  -- where claims were made, or given back, for all of these keys
  pub kept_each : ((all : Known) (h : History) (seat : ℕ) (what : What) → pair_in what ≡ [] → StaysTrue all h (with_entry h seat what))
      → (seat : ℕ) (what : FileKey → What) → ((key : FileKey) → pair_in (what key) ≡ [])
      → ((key : FileKey) → is_lack (what key) ≡ false) → (a b : Board D) (l : L) (keys : List FileKey) → IsSameBoard a b
      → b.core.history ≡ with_each a.core.history seat what keys
      → Kept agrees faults asked failed told moment since a b l l
  kept_each others seat what none held a b l keys same history =
      kept_by a b l same
      (λ w. subst (λ h. StaysTrue (whole_of a.plan w) a.core.history h) (sym history)
      (true_each seat what others none (whole_of a.plan w) a.core.history keys))
      (subst (λ h. LacksOnly a.plan (told (disk_of a.store)) a.core.history h) (sym history)
      (lacks_each seat what held a.plan (told (disk_of a.store)) a.core.history keys))

  pub kept_same : (a : Board D) (l : L) → Kept agrees faults asked failed told moment since a a l l
  kept_same a l = kept_by a a l (record { ask = refl; settings = refl; plan = refl; store = refl; rows = refl }) (λ w g. g) (λ s at key is. inl is)

  -- after a file was got, which changed the store, and a hold, which left it
  pub kept_got : (a d : Board D) (s : Store D) (l m : L) → IsSameBoard (record a { store = s }) d
      → LinkKept agrees faults asked failed l m → Keeps told moment since IsSound (disk_of a.store) (disk_of s)
      → ((w : Rows) → agrees l w → Keeps told moment since (IsFaithful w) (disk_of a.store) (disk_of s))
      → ((w : Rows) → agrees l w → TellsNames told → AllNow told (IsFaithful w) (disk_of a.store)
      → StaysTrue (whole_of a.plan w) a.core.history d.core.history)
      → (a.plan.mode ≡ Offline → told (disk_of s) ≡ told (disk_of a.store))
      → LacksOnly a.plan (told (disk_of a.store)) a.core.history d.core.history
      → Kept agrees faults asked failed told moment since a d l m
  kept_got a d s l m same link sound faithful known still lacks = record {
    ask = same.ask;
    job = record { settings = same.settings; plan = same.plan };
    rows = same.rows;
    link = link;
    sound = at IsSound sound;
    faithful = λ w x. at (IsFaithful w) (faithful w x);
    known = known;
    still = λ off. ap (λ (t : Store D). told (disk_of t)) same.store ∙ still off;
    lacking = λ off. lacks;
  }
    where
      at : (P : Image → Type 0) → Keeps told moment since P (disk_of a.store) (disk_of s)
          → Keeps told moment since P (disk_of a.store) (disk_of d.store)
      at P keeps = subst (λ (t : Store D). Keeps told moment since P (disk_of a.store) (disk_of t)) (sym same.store) keeps

-- images that are all faithful to a world are so over the names that are told
pub faithful_to : (w : Rows) (o : Option Names) → IsSome o → ((i : Image) → IsImageOf o i → IsFaithful w i) → IsFaithfulTo w o
faithful_to w None tells all = absurd (true≢false (sym tells))
faithful_to w (Some s) tells all = record { names = s; tells = refl; faithful = all }

-- What is counted for each key: how often its link failed, and whether the cache lacks it.
use Rattle.std.specs.BTreeMap.{BTreeMap, get}
use Rattle.std.specs.Prelude.{◌≡◌, ℕ, ◌+◌, ◌||◌, Bool, true, false, Option, Some, None, IsSome, nat_lt}
use Rattle.claim_log.specs.declared.tallies.Tally.{Tally}
use Rattle.claim_rules.specs.Counts.{link_breaks, is_lacking}
use Rattle.claim_rules.specs.Histories.{History}
use Rattle.claim_rules.specs.declared.why.Why.{Why}
use Rattle.claim_rules.specs.declared.why.Why.TheVariants.{Link, NotCached}
use Rattle.res_base.specs.Names.{key_cmp}
use Rattle.res_base.specs.declared.key.FileKey.{FileKey}

abbrev pub tally : ℕ → Bool → Tally
tally breaks lacking = record { link_breaks = breaks; lacking = lacking }

abbrev pub tally_of : History → FileKey → Tally
tally_of h key = tally (link_breaks h key) (is_lacking h key)

-- a key without a row never broke
abbrev pub or_none : Option Tally → Tally
or_none None = tally 0 false
or_none (Some counted) = counted

abbrev pub tally_in : BTreeMap FileKey Tally → FileKey → Tally
tally_in tallies key = or_none (get key_cmp tallies key)

abbrev pub tally_after : Tally → Why → Tally
tally_after before Link = tally (before.link_breaks + 1) before.lacking
tally_after before NotCached = tally before.link_breaks true

-- with so many retries
abbrev pub is_broken_by : ℕ → Tally → Bool
is_broken_by retries counted = nat_lt retries counted.link_breaks || counted.lacking

-- each row is still there, and each key has the same tally
pub record KeepsRows (before after : BTreeMap FileKey Tally) : Type 0 where
  pub rows : (key : FileKey) → IsSome (get key_cmp before key) → IsSome (get key_cmp after key)
  pub counted : (key : FileKey) → tally_in after key ≡ tally_in before key

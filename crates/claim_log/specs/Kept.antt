-- What the tables of a log say of its history.
use Rattle.std.specs.BTreeMap.{BTreeMap, get}
use Rattle.std.specs.Prelude.{◌≡◌, ℕ, ◌<◌, true, None, IsSome}
use Rattle.claim_log.specs.Tallies.{tally_in, tally_of}
use Rattle.claim_log.specs.declared.tallies.Tally.{Tally}
use Rattle.claim_rules.specs.Counts.{claims}
use Rattle.claim_rules.specs.Histories.{History, holder, in_flight, known_in}
use Rattle.res_base.specs.Names.{key_cmp}
use Rattle.res_base.specs.declared.key.FileKey.{FileKey}

pub record IsKept (repos : ℕ) (h : History) (flights : BTreeMap FileKey ℕ) (tallies : BTreeMap FileKey Tally)
    (count : ℕ) : Type 0 where
  -- the seat that has a claim on each key
  pub held : (key : FileKey) → get key_cmp flights key ≡ holder h key
  pub counted : (key : FileKey) → tally_in tallies key ≡ tally_of h key
  pub claimed : count ≡ claims h
  -- a key in flight has a row, is of one of the repositories, and is not known
  pub row : (key : FileKey) → in_flight h key ≡ true → IsSome (get key_cmp tallies key)
  pub listed : (key : FileKey) → in_flight h key ≡ true → key.repo < repos
  pub unknown : (key : FileKey) → in_flight h key ≡ true → known_in h key ≡ None

-- What contracts see of a board that is worked on.
use Rattle.std.specs.Prelude.{ℕ, ◌≡◌, Bool, false, Option, None, count_by}
use Rattle.claim_rules.specs.Counts.{is_lack, is_link_break, is_return}
use Rattle.claim_rules.specs.Histories.{Entry, History, any_in_flight}
use Rattle.claim_rules.specs.declared.settings.Settings.{Settings}
use Rattle.pool_rules.specs.Plans.{IsPlanFor}
use Rattle.pool_rules.specs.declared.finish.EndCause.{EndCause}
use Rattle.pool_rules.specs.declared.plan.Plan.{Plan}

-- the settings and the history of its core, whether that is caught up, how files are asked for, and what ended the work
pub record Desk : Type 0 where
  pub settings : Settings
  pub history : History
  pub caught_up : Bool
  pub plan : Plan
  pub ended : Option EndCause

-- how often a link failed, along a history; how often the cache lacked a file; how often a claim was given back
abbrev pub all_breaks : History → ℕ
all_breaks h = count_by (λ (e : Entry). is_link_break e.what) h

abbrev pub all_lacks : History → ℕ
all_lacks h = count_by (λ (e : Entry). is_lack e.what) h

abbrev pub all_returns : History → ℕ
all_returns h = count_by (λ (e : Entry). is_return e.what) h

-- a board that may be worked on
pub record IsReady (desk : Desk) : Type 0 where
  pub going : desk.ended ≡ None
  pub landed : any_in_flight desk.history ≡ false
  pub planned : IsPlanFor desk.settings.repos desk.plan

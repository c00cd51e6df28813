-- How often a link is asked in a session.
use Rattle.std.specs.Prelude.{ℕ, ◌≡◌, ◌≤◌, ◌+◌, ◌*◌, List, length}
use Rattle.arrival_core.specs.Resolving.{resolver_of}
use Rattle.cache_policy.specs.declared.Mode.TheVariants.{Offline}
use Rattle.claim_rules.specs.Sessions.{touched}
use Rattle.job_session.specs.Beginnings.{plan_for, settings_for}
use Rattle.link_base.specs.Links.{Rows}
use Rattle.pool_rules.specs.Plans.{files_in}
use Rattle.pool_rules.specs.Worlds.{whole_of}
use Rattle.res_base.specs.Members.{Among}
use Rattle.res_base.specs.declared.key.FileKey.{FileKey}
use Rattle.word_values.specs.declared.job.Job.{Job}

-- all that the job needs over all answers of the world is among these keys, and so is what an eager session may ask for
-- beside it
abbrev pub HasTouched : Job → Rows → List FileKey → Type 0
HasTouched job w keys = (key : FileKey)
    → Among key (touched (settings_for job) (resolver_of job.ask) (whole_of (plan_for job 0) w)) → Among key keys

-- so many files, where for each of these keys its own and the checksum files beside it are asked for so many times
abbrev pub files_asked : ℕ → Job → List FileKey → ℕ
files_asked times job keys = times * length keys * files_in (plan_for job 0)

-- Offline nothing was asked. In each of these worlds the files of each key were asked for once more than there are
-- retries at most, and once at most where no count of faults rose.
pub record AsksWithin (World : Rows → Type 0) (job : Job) (rose : Type 0) (before now : ℕ) : Type 0 where
  pub silent : job.mode ≡ Offline → now ≡ before
  pub retried : (w : Rows) → World w → (keys : List FileKey) → HasTouched job w keys
      → now ≤ before + files_asked (1 + job.retries) job keys
  pub calm : (rose → ⊥) → (w : Rows) → World w → (keys : List FileKey) → HasTouched job w keys
      → now ≤ before + files_asked 1 job keys

-- A session before anything is known.
use Rattle.std.specs.Prelude.{◌≡◌, ℕ, Bool, false, [], None}
use Rattle.arrival_core.specs.Cores.{State}
use Rattle.cache_policy.specs.declared.Mode.{Mode}
use Rattle.cache_policy.specs.declared.Mode.TheVariants.{Missing, Offline, Refresh}
use Rattle.claim_rules.specs.declared.settings.Settings.{Settings}
use Rattle.pool_rules.specs.Boards.{Desk}
use Rattle.pool_rules.specs.declared.plan.Plan.{Plan}
use Rattle.word_values.specs.declared.job.Job.{Job}

-- files are claimed before it is sure that they are needed where the job says so, but not where nobody may be asked
abbrev pub is_eager_in : Mode → Bool → Bool
is_eager_in Missing eager = eager
is_eager_in Offline eager = false
is_eager_in Refresh eager = eager

abbrev pub is_eager : Job → Bool
is_eager job = is_eager_in job.mode job.eager

-- at most 4,194,304 claims, and hints only while fewer than half of them were made
abbrev pub settings_for : Job → Settings
settings_for job =
    record {
      repos = job.ask.repos;
      eager = is_eager job;
      retries = job.retries;
      limits = record { claims = 4194304; hint_claims = 2097152 };
    }

-- how its files are asked for
abbrev pub plan_for : Job → ℕ → Plan
plan_for job moment =
    record {
      addresses = job.addresses;
      checks = job.checks;
      mode = job.mode;
      ttl = job.ttl;
      limit = job.limit;
      moment = moment;
    }

-- its core, which knows nothing and is not caught up
pub record IsFreshCore (job : Job) (core : State) : Type 0 where
  pub ask : core.ask ≡ job.ask
  pub settings : core.settings ≡ settings_for job
  pub history : core.history ≡ []
  pub caught_up : core.caught_up ≡ false

-- its board, on which nothing was done
abbrev pub fresh_desk : Job → ℕ → Desk
fresh_desk job moment =
    record {
      settings = settings_for job;
      history = [];
      caught_up = false;
      plan = plan_for job moment;
      ended = None;
    }

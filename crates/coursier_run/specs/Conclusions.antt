-- When a command comes to its answer.
use Rattle.std.specs.Prelude.{ℕ, ◌≡◌, ◌⊎◌, ◌≤◌, false, List, Ok}
use Rattle.cache_policy.specs.declared.Mode.{Mode}
use Rattle.cache_policy.specs.declared.Mode.TheVariants.{Missing, Offline, Refresh}
use Rattle.cli_words.specs.Words.{job_in}
use Rattle.coursier_run.specs.Promises.{needed_in}
use Rattle.link_base.specs.Links.{Rows}
use Rattle.res_base.specs.Members.{number_of}
use Rattle.res_base.specs.Names.{key_eq}
use Rattle.word_values.specs.Fits.{is_sample}
use Rattle.word_values.specs.declared.job.Job.{Job}

-- Nothing failed in a call: none of these counts of faults rose, nor does one stand at its end.
pub record NothingFailed (link_rose disk_rose out_rose err_rose : Type 0) : Type 0 where
  pub link : link_rose → ⊥
  pub disk : disk_rose → ⊥
  pub out : out_rose → ⊥
  pub err : err_rose → ⊥

-- The answer is printed (0 or 1), or memory was wanting (5); where nobody may be asked, the cache may lack a file (7).
abbrev pub Concludes : Mode → ℕ → Type 0
Concludes Missing status = (status ≤ 1) ⊎ (status ≡ 5)
Concludes Offline status = (status ≤ 1) ⊎ ((status ≡ 5) ⊎ (status ≡ 7))
Concludes Refresh status = (status ≤ 1) ⊎ (status ≡ 5)

-- A job of `resolve` or `fetch` comes to its answer where nothing failed and, in a world of which it speaks, no more than
-- 500,000 keys are needed.
abbrev pub IsConcluded : (Rows → Type 0) → List (List ℕ) → Type 0 → ℕ → Type 0
IsConcluded World words Calm status = (job : Job) → job_in words ≡ Ok job → is_sample job.command ≡ false → Calm
    → (w : Rows) → World w → number_of key_eq (needed_in job w) ≤ 500000 → Concludes job.mode status

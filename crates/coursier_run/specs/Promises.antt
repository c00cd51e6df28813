-- What the top call promises, status by status. All of it follows from how the call ends.
use Rattle.std.specs.Prelude.{ℕ, ◌≡◌, ◌⊎◌, ◌<◌, Bool, true, false, List, Option, Some, Ok, Err, length}
use Rattle.arrival_core.specs.Resolving.{resolver_of}
use Rattle.cache_policy.specs.declared.Mode.TheVariants.{Offline}
use Rattle.claim_rules.specs.Sessions.{needed as all_needed}
use Rattle.cli_words.specs.Words.{job_in}
use Rattle.command_lines.specs.Refusals.{line_of, said_of}
use Rattle.command_lines.specs.declared.refusals.Refusal.TheVariants as refusals
use Rattle.digest_check.specs.KeyAnswers.{key_url}
use Rattle.disk_base.specs.declared.disk_errors.DiskCall.{DiskCall}
use Rattle.coursier_run.specs.Justified.{IsSampleOf}
use Rattle.job_session.specs.Answers.{files_of, printed}
use Rattle.job_session.specs.Beginnings.{plan_for}
use Rattle.line_streams.specs.Outcomes.{Streams, IsTold, IsCut, IsCutErr}
use Rattle.line_streams.specs.Said.{memory_line}
use Rattle.link_base.specs.Links.{Rows}
use Rattle.pool_rules.specs.Counts.{Counts}
use Rattle.pool_rules.specs.Worlds.{whole_of}
use Rattle.res_base.specs.Causes.{Rose}
use Rattle.res_base.specs.Known.{Known, known_of}
use Rattle.res_base.specs.Members.{Among, number_of}
use Rattle.res_base.specs.Names.{key_eq}
use Rattle.res_base.specs.declared.key.FileKey.{FileKey}
use Rattle.res_base.specs.declared.reading.Reading.{Reading}
use Rattle.resolution.specs.declared.progress.Progress.TheVariants.{Over}
use Rattle.resolution.specs.declared.verdict.Verdict.{Verdict}
use Rattle.round_core.specs.Rounds.{rounds_of}
use Rattle.session_rules.specs.Outcomes.{FailedAt}
use Rattle.word_values.specs.Fits.{is_sample}
use Rattle.word_values.specs.declared.job.Job.{Job}
use Rattle.word_values.specs.declared.refusals.WordKind.{WordKind}
use Rattle.word_values.specs.declared.refusals.WordsErr.TheVariants.{BadWords}

-- all answers of a world to a job
abbrev pub whole_for : Job → Rows → Known
whole_for job w = whole_of (plan_for job 0) w

-- all keys that a job needs over all answers of a world
abbrev pub needed_in : Job → Rows → List FileKey
needed_in job w = all_needed (resolver_of job.ask) (whole_for job w)

-- in this world the rounds from nothing have this verdict, whose files are there what is printed of them
pub record IsVerdictIn (job : Job) (verdict : Verdict) (known : Known) (w : Rows) : Type 0 where
  pub over : rounds_of (whole_for job w) job.ask ≡ Over verdict
  pub files : files_of job verdict known ≡ files_of job verdict (whole_for job w)

-- the worlds of which a job speaks: those that the links agree with, and for `sample` the one that it makes up
abbrev pub world_by : Bool → (Rows → Type 0) → Job → Rows → Type 0
world_by true World job w = IsSampleOf job.sample w
world_by false World job w = World w

-- At 0 and 1 the text went out that belongs to the verdict of rounds from nothing over what was known, and in each world
-- that is the verdict of rounds over all its answers.
pub record PrintsVerdict (World : Rows → Type 0) (words : List (List ℕ)) (s : Streams) (status : ℕ) : Type 0 where
  pub job : Job
  pub read : job_in words ≡ Ok job
  pub known : List (FileKey × Reading)
  pub verdict : Verdict
  pub over : rounds_of (known_of known) job.ask ≡ Over verdict
  pub told : IsTold s (printed job verdict (known_of known) (length known)) status
  pub worlds : (w : Rows) → world_by (is_sample job.command) World job w → IsVerdictIn job verdict (known_of known) w

-- At 2 the words are refused, and the line says what is wrong and where.
pub record RefusesWords (words : List (List ℕ)) (s : Streams) : Type 0 where
  pub kind : WordKind
  pub place : ℕ
  pub read : job_in words ≡ Err (BadWords kind place)
  pub told : IsTold s (said_of (refusals.Words kind place)) 2

-- At 4 the disk failed in this call, and the line names the call that failed last.
pub record BlamesDisk (before now : ℕ) (last : Option DiskCall) (s : Streams) : Type 0 where
  pub call : DiskCall
  pub rose : Rose before now
  pub failed : last ≡ Some call
  pub told : IsTold s (said_of (refusals.Disk call)) 4

-- The link failed once more than a job retries, or its count of faults stands at its end. Where it tells the URLs at which
-- it failed, it failed so often at those of this key.
abbrev pub FailedFor : Counts → Counts → Job → FileKey → Type 0
FailedFor before now job key = FailedAt (plan_for job 0) job.retries key before now

-- At 3 the link failed as often as it may be asked for a key, and the line names the key's URL. In each world that key is
-- needed. But for a repository that is made up, it is the link of this call that failed.
pub record BlamesLink (World : Rows → Type 0) (LinkFailed : Job → FileKey → Type 0) (words : List (List ℕ)) (s : Streams)
    : Type 0 where
  pub job : Job
  pub read : job_in words ≡ Ok job
  pub key : FileKey
  pub online : job.mode ≡ Offline → ⊥
  pub failed : is_sample job.command ≡ false → LinkFailed job key
  pub needed : (w : Rows) → world_by (is_sample job.command) World job w → Among key (needed_in job w)
  pub told : IsTold s (said_of (refusals.Repository (key_url job.addresses key))) 3

-- At 7 nobody may be asked, and the line names the URL of a key. In each world that key is needed.
pub record LacksFile (World : Rows → Type 0) (words : List (List ℕ)) (s : Streams) : Type 0 where
  pub job : Job
  pub read : job_in words ≡ Ok job
  pub key : FileKey
  pub offline : job.mode ≡ Offline
  pub needed : (w : Rows) → world_by (is_sample job.command) World job w → Among key (needed_in job w)
  pub told : IsTold s (said_of (refusals.NotCached (key_url job.addresses key))) 7

-- At 8 the line says that too many files are needed. In each world more than 500,000 keys are.
pub record NeedsMany (World : Rows → Type 0) (words : List (List ℕ)) (s : Streams) : Type 0 where
  pub job : Job
  pub read : job_in words ≡ Ok job
  pub more : (w : Rows) → world_by (is_sample job.command) World job w → 500000 < number_of key_eq (needed_in job w)
  pub told : IsTold s (said_of refusals.TooManyFiles) 8

-- refused words end with status 2 and their line, unless there is no memory or the sink fails
abbrev pub AnswersRefusal : Type 0 → List (List ℕ) → Streams → ℕ → Type 0
AnswersRefusal err_rose words s status = (kind : WordKind) (place : ℕ) → job_in words ≡ Err (BadWords kind place)
    → IsTold s (said_of (refusals.Words kind place)) status
    ⊎ (IsCut err_rose status × (IsCutErr s (line_of (refusals.Words kind place)) ⊎ IsCutErr s memory_line))

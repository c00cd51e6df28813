-- What is said of a session.
use Rattle.std.specs.Prelude.{◌≡◌, ℕ, ◌<◌, Bool, true, false, List, [], length}
use Rattle.std.specs.List.{list_all}
use Rattle.arrival_core.specs.Cores.{State}
use Rattle.arrival_core.specs.Resolving.{resolver_of}
use Rattle.cache_policy.specs.declared.Mode.{Mode}
use Rattle.cache_policy.specs.declared.Mode.TheVariants.{Missing, Offline, Refresh}
use Rattle.claim_rules.specs.Claims.{claim_of}
use Rattle.claim_rules.specs.Histories.{History, known_in, pairs_in}
use Rattle.claim_rules.specs.Sessions.{is_known}
use Rattle.claim_rules.specs.declared.claim.Claim.TheVariants as claims
use Rattle.class_path.specs.Files.{file_rows_of}
use Rattle.class_path.specs.declared.rows.FileRow.{FileRow}
use Rattle.command_lines.specs.Refusals.{said_of}
use Rattle.command_lines.specs.Rendered.{rendered_of}
use Rattle.command_lines.specs.declared.refusals.Refusal.{Refusal}
use Rattle.command_lines.specs.declared.refusals.Refusal.TheVariants as refusals
use Rattle.digest_check.specs.KeyAnswers.{key_url}
use Rattle.job_session.specs.Beginnings.{fresh_desk, plan_for}
use Rattle.line_streams.specs.declared.said.Said.{Said}
use Rattle.line_streams.specs.declared.said.Said.TheVariants.{Prints}
use Rattle.link_base.specs.Links.{Rows}
use Rattle.pool_rules.specs.Boards.{Desk}
use Rattle.pool_rules.specs.Counts.{Counts}
use Rattle.pool_rules.specs.Ends.{IsWorked}
use Rattle.pool_rules.specs.Worlds.{whole_of}
use Rattle.pool_rules.specs.declared.finish.Finish.{Finish}
use Rattle.pool_rules.specs.declared.finish.Finish.TheVariants as finishes
use Rattle.res_base.specs.Known.{Grows, Known}
use Rattle.res_base.specs.declared.key.FileKey.{FileKey}
use Rattle.resolution.specs.declared.ask.Ask.{Ask}
use Rattle.resolution.specs.declared.progress.Progress.TheVariants.{Over}
use Rattle.resolution.specs.declared.verdict.Verdict.{Verdict}
use Rattle.resolution.specs.declared.verdict.Verdict.TheVariants as verdicts
use Rattle.round_core.specs.Reads.{files_if as keys_if}
use Rattle.round_core.specs.Rounds.{rounds_of}
use Rattle.word_values.specs.Fits.{IsFit}
use Rattle.word_values.specs.declared.job.Job.{Job}

-- the files of a verdict, where files are asked for and it is settled
abbrev pub files_if : Bool → Verdict → Known → List (List ℕ) → List FileRow
files_if false verdict known addresses = []
files_if true (verdicts.Settled settled) known addresses = file_rows_of settled known addresses
files_if true (verdicts.Clashes rows) known addresses = []
files_if true (verdicts.Failed rows) known addresses = []
files_if true (verdicts.Unsettled rounds) known addresses = []

abbrev pub files_of : Job → Verdict → Known → List FileRow
files_of job verdict known = files_if job.ask.files verdict known job.addresses

-- all files that are wanted are known
abbrev pub WantsKnown : Job → Verdict → Known → Type 0
WantsKnown job verdict known = list_all (is_known known) (keys_if job.ask.files verdict) ≡ true

-- the rounds have a verdict, and all files that are wanted are known
pub record IsOver (ask : Ask) (known : Known) : Type 0 where
  pub verdict : Verdict
  pub over : rounds_of known ask ≡ Over verdict
  pub files : list_all (is_known known) (keys_if ask.files verdict) ≡ true

-- what is said of a verdict, with what is known of its files and the number of known answers
abbrev pub printed : Job → Verdict → Known → ℕ → Said
printed job verdict known reads = Prints (rendered_of job verdict (files_of job verdict known) reads)

-- The verdict of rounds from nothing over all that is known is printed, with what is known of its files.
pub record PrintsVerdict (job : Job) (h : History) (said : Said) : Type 0 where
  pub verdict : Verdict
  pub over : rounds_of (known_in h) job.ask ≡ Over verdict
  pub files : WantsKnown job verdict (known_in h)
  pub said_is : said ≡ printed job verdict (known_in h) (length (pairs_in h))

-- the refusal of a key that is needed and was not got
abbrev pub lacks_by : Mode → List ℕ → Refusal
lacks_by Missing url = refusals.Repository url
lacks_by Offline url = refusals.NotCached url
lacks_by Refresh url = refusals.Repository url

abbrev pub lacks : Job → FileKey → Refusal
lacks job key = lacks_by job.mode (key_url job.addresses key)

-- what is said where the work on a board ended so; want of memory is not for saying
abbrev pub IsSaidAt : Job → History → Finish → Said → Type 0
IsSaidAt job h finishes.Over said = PrintsVerdict job h said
IsSaidAt job h (finishes.Stuck key why) said = said ≡ said_of (lacks job key)
IsSaidAt job h finishes.TooMany said = said ≡ said_of refusals.TooManyFiles
IsSaidAt job h (finishes.Disk call) said = said ≡ said_of (refusals.Disk call)
IsSaidAt job h finishes.Memory said = ⊥

-- What is known of a core whose work ended so: a session that is over is caught up; a key that is lacking has an address.
abbrev pub MaySay : Job → State → Finish → Type 0
MaySay job core finishes.Over = (core.caught_up ≡ true) × (claim_of core.settings (resolver_of core.ask) core.history ≡ claims.Over)
MaySay job core (finishes.Stuck key why) = key.repo < length job.addresses
MaySay job core finishes.TooMany = Unit {0}
MaySay job core (finishes.Disk call) = Unit {0}
MaySay job core finishes.Memory = Unit {0}

-- The job fits. Its fresh board was worked through, and this is said of how that ended. What is known then is true in
-- each world of which that may be said.
pub record IsSession (World : Rows → Type 0) (job : Job) (moment : ℕ) (before now : Counts) (said : Said) : Type 0 where
  pub fit : IsFit job
  pub desk : Desk
  pub finish : Finish
  pub worked : IsWorked (resolver_of job.ask) (fresh_desk job moment) desk before now finish
  pub says : IsSaidAt job desk.history finish said
  pub known : (w : Rows) → World w → Grows (known_in desk.history) (whole_of (plan_for job moment) w)

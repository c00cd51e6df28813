-- What is said, by the status that goes with it.
use Rattle.std.proofs.Common.{◌≡◌, ◌⊎◌, ◌≤◌, ◌<◌, ◌+◌, ℕ, Bool, true, false, List, Ok, Err, Some, inl, inr, arith, refl, sym, ◌∙◌, subst, length}
use Rattle.std.specs.Prelude.{IsSome}
use Rattle.arrival_core.specs.Resolving.{resolver_of}
use Rattle.cache_policy.specs.declared.Mode.{Mode}
use Rattle.cache_policy.specs.declared.Mode.TheVariants.{Missing, Offline, Refresh}
use Rattle.cli_words.specs.Words.{job_in}
use Rattle.command_lines.specs.Refusals.{said_of}
use Rattle.command_lines.specs.Rendered.{all_came, fetched_as, rendered_of, settled_as}
use Rattle.command_lines.specs.declared.refusals.Refusal.TheVariants as refusals
use Rattle.digest_check.specs.KeyAnswers.{key_url}
use Rattle.disk_base.specs.declared.disk_errors.DiskCall.{DiskCall}
use Rattle.job_session.specs.Beginnings.{fresh_desk, plan_for, settings_for}
use Rattle.job_session.specs.Answers.{IsSaidAt, IsSession, WantsKnown, files_of, lacks_by, printed}
use Rattle.line_streams.specs.declared.said.Said.{Said}
use Rattle.pool_rules.specs.Boards.{Desk}
use Rattle.pool_rules.specs.Counts.{Counts, RiseBeside, urls_of}
use Rattle.pool_rules.specs.Ends.{IsWorked}
use Rattle.pool_rules.specs.declared.finish.Finish.{Finish}
use Rattle.pool_rules.specs.declared.finish.Finish.TheVariants as finishes
use Rattle.claim_rules.specs.Histories.{known_in, pairs_in}
use Rattle.claim_rules.specs.Resolvers.{IsLawful, Resolver}
use Rattle.claim_rules.specs.Sessions.{needed as all_needed}
use Rattle.claim_rules.specs.declared.why.Why.{Why}
use Rattle.class_path.specs.declared.rows.FileRow.{FileRow}
use Rattle.res_base.specs.Causes.{Rose}
use Rattle.res_base.specs.Known.{Grows, Known, known_of}
use Rattle.res_base.specs.Members.{Among, number_of}
use Rattle.res_base.specs.Names.{key_eq}
use Rattle.res_base.specs.declared.key.FileKey.{FileKey}
use Rattle.res_base.specs.declared.reading.Reading.{Reading}
use Rattle.resolution.specs.declared.progress.Progress.TheVariants.{Over}
use Rattle.resolution.specs.declared.settled.Settled.{Settled}
use Rattle.resolution.specs.declared.verdict.Verdict.{Verdict}
use Rattle.resolution.specs.declared.verdict.Verdict.TheVariants as verdicts
use Rattle.round_core.specs.Rounds.{rounds_of}
use Rattle.session_rules.specs.Outcomes.{FailedAt, HasTopLimits, IsServed}
use Rattle.word_values.specs.declared.job.Command.{Command}
use Rattle.word_values.specs.declared.job.Command.TheVariants as commands
use Rattle.word_values.specs.declared.job.Job.{Job}
use Rattle.word_values.specs.declared.refusals.WordKind.{WordKind}
use Rattle.word_values.specs.declared.refusals.WordsErr.TheVariants.{BadWords}
use Rattle.coursier_run.specs.Justified.{not_opened, worked, cached, sampled, IsJustified, IsSampleOf, refused, done}
use Rattle.coursier_run.specs.Promises.{FailedFor, IsVerdictIn, needed_in, whole_for, world_by}
use Rattle.link_base.specs.Links.{Rows}
use Rattle.resolution.specs.declared.ask.Ask.{Ask}
use Rattle.word_values.specs.Fits.{IsFit, is_sample}

-- ---- what is printed has status 0 or 1

abbrev IsAnswer : ℕ → Type 0
IsAnswer status = (status ≡ 0) ⊎ (status ≡ 1)

fetched_answer : (b : Bool) (job : Job) (settled : Settled) (files : List FileRow) → IsAnswer (fetched_as job settled files b).status
fetched_answer true job settled files = inl refl
fetched_answer false job settled files = inr refl

settled_answer : (c : Command) (job : Job) (settled : Settled) (files : List FileRow) (reads : ℕ)
    → IsAnswer (settled_as job settled files reads c).status
settled_answer commands.Resolve job settled files reads = inl refl
settled_answer commands.Fetch job settled files reads = fetched_answer (all_came files) job settled files
settled_answer commands.Sample job settled files reads = inl refl

pub is_answer : (job : Job) (v : Verdict) (files : List FileRow) (reads : ℕ) → IsAnswer (rendered_of job v files reads).status
is_answer job (verdicts.Settled settled) files reads = settled_answer job.command job settled files reads
is_answer job (verdicts.Clashes rows) files reads = inr refl
is_answer job (verdicts.Failed rows) files reads = inr refl
is_answer job (verdicts.Unsettled rounds) files reads = inr refl

-- ---- why, by what is said

-- in each world of which the job speaks, the key is needed
abbrev IsNeeded : (Rows → Type 0) → Job → FileKey → Type 0
IsNeeded World job key = (w : Rows) → world_by (is_sample job.command) World job w → Among key (needed_in job w)

-- and in each so many keys are
abbrev AreMany : (Rows → Type 0) → Job → Type 0
AreMany World job = (w : Rows) → world_by (is_sample job.command) World job w → 500000 < number_of key_eq (needed_in job w)

-- why something is said, without the way to it
pub data Reason (World : Rows → Type 0) (words : List (List ℕ)) (before now : Counts) (said : Said) : Type 0 where
  refuses : (kind : WordKind) (place : ℕ) → job_in words ≡ Err (BadWords kind place)
      → said ≡ said_of (refusals.Words kind place) → Reason World words before now said
  prints : (job : Job) (known : List (FileKey × Reading)) (v : Verdict) → job_in words ≡ Ok job
      → rounds_of (known_of known) job.ask ≡ Over v → said ≡ printed job v (known_of known) (length known)
      → ((w : Rows) → world_by (is_sample job.command) World job w → IsVerdictIn job v (known_of known) w)
      → Reason World words before now said
  blames : (job : Job) (key : FileKey) → job_in words ≡ Ok job → (job.mode ≡ Offline → ⊥)
      → (is_sample job.command ≡ false → FailedFor before now job key) → IsNeeded World job key
      → said ≡ said_of (refusals.Repository (key_url job.addresses key)) → Reason World words before now said
  misses : (job : Job) (key : FileKey) → job_in words ≡ Ok job → job.mode ≡ Offline → IsNeeded World job key
      → said ≡ said_of (refusals.NotCached (key_url job.addresses key)) → Reason World words before now said
  many : (job : Job) → job_in words ≡ Ok job → AreMany World job → said ≡ said_of refusals.TooManyFiles
      → Reason World words before now said
  disk : (call : DiskCall) → Rose before.disk_faults now.disk_faults → now.disk_last ≡ Some call
      → said ≡ said_of (refusals.Disk call) → Reason World words before now said

-- over more answers the verdict is the same, and so are its files; and what is known of a session that is not over
pub record Stays : Type 0 where
  pub rounds : (ask : Ask) (known whole : Known) (v : Verdict) → Grows known whole → rounds_of known ask ≡ Over v
      → rounds_of whole ask ≡ Over v
  pub files : (job : Job) (known whole : Known) (v : Verdict) → Grows known whole → WantsKnown job v known
      → files_of job v known ≡ files_of job v whole
  pub lawful : (ask : Ask) → IsLawful (resolver_of ask)
  pub failed : (r : Resolver Verdict) (old new : Desk) (before now : Counts) (key : FileKey) (why : Why)
      → IsServed r old new before now (finishes.Stuck key why) → (old.plan.mode ≡ Offline → ⊥)
      → FailedAt old.plan old.settings.retries key before now
  pub needed : (r : Resolver Verdict) → IsLawful r → (old new : Desk) (before now : Counts) (key : FileKey) (why : Why)
      → (all : Known) → IsServed r old new before now (finishes.Stuck key why) → Grows (known_in new.history) all
      → Among key (all_needed r all)
  pub too_many : (r : Resolver Verdict) → IsLawful r → (old new : Desk) (before now : Counts) (all : Known)
      → IsServed r old new before now finishes.TooMany → HasTopLimits old.settings → Grows (known_in new.history) all
      → 500000 < number_of key_eq (all_needed r all)

has_top : (job : Job) → IsFit job → HasTopLimits (settings_for job)
has_top job fit = record { claims = omega arith; hints = omega arith; retries = fit.retries }

module _ (stays : Stays) (World : Rows → Type 0) (words : List (List ℕ)) (before now : Counts) (said : Said) where
  lacking : (job : Job) (key : FileKey) → job_in words ≡ Ok job
      → ((job.mode ≡ Offline → ⊥) → is_sample job.command ≡ false → FailedFor before now job key)
      → IsNeeded World job key → (m : Mode) → job.mode ≡ m
      → said ≡ said_of (lacks_by m (key_url job.addresses key)) → Reason World words before now said
  lacking job key read rose needs Missing at is =
      let online : job.mode ≡ Offline → ⊥ = λ e. let d : Missing ≡ Offline = sym at ∙ e in cc in
      blames job key read online (rose online) needs is
  lacking job key read rose needs Offline at is = misses job key read at needs is
  lacking job key read rose needs Refresh at is =
      let online : job.mode ≡ Offline → ⊥ = λ e. let d : Refresh ≡ Offline = sym at ∙ e in cc in
      blames job key read online (rose online) needs is

  -- a session's, where its disk and its link failed only where those of this call did
  of_session : (Here : Rows → Type 0) (job : Job) (moment : ℕ) (begun later : Counts) → job_in words ≡ Ok job
      → ((w : Rows) → world_by (is_sample job.command) World job w → Here w)
      → (Rose begun.disk_faults later.disk_faults → Rose before.disk_faults now.disk_faults × (now.disk_last ≡ later.disk_last))
      → (is_sample job.command ≡ false → (key : FileKey) → FailedFor begun later job key → FailedFor before now job key)
      → IsSession Here job moment begun later said → Reason World words before now said
  of_session Here job moment begun later read here disk_rose link_failed session = by session.finish refl session.says session.worked
    where
      by : (f : Finish) → session.finish ≡ f → IsSaidAt job session.desk.history f said
          → IsWorked (resolver_of job.ask) (fresh_desk job moment) session.desk begun later f → Reason World words before now said
      by finishes.Over at says work =
          prints job (pairs_in session.desk.history) says.verdict read says.over says.said_is
          (λ w is.
          let more = session.known w (here w is) in
          record {
            over = stays.rounds job.ask (known_in session.desk.history) (whole_for job w) says.verdict more says.over;
            files = stays.files job (known_in session.desk.history) (whole_for job w) says.verdict more says.files;
          })
      by (finishes.Stuck key why) at says work =
          lacking job key read
          (λ online own.
          let failed = stays.failed (resolver_of job.ask) (fresh_desk job moment) session.desk begun later key why
          (record { first = refl; worked = work }) online in
          link_failed own key (record { rose = failed.rose; urls = failed.urls }))
          (λ w is.
          stays.needed (resolver_of job.ask) (stays.lawful job.ask) (fresh_desk job moment) session.desk begun later key why
          (whole_for job w) (record { first = refl; worked = work }) (session.known w (here w is)))
          job.mode refl says
      by finishes.TooMany at says work =
          many job read
          (λ w is.
          stays.too_many (resolver_of job.ask) (stays.lawful job.ask) (fresh_desk job moment) session.desk begun later
          (whole_for job w) (record { first = refl; worked = work }) (has_top job session.fit) (session.known w (here w is)))
          says
      by (finishes.Disk call) at says work =
          let rose = disk_rose work.ends.0 in
          disk call rose.0 (rose.1 ∙ work.ends.1) says
      by finishes.Memory at says work = absurd says

rose_wider : (a b c : ℕ) → a ≤ b → Rose b c → Rose a c
rose_wider a b c le rose = grind arith

-- where the count and the failed URLs were as before
failed_before : (job : Job) (key : FileKey) (before begun now : Counts) → begun.faults ≡ before.faults
    → begun.failed ≡ before.failed → FailedFor begun now job key → FailedFor before now job key
failed_before job key before begun now faults failed at =
    record {
      rose = subst (λ n. RiseBeside n now.faults 0 (1 + job.retries)) faults at.rose;
      urls = subst (λ o. IsSome o → (1 + job.retries) + urls_of (plan_for job 0) key o ≤ urls_of (plan_for job 0) key now.failed)
          failed at.urls;
    }

no_rise : (a b : ℕ) → b ≡ 0 → Rose a b → ⊥
no_rise a b is rose = grind arith

pub reason : (stays : Stays) (World : Rows → Type 0) (words : List (List ℕ)) (before now : Counts) (said : Said)
    → IsJustified World words before now said → Reason World words before now said
reason stays World words before now said (refused kind place read is) = refuses kind place read is
reason stays World words before now said (done job read (cached own (not_opened call rose last is))) = disk call rose last is
reason stays World words before now said (done job read (cached own (worked moment begun opened session))) =
    of_session stays World words before now said World job moment begun now read
    (λ w is. subst (λ b. world_by b World job w) own is)
    (λ rose. (rose_wider before.disk_faults begun.disk_faults now.disk_faults opened.later rose, refl))
    (λ still key failed. failed_before job key before begun now opened.faults opened.failed failed) session
reason stays World words before now said (done job read (sampled own of_it)) =
    of_session stays World words before now said (IsSampleOf job.sample) job 0 of_it.begun of_it.now read
    (λ w is. subst (λ b. world_by b World job w) own is)
    (λ rose. absurd (no_rise of_it.begun.disk_faults of_it.now.disk_faults of_it.calm rose))
    (λ not_own key failed. absurd (let d : true ≡ false = sym own ∙ not_own in cc)) of_it.session

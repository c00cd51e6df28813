-- Where nothing failed, a command comes to its answer.
use Rattle.std.proofs.Common.{◌≡◌, ◌⊎◌, ◌≤◌, ◌<◌, ℕ, List, length, false, Ok, inl, inr, ⊎_elim, arith, sym, ◌∙◌, ap, subst}
use Rattle.cache_policy.specs.declared.Mode.{Mode}
use Rattle.cache_policy.specs.declared.Mode.TheVariants.{Missing, Offline, Refresh}
use Rattle.cli_words.specs.Words.{job_in}
use Rattle.coursier_run.specs.Conclusions.{Concludes, IsConcluded, NothingFailed}
use Rattle.coursier_run.specs.Promises.{FailedFor, needed_in, world_by}
use Rattle.coursier_run.proofs.Promised.{Ended, Whole, whole_or_cut, stream_rose}
use Rattle.coursier_run.proofs.Reasons.{Reason, Stays, refuses, prints, blames, misses, many, disk, is_answer}
use Rattle.job_session.specs.Answers.{files_of}
use Rattle.line_streams.specs.Outcomes.{Streams}
use Rattle.line_streams.specs.Said.{status_of}
use Rattle.line_streams.specs.declared.said.Said.{Said}
use Rattle.link_base.specs.Links.{Rows}
use Rattle.pool_rules.specs.Counts.{Counts}
use Rattle.res_base.specs.Causes.{Rose}
use Rattle.res_base.specs.Known.{known_of}
use Rattle.res_base.specs.Members.{number_of}
use Rattle.res_base.specs.Names.{key_eq}
use Rattle.word_values.specs.Fits.{is_sample}
use Rattle.word_values.specs.declared.job.Job.{Job}

answered : (mode : Mode) (status : ℕ) → status ≤ 1 → Concludes mode status
answered Missing status le = inl le
answered Offline status le = inl le
answered Refresh status le = inl le

starved : (mode : Mode) (status : ℕ) → status ≡ 5 → Concludes mode status
starved Missing status five = inr five
starved Offline status five = inr (inl five)
starved Refresh status five = inr five

lacks : (mode : Mode) (status : ℕ) → mode ≡ Offline → status ≡ 7 → Concludes mode status
lacks Missing status offline seven = absurd cc
lacks Offline status offline seven = inr (inr seven)
lacks Refresh status offline seven = absurd cc

-- who failed for a key, failed
rose_for : (job : Job) (before now : Counts) → (key : _) → FailedFor before now job key → Rose before.faults now.faults
rose_for job before now key failed = ⊎_elim (λ more. grind (arith, more)) (λ top. grind (arith, top)) failed.rose

module _ (stays : Stays) (World : Rows → Type 0) (words : List (List ℕ)) (before now : Counts) (s : Streams)
    (out_rose err_rose : Type 0) (status : ℕ) where
  abbrev Calm : Type 0
  Calm = NothingFailed (Rose before.faults now.faults) (Rose before.disk_faults now.disk_faults) out_rose err_rose

  told_at : (job : Job) → job_in words ≡ Ok job → is_sample job.command ≡ false → Calm → (w : Rows) → World w
      → number_of key_eq (needed_in job w) ≤ 500000 → (said : Said) → Reason World words before now said
      → status ≡ status_of said → Concludes job.mode status
  told_at job read own calm w is few said (refuses kind place bad said_is) at = absurd cc
  told_at job read own calm w is few said (prints other known v read' over said_is worlds) at =
      answered job.mode status
      (⊎_elim (λ e. omega (arith, at, ap status_of said_is, e)) (λ e. omega (arith, at, ap status_of said_is, e)) (is_answer other v (files_of other v (known_of known)) (length known)))
  told_at job read own calm w is few said (blames other key read' online failed needs said_is) at =
      let same : other ≡ job = cc in
      absurd (calm.link (rose_for other before now key (failed (ap (λ j. is_sample j.command) same ∙ own))))
  told_at job read own calm w is few said (misses other key read' offline needs said_is) at =
      let same : other ≡ job = cc in
      lacks job.mode status (ap (λ j. j.mode) (sym same) ∙ offline) (at ∙ ap status_of said_is)
  told_at job read own calm w is few said (many other read' more said_is) at =
      let same : other ≡ job = cc in
      let there : world_by (is_sample other.command) World other w = subst (λ b. world_by b World other w) (sym (ap (λ j. is_sample j.command) same ∙ own)) is in
      let less : 500000 < number_of key_eq (needed_in job w) = subst (λ j. 500000 < number_of key_eq (needed_in j w)) same (more w there) in
      absurd (omega (arith, less, few))
  told_at job read own calm w is few said (disk call rose last said_is) at = absurd (calm.disk rose)

  cut_at : (mode : Mode) → Calm → Ended stays World words before now s out_rose err_rose status → (status ≡ 5) ⊎ (status ≡ 6) → Concludes mode status
  cut_at mode calm ends (inl five) = starved mode status five
  cut_at mode calm ends (inr six) =
      absurd (⊎_elim calm.out calm.err (stream_rose stays World words before now s out_rose err_rose status ends six))

  pub concludes : Ended stays World words before now s out_rose err_rose status → IsConcluded World words Calm status
  concludes ends job read own calm w is few =
      ⊎_elim (λ (t : Whole stays World words before now s out_rose err_rose status). told_at job read own calm w is few t.0 t.1 t.2.status_is)
      (cut_at job.mode calm ends) (whole_or_cut stays World words before now s out_rose err_rose status ends)

-- from what fails less to what fails more
pub concluded_wider : (World : Rows → Type 0) (words : List (List ℕ)) (less more : Type 0) (status : ℕ) → (more → less)
    → IsConcluded World words less status → IsConcluded World words more status
concluded_wider World words less more status f is job read own calm w there few = is job read own (f calm) w there few

-- Why something is said: one case for each way in which a command gets to an answer.
use Rattle.std.specs.Prelude.{ℕ, ◌≡◌, ◌≤◌, true, false, All, List, Option, Some, None, Ok, Err, slice_get}
use Rattle.cli_words.specs.Words.{job_in}
use Rattle.command_lines.specs.Refusals.{said_of}
use Rattle.command_lines.specs.declared.refusals.Refusal.TheVariants as refusals
use Rattle.disk_base.specs.declared.disk_errors.DiskCall.{DiskCall}
use Rattle.disk_base.specs.Names.{Names}
use Rattle.job_session.specs.Answers.{IsSession}
use Rattle.job_session.specs.Asks.{AsksWithin}
use Rattle.job_session.specs.Faithful.{TellsFaithful}
use Rattle.line_streams.specs.declared.said.Said.{Said}
use Rattle.link_base.specs.Links.{Rows}
use Rattle.pool_rules.specs.Counts.{Counts, counts_of}
use Rattle.sample_world.specs.World.{sample_rows}
use Rattle.res_base.specs.Causes.{Rose}
use Rattle.word_values.specs.Fits.{is_sample}
use Rattle.word_values.specs.declared.job.Job.{Job}
use Rattle.word_values.specs.declared.refusals.WordKind.{WordKind}
use Rattle.word_values.specs.declared.refusals.WordsErr.TheVariants.{BadWords}

-- the disk was opened as a cache: the link was not asked, and the disk's count did not fall
pub record IsOpened (before begun : Counts) : Type 0 where
  pub faults : begun.faults ≡ before.faults
  pub asked : begun.asked ≡ before.asked
  pub failed : begun.failed ≡ before.failed
  pub later : before.disk_faults ≤ begun.disk_faults

-- A job over a cache: the disk failed before it could begin, or its session says so.
pub data IsDone (World : Rows → Type 0) (job : Job) (before now : Counts) (said : Said) : Type 0 where
  not_opened : (call : DiskCall) → Rose before.disk_faults now.disk_faults → now.disk_last ≡ Some call
      → said ≡ said_of (refusals.Disk call) → IsDone World job before now said
  worked : (moment : ℕ) (begun : Counts) → IsOpened before begun → IsSession World job moment begun now said
      → IsDone World job before now said

-- the repository of a job that is made up, where it is one
abbrev pub IsSampleOf : Option (ℕ × ℕ) → Rows → Type 0
IsSampleOf None w = ⊥
IsSampleOf (Some sample) w = w ≡ sample_rows sample.0 sample.1

-- A job over a repository that is made up: its session says so, over a link to that and a disk of its own, which never
-- fails.
pub record IsSampled (job : Job) (said : Said) : Type 0 where
  pub begun : Counts
  pub now : Counts
  pub calm : now.disk_faults ≡ 0
  pub session : IsSession (IsSampleOf job.sample) job 0 begun now said

-- why something is said of a job
pub data IsDoneBy (World : Rows → Type 0) (job : Job) (before now : Counts) (said : Said) : Type 0 where
  cached : is_sample job.command ≡ false → IsDone World job before now said → IsDoneBy World job before now said
  sampled : is_sample job.command ≡ true → IsSampled job said → IsDoneBy World job before now said

-- Why something is said of words: they are refused, or a job was done.
pub data IsJustified (World : Rows → Type 0) (words : List (List ℕ)) (before now : Counts) (said : Said) : Type 0 where
  refused : (kind : WordKind) (place : ℕ) → job_in words ≡ Err (BadWords kind place)
      → said ≡ said_of (refusals.Words kind place) → IsJustified World words before now said
  done : (job : Job) → job_in words ≡ Ok job → IsDoneBy World job before now said
      → IsJustified World words before now said

-- Work was done between the first link and the disk as they were, and as they are.
pub record WithFirst {L D : Type 0} (faults asked : L → ℕ) (failed : L → Option (List (List ℕ))) (disk_faults : D → ℕ)
    (disk_last : D → Option DiskCall) (links after : List L) (disk later : D) (Work : Counts → Counts → Type 0) : Type 0 where
  pub before : L
  pub now : L
  pub was_first : slice_get links 0 ≡ Some before
  pub is_first : slice_get after 0 ≡ Some now
  pub work : Work (counts_of faults asked failed disk_faults disk_last before disk)
      (counts_of faults asked failed disk_faults disk_last now later)

-- The links all agree with the world, and the disk tells its names, of which each image is faithful to it.
pub record IsWorldOf {L D : Type 0} (agrees : L → Rows → Type 0) (told : D → Option Names) (links : List L) (disk : D)
    (w : Rows) : Type 0 where
  pub agree : All (λ link. agrees link w) links
  pub faithful : TellsFaithful told w disk

-- the first link was asked for the files of this job no more often than may be
pub record FirstAsks {L : Type 0} (faults asked : L → ℕ) (World : Rows → Type 0) (job : Job) (links after : List L)
    : Type 0 where
  pub before : L
  pub now : L
  pub was_first : slice_get links 0 ≡ Some before
  pub is_first : slice_get after 0 ≡ Some now
  pub within : AsksWithin World job (Rose (faults before) (faults now)) (asked before) (asked now)

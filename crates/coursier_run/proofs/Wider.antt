-- From what holds of more worlds to what holds of fewer.
use Rattle.std.proofs.Common.{ℕ, List}
use Rattle.line_streams.specs.declared.said.Said.{Said}
use Rattle.link_base.specs.Links.{Rows}
use Rattle.pool_rules.specs.Counts.{Counts}
use Rattle.word_values.specs.declared.job.Job.{Job}
use Rattle.coursier_run.specs.Justified.{IsDone, not_opened, worked, IsDoneBy, cached, sampled, IsJustified, refused, done}
use Rattle.coursier_run.proofs.Sampled.{session_wider}

module _ (V W : Rows → Type 0) (fewer : (w : Rows) → W w → V w) (before now : Counts) (said : Said) where
  done_wider : (job : Job) → IsDone V job before now said → IsDone W job before now said
  done_wider job (not_opened call rose last is) = not_opened call rose last is
  done_wider job (worked moment begun opened session) =
      worked moment begun opened (session_wider V W job moment begun now said fewer session)

  by_wider : (job : Job) → IsDoneBy V job before now said → IsDoneBy W job before now said
  by_wider job (cached own d) = cached own (done_wider job d)
  by_wider job (sampled own d) = sampled own d

  pub justified_wider : (words : List (List ℕ)) → IsJustified V words before now said → IsJustified W words before now said
  justified_wider words (refused kind place read is) = refused kind place read is
  justified_wider words (done job read d) = done job read (by_wider job d)

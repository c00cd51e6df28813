use Rattle.std.proofs.Common.{◌++◌, ◌∙◌, ap, arith}
use Rattle.sample_world.specs.Projects.{dependency_text}
use Rattle.sample_world.proofs.Steps.{one_text_more}
use Rattle.sample_world.proofs.projects.project.Goals as goal

pub loop-release-preserved : goal.loop-release-preserved
loop-release-preserved c =
    let pushed = c.in_ok-push_str.ensures.ok ∙ ap (λ text. c.loop-release.text ++ text) (c.as_str.ensures ∙ c.in_ok-element.ensures) in
    rw pushed (one_text_more dependency_text c.as_slice-release-items.result.now c.loop-release.release-index (record { number = 0; version = 0 }) c.loop-release.text _ (omega arith) c.loop-release.invariant)

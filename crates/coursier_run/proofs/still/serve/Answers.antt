use Rattle.line_streams.proofs.Endings.{ends_of}
use Rattle.coursier_run.proofs.Sampled.{ok_at}
use Rattle.coursier_run.proofs.still.serve.Goals as goal

pub returns-clause-ends : goal.returns-clause-ends
returns-clause-ends g c =
    ends_of _ _ _ _ c.say-said.result.0 _ (λ said is. ok_at _ c.say-said.result.0 said is c.say-said.ensures.justified) c.tell-status.ensures

use Rattle.pool_rules.specs.Plans.{url_in}
use Rattle.file_fetch.proofs.Faith.{absent_of}
use Rattle.file_fetch.proofs.Urls.{absent_there}
use Rattle.file_fetch.proofs.artifacts.open_artifact.Goals as goal

pub returns-in-Ok-Absent-clause-faithful : goal.returns-in-Ok-Absent-clause-faithful
returns-in-Ok-Absent-clause-faithful g c = λ w agrees demand.
    let plan = c.args.plan.now in
    let none = absent_there w plan c.args.key.now _ _ c.address_of.ensures c.as_str.ensures
    (rw c.in-Ok-Absent.field-0-is at (c.in-Ok-Absent.ensures.answer w agrees)) in
    c.put_absent.ensures.faithful w (absent_of w _ (url_in plan c.args.key.now) c.names_apart.ensures c.requires.url none)

use Rattle.pool_rules.specs.Plans.{limit_in}
use Rattle.file_fetch.specs.Decided.{used_of}
use Rattle.file_fetch.specs.Worlds.{IsWorldsReading}
use Rattle.std.proofs.Common.{◌≡◌, ◌∙◌, ap}
use Rattle.answer_reading.specs.Readings.{reading_of}
use Rattle.file_fetch.proofs.Bound.{whole_bound}
use Rattle.file_fetch.proofs.Judging.{if_ok}
use Rattle.file_fetch.proofs.Using.{gone_used, whole_used}
use Rattle.file_fetch.proofs.cached.use_found.Goals as goal

pub use_data-requires-clause-bound : goal.use_data-requires-clause-bound
use_data-requires-clause-bound g c = whole_bound _ _ _ _ c.requires.found c.in-Whole.is

pub returns-in-Whole-clause-answer : goal.returns-in-Whole-clause-answer
returns-in-Whole-clause-answer g c = λ w faith url.
    let uses = whole_used w c.args.plan.now c.args.key.now _ _ _ _ faith c.requires.named url c.requires.found c.in-Whole.is
    c.requires.used in
    let plan = c.args.plan.now in
    let key = c.args.key.now in
    if_ok c.use_data.result (λ got. got ≡ used_of (limit_in plan key) key.role c.in-Whole.entry.length uses.bytes)
    (IsWorldsReading w plan key) (c.use_data.ensures.value uses.names uses.bytes uses.tells uses.reads)
    (λ got e. ap (reading_of c.args.key.now.role) e ∙ uses.same)

pub returns-in-Gone-clause-answer : goal.returns-in-Gone-clause-answer
returns-in-Gone-clause-answer g c = λ w faith url.
    gone_used w c.args.plan.now c.args.key.now _ _ _ _ faith c.requires.named url c.requires.found c.in-Gone.is

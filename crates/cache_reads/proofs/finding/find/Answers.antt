use Rattle.std.proofs.Common.{◌∙◌}
use Rattle.std.proofs.lemmas.Result.{IfOk-weaker}
use Rattle.cache_reads.proofs.Found.{found_named}
use Rattle.cache_reads.proofs.finding.find.Goals as goal

pub returns-clause-found : goal.returns-clause-found
returns-clause-found g c = λ s f.
    IfOk-weaker c.find_by.result _ _ (λ found answers.
    found_named s c.args.name.now c.as_str.result.now c.as_str-2.result.now found
    (c.as_str.ensures ∙ c.in_ok-entry_name.ensures) (c.as_str-2.ensures ∙ c.in_ok-gone.ensures) (answers s f))
    c.find_by.ensures.found

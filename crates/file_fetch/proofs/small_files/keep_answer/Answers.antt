use Rattle.std.proofs.Common.{◌∙◌, sym}
use Rattle.pool_rules.specs.Plans.{limit_in, url_in}
use Rattle.res_base.specs.World.{at}
use Rattle.file_fetch.proofs.Faith.{absent_answer, absent_of, bytes_at, file_of}
use Rattle.file_fetch.proofs.small_files.keep_answer.Goals as goal

pub returns-in-Bytes-clause-faithful : goal.returns-in-Bytes-clause-faithful
returns-in-Bytes-clause-faithful g c = λ w key named is.
    let plan = c.args.plan.now in
    let got = bytes_at (at w) plan.checks (limit_in plan key) (url_in plan key) _ c.demands_judged.ensures.checked
    (sym is ∙ c.in-Bytes.is) in
    c.keep_bytes.ensures.faithful w
    (rw c.as_slice.ensures (file_of w _ (url_in plan key) _ plan.checks c.names_apart.ensures named got.is got.accepted))

pub returns-in-Absent-clause-faithful : goal.returns-in-Absent-clause-faithful
returns-in-Absent-clause-faithful g c = λ w key named is.
    let plan = c.args.plan.now in
    let none = absent_answer (at w) plan.checks (limit_in plan key) (url_in plan key) c.demands_judged.ensures.checked
    (sym is ∙ c.in-Absent.is) in
    c.put_gone.ensures.faithful w (absent_of w _ (url_in plan key) c.names_apart.ensures named none)

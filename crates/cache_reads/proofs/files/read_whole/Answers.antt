use Rattle.std.proofs.Common.{Some, sym, ap, ◌∙◌}
use Rattle.std.proofs.lemmas.Result.{IfOk-weaker}
use Rattle.cache_reads.proofs.Piecewise.{bound_read}
use Rattle.cache_reads.proofs.files.read_whole.Goals as goal

pub returns-clause-read : goal.returns-clause-read
returns-clause-read g c = λ s f.
    IfOk-weaker c.read_bytes.result _ _
    (λ bytes answers. bound_read s c.args.name.now (c.requires.bound.bound s f) ∙ ap Some (sym (answers s f)))
    c.read_bytes.ensures.file

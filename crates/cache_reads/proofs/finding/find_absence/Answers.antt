use Rattle.std.proofs.Common.{sym, ◌∙◌}
use Rattle.disk_base.proofs.Composed.{told_read}
use Rattle.disk_base.specs.Names.{read_name}
use Rattle.cache_reads.proofs.Found.{read_absence}
use Rattle.cache_reads.proofs.finding.find_absence.Goals as goal

pub returns-clause-found : goal.returns-clause-found
returns-clause-found g c = λ s f.
    let mid = told_read g.D.Disk.told g.D.Disk.moment g.D.Disk.since c.args.disk.now c.is_there.new.disk c.is_there.ensures.ran in
    c.absence_in.ensures
    ∙ read_absence (read_name s c.args.gone.now) c.as_slice.result.now
    (sym (c.in_ok-is_there.ensures.there s f) ∙ c.if-not-branch.false)
    (c.as_slice.ensures ∙ c.in_ok-line.ensures.file s (mid ∙ f))

use Rattle.std.proofs.Common.{sym, ◌∙◌}
use Rattle.std.proofs.lemmas.Result.{IfOk-weaker}
use Rattle.disk_base.proofs.Composed.{ran_reads, told_read}
use Rattle.disk_base.specs.Names.{read_name}
use Rattle.cache_reads.proofs.Found.{found_absence, found_data}
use Rattle.cache_reads.proofs.finding.find_by.Goals as goal

pub returns-clause-ran : goal.returns-clause-ran
returns-clause-ran g c =
    ran_reads g.D.Disk.told g.D.Disk.moment g.D.Disk.since c.args.disk.now c.is_there.new.disk c.find_data.new.disk
    c.is_there.ensures.ran c.find_data.ensures.ran

pub returns-then-not-branch-clause-ran : goal.returns-then-not-branch-clause-ran
returns-then-not-branch-clause-ran g c =
    ran_reads g.D.Disk.told g.D.Disk.moment g.D.Disk.since c.args.disk.now c.is_there.new.disk c.find_absence.new.disk
    c.is_there.ensures.ran c.find_absence.ensures.ran

pub returns-clause-found : goal.returns-clause-found
returns-clause-found g c =
    IfOk-weaker c.find_data.result _ _ (λ found answers s f.
    let mid = told_read g.D.Disk.told g.D.Disk.moment g.D.Disk.since c.args.disk.now c.is_there.new.disk c.is_there.ensures.ran in
    found_data (read_name s c.args.name.now) (read_name s c.args.entry_name.now) (read_name s c.args.gone.now) found
    (sym (c.in_ok-is_there.ensures.there s f) ∙ c.if-not-branch.false) (answers s (mid ∙ f))) c.find_data.ensures.found

pub returns-then-not-branch-clause-found : goal.returns-then-not-branch-clause-found
returns-then-not-branch-clause-found g c =
    IfOk-weaker c.find_absence.result _ _ (λ found answers s f.
    let mid = told_read g.D.Disk.told g.D.Disk.moment g.D.Disk.since c.args.disk.now c.is_there.new.disk c.is_there.ensures.ran in
    found_absence (read_name s c.args.name.now) (read_name s c.args.entry_name.now) (read_name s c.args.gone.now) found
    (sym (c.in_ok-is_there.ensures.there s f) ∙ c.if-not-branch.true) (answers s (mid ∙ f))) c.find_absence.ensures.found

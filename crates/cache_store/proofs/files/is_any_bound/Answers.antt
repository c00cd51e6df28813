use Rattle.std.proofs.lemmas.Result.{IfOk-weaker}
use Rattle.disk_base.proofs.Composed.{ran_reads}
use Rattle.cache_store.proofs.AfterReads.{neither_of}
use Rattle.cache_store.proofs.files.is_any_bound.Goals as goal

pub returns-clause-ran : goal.returns-clause-ran
returns-clause-ran g c =
    ran_reads g.D.Disk.told g.D.Disk.moment g.D.Disk.since _ _ _ c.is_bound.ensures.ran c.is_bound-2.ensures.ran

pub returns-clause-neither : goal.returns-clause-neither
returns-clause-neither g c =
    IfOk-weaker c.is_bound-2.result _ _
    (λ there answers e. neither_of g.D.Disk.told g.D.Disk.moment g.D.Disk.since c.args.disk.now c.is_bound.new.disk
    c.args.name.now c.args.gone.now _ there c.is_bound.ensures.ran c.in_ok-is_bound.ensures.bound c.if-branch.false answers e)
    c.is_bound-2.ensures.bound

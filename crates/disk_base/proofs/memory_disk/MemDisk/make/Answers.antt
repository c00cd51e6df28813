use Rattle.std.proofs.Common.{List, ap}
use Rattle.disk_base.specs.MemoryMembers.{done_step, ran_step}
use Rattle.disk_base.specs.declared.log.Log.{Log}
use Rattle.disk_base.specs.declared.steps.DiskStep.{DiskStep}
use Rattle.disk_base.proofs.memory_disk.MemDisk.make.Goals as goal

pub returns-clause-ran : goal.returns-clause-ran
returns-clause-ran c =
    let made : List DiskStep → Log = λ calls. record { first = c.args.self.now.log.first; calls = calls } in
    ran_step c.args.self.now _ c.args.step (ap made c.in_ok-push.ensures.ok)

pub returns-clause-done : goal.returns-clause-done
returns-clause-done c =
    let made : List DiskStep → Log = λ calls. record { first = c.args.self.now.log.first; calls = calls } in
    done_step c.args.self.now _ c.args.step (ap made c.in_ok-push.ensures.ok)

use Rattle.std.proofs.lemmas.Result.{on_ok_weaker}
use Rattle.disk_base.proofs.Composed.{bound_appended, bound_started}
use Rattle.reads_tests.proofs.written.write.Goals as goal

pub append-requires : goal.append-requires
append-requires g c = bound_started g.D.Disk.told _ _ _ c.in_ok-start.ensures.done

pub returns : goal.returns
returns g c =
    on_ok_weaker c.append.result
    (λ d. bound_appended g.D.Disk.told _ _ _ _ (bound_started g.D.Disk.told _ _ _ c.in_ok-start.ensures.done) d)
    c.append.ensures.done

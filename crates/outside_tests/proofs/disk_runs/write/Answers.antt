use Rattle.std.proofs.lemmas.Result.{on_ok_weaker}
use Rattle.disk_base.proofs.Composed.{bound_appended, bound_started}
use Rattle.outside_tests.proofs.disk_runs.write.Goals as goal

pub append-requires : goal.append-requires
append-requires g c = bound_started g.D.Disk.told _ _ _ c.in_ok-start.ensures.done

pub append-requires-2 : goal.append-requires-2
append-requires-2 g c =
    bound_appended g.D.Disk.told _ _ _ _ (bound_started g.D.Disk.told _ _ _ c.in_ok-start.ensures.done)
    c.in_ok-append.ensures.done

pub returns : goal.returns
returns g c =
    on_ok_weaker c.append-2.result
    (λ d. bound_appended g.D.Disk.told _ _ _ _
    (bound_appended g.D.Disk.told _ _ _ _ (bound_started g.D.Disk.told _ _ _ c.in_ok-start.ensures.done)
    c.in_ok-append.ensures.done) d) c.append-2.ensures.done

use Rattle.file_fetch.proofs.OnePart.{published_store}
use Rattle.file_fetch.proofs.Faith.{publishes}
use Rattle.file_fetch.proofs.parts.publish_part.Goals as goal

pub returns-in-Ok-clause-store : goal.returns-in-Ok-clause-store
returns-in-Ok-clause-store g c =
    published_store g.D.Disk.told g.D.Disk.moment g.D.Disk.since _ _ _ _ c.requires.sealed c.in-Ok.ensures.sound
    c.in-Ok.ensures.stay

pub returns-in-Err-clause-store : goal.returns-in-Err-clause-store
returns-in-Err-clause-store g c =
    published_store g.D.Disk.told g.D.Disk.moment g.D.Disk.since _ _ _ _ c.requires.sealed c.in-Err.ensures.sound
    c.in-Err.ensures.stay

pub returns-in-Ok-clause-faithful : goal.returns-in-Ok-clause-faithful
returns-in-Ok-clause-faithful g c = λ w bytes checks moment content recorded file. record {
  faithful =
      c.in-Ok.ensures.worlds w
      (publishes g.D.Disk.told w _ _ _ bytes checks moment c.requires.sealed content recorded file);
}

pub returns-in-Err-clause-faithful : goal.returns-in-Err-clause-faithful
returns-in-Err-clause-faithful g c = λ w bytes checks moment content recorded file. record {
  faithful =
      c.in-Err.ensures.worlds w
      (publishes g.D.Disk.told w _ _ _ bytes checks moment c.requires.sealed content recorded file);
}

use Rattle.std.proofs.Common.{sym, subst}
use Rattle.cache_images.specs.Sound.{IsFaithful, IsSound}
use Rattle.cache_store.specs.Stands.{disk_of}
use Rattle.disk_base.specs.Runs.{Keeps}
use Rattle.job_session.proofs.Asking.{asks_none}
use Rattle.job_session.proofs.Sessions.{keeps_same}
use Rattle.job_session.proofs.worked.session.Goals as goal

pub returns-in-Err-plan_for-clause-sound : goal.returns-in-Err-plan_for-clause-sound
returns-in-Err-plan_for-clause-sound g c =
    subst (λ d. Keeps g.D.Disk.told g.D.Disk.moment g.D.Disk.since IsSound (disk_of c.args.store) d) (sym c.into_disk.ensures)
    (keeps_same _ _ _ _ _)

pub returns-in-Err-plan_for-clause-faithful : goal.returns-in-Err-plan_for-clause-faithful
returns-in-Err-plan_for-clause-faithful g c = λ w agrees.
    subst (λ d. Keeps g.D.Disk.told g.D.Disk.moment g.D.Disk.since (IsFaithful w) (disk_of c.args.store) d)
    (sym c.into_disk.ensures) (keeps_same _ _ _ _ _)

pub returns-in-Err-clause-sound : goal.returns-in-Err-clause-sound
returns-in-Err-clause-sound g c =
    subst (λ d. Keeps g.D.Disk.told g.D.Disk.moment g.D.Disk.since IsSound (disk_of c.args.store) d)
    (sym c.into_disk-in-Err.ensures) (keeps_same _ _ _ _ _)

pub returns-in-Err-clause-faithful : goal.returns-in-Err-clause-faithful
returns-in-Err-clause-faithful g c = λ w agrees.
    subst (λ d. Keeps g.D.Disk.told g.D.Disk.moment g.D.Disk.since (IsFaithful w) (disk_of c.args.store) d)
    (sym c.into_disk-in-Err.ensures) (keeps_same _ _ _ _ _)

pub returns-in-Err-plan_for-clause-few : goal.returns-in-Err-plan_for-clause-few
returns-in-Err-plan_for-clause-few g c = asks_none _ _ _ _

pub returns-in-Err-clause-few : goal.returns-in-Err-clause-few
returns-in-Err-clause-few g c = asks_none _ _ _ _

use Rattle.std.proofs.Common.{Err, refl, ap}
use Rattle.cache_images.specs.Sound.{IsFaithful, IsSound}
use Rattle.cache_store.specs.Stands.{disk_of}
use Rattle.coursier_run.specs.Justified.{not_opened, worked}
use Rattle.coursier_run.proofs.Sampled.{asks_wider, if_ok, session_wider}
use Rattle.disk_base.proofs.Composed.{keeps_trans}
use Rattle.job_session.proofs.Asking.{asks_none}
use Rattle.job_session.specs.Faithful.{TellsFaithful}
use Rattle.link_base.specs.Links.{Rows}
use Rattle.pool_rules.specs.Counts.{counts_of}
use Rattle.coursier_run.proofs.run.say_cached.Goals as goal

pub returns-in-Ok-clause-done : goal.returns-in-Ok-clause-done
returns-in-Ok-clause-done g c =
    let V : Rows → Type 0 = λ w. g.L.Link.agrees c.args.link.now w × TellsFaithful g.D.Disk.told w (disk_of c.in-Ok.store) in
    let W : Rows → Type 0 = λ w. g.L.Link.agrees c.args.link.now w × TellsFaithful g.D.Disk.told w c.args.disk in
    let counts = counts_of g.L.Link.faults g.L.Link.asked g.L.Link.failed_urls g.D.Disk.faults g.D.Disk.last in
    if_ok c.session.result.0
    (λ said is.
    worked c.args.moment (counts c.args.link.now (disk_of c.in-Ok.store))
    (record { faults = refl; asked = refl; failed = refl; later = c.in-Ok.ensures.cause.later })
    (session_wider V W c.args.job.now c.args.moment _ _ said (λ w here. (here.0, record { tells = here.1.tells; now = (c.in-Ok.ensures.images.faithful w).now here.1.now })) is))
    c.session.ensures.session

pub returns-in-Ok-clause-few : goal.returns-in-Ok-clause-few
returns-in-Ok-clause-few g c =
    let V : Rows → Type 0 = λ w. g.L.Link.agrees c.args.link.now w × TellsFaithful g.D.Disk.told w (disk_of c.in-Ok.store) in
    let W : Rows → Type 0 = λ w. g.L.Link.agrees c.args.link.now w × TellsFaithful g.D.Disk.told w c.args.disk in
    asks_wider V W c.args.job.now _ _ _
    (λ w here. (here.0, record { tells = here.1.tells; now = (c.in-Ok.ensures.images.faithful w).now here.1.now }))
    c.session.ensures.few

pub returns-in-Ok-clause-sound : goal.returns-in-Ok-clause-sound
returns-in-Ok-clause-sound g c =
    keeps_trans IsSound g.D.Disk.told g.D.Disk.moment g.D.Disk.since c.args.disk (disk_of c.in-Ok.store) c.session.result.1
    c.in-Ok.ensures.images.sound c.session.ensures.sound

pub returns-in-Ok-clause-faithful : goal.returns-in-Ok-clause-faithful
returns-in-Ok-clause-faithful g c = λ w agrees.
    keeps_trans (IsFaithful w) g.D.Disk.told g.D.Disk.moment g.D.Disk.since c.args.disk (disk_of c.in-Ok.store) c.session.result.1
    (c.in-Ok.ensures.images.faithful w) (c.session.ensures.faithful w agrees)

pub returns-in-Err-clause-done : goal.returns-in-Err-clause-done
returns-in-Err-clause-done g c =
    if_ok c.not_opened.result
    (λ said told.
    not_opened told.0 (c.in-Err.ensures.cause.rose told.0 (ap Err told.1)) (c.in-Err.ensures.cause.last_call told.0 (ap Err told.1)) told.2)
    c.not_opened.ensures

pub returns-in-Err-clause-few : goal.returns-in-Err-clause-few
returns-in-Err-clause-few g c = asks_none _ _ _ _

pub returns-in-Err-clause-faithful : goal.returns-in-Err-clause-faithful
returns-in-Err-clause-faithful g c = λ w agrees. c.in-Err.ensures.images.faithful w

use Rattle.std.proofs.Common.{refl, subst}
use Rattle.cache_images.specs.Sound.{IsFaithful}
use Rattle.cache_store.specs.Stands.{disk_of}
use Rattle.disk_base.specs.MemoryMembers.{told_of}
use Rattle.fetch_pool.specs.Turns.{AllNow}
use Rattle.job_session.specs.Faithful.{TellsFaithful}
use Rattle.link_base.specs.Links.{Rows}
use Rattle.link_base.specs.MemoryLinks.{AgreesWith}
use Rattle.sample_world.specs.World.{sample_rows}
use Rattle.coursier_run.proofs.Sampled.{if_ok, sampled_by}
use Rattle.coursier_run.proofs.sample.say_over.Goals as goal

pub returns-in-Ok : goal.returns-in-Ok
returns-in-Ok c =
    let rows = sample_rows c.args.seed c.args.count in
    let World : Rows → Type 0 = λ w. AgreesWith c.new-link.result w × TellsFaithful told_of w (disk_of c.in-Ok.store) in
    let agrees : AgreesWith c.new-link.result rows = subst (λ (w : Rows). AgreesWith c.new-link.result w) c.requires.world c.new-link.ensures.agrees in
    let empty : AllNow told_of (IsFaithful rows) c.new-2.result = c.empty_disks.ensures c.new-2.result rows c.new-2.ensures in
    let faithful : TellsFaithful told_of rows (disk_of c.in-Ok.store) = record { tells = λ disk. refl; now = (c.in-Ok.ensures.images.faithful rows).now empty } in
    if_ok c.session-said.result.0
    (λ said is. sampled_by World c.args.job.now c.args.seed c.args.count _ _ said c.requires.sample refl (agrees, faithful) is)
    c.session-said.ensures.session

use Rattle.std.proofs.Common.{sym, ap, ◌∙◌, true≢false}
use Rattle.std.proofs.lemmas.Result.{IfOk-weaker, on_ok_weaker}
use Rattle.disk_base.proofs.Composed.{told_read}
use Rattle.cache_store.proofs.Contents.{trans_reads}
use Rattle.cache_store.proofs.Images.{images_trans}
use Rattle.cache_store.specs.Kept.{AnyFile}
use Rattle.cache_store.specs.Upgrades.{is_done}
use Rattle.cache_store.proofs.store.Store.upgrade.Goals as goal

pub put_newer-requires-clause-stands : goal.put_newer-requires-clause-stands
put_newer-requires-clause-stands g c = c.plan.ensures.stands c.requires.stands

pub put_newer-requires-clause-plan : goal.put_newer-requires-clause-plan
put_newer-requires-clause-plan g c = λ s f.
    sym (c.in_ok-other.ensures.plan s
    (sym (told_read g.D.Disk.told g.D.Disk.moment g.D.Disk.since c.args.self.now.disk c.plan.new.self.disk c.plan.ensures.ran) ∙ f))
    ∙ c.in-Done.is

pub returns-in-Done-clause-images : goal.returns-in-Done-clause-images
returns-in-Done-clause-images g c =
    images_trans g.D.Disk.told g.D.Disk.moment g.D.Disk.since AnyFile c.args.self.now.disk c.plan.new.self.disk
    c.put_newer.new.self.disk c.plan.ensures.images c.put_newer.ensures.images

pub returns-in-Done-clause-answer : goal.returns-in-Done-clause-answer
returns-in-Done-clause-answer g c = λ s f.
    IfOk-weaker c.put_newer.result _ _ (λ up is. is ∙ (sym c.in-Done.is ∙ c.in_ok-other.ensures.plan s f))
    c.put_newer.ensures.value

pub returns-in-Done-clause-full_at_done : goal.returns-in-Done-clause-full_at_done
returns-in-Done-clause-full_at_done g c = λ e s f. ap is_done (sym (c.in_ok-other.ensures.plan s f) ∙ c.in-Done.is)

pub returns-in-Done-clause-still : goal.returns-in-Done-clause-still
returns-in-Done-clause-still g c =
    IfOk-weaker c.put_newer.result _ _ (λ up is e. absurd (true≢false (sym (ap is_done is) ∙ e))) c.put_newer.ensures.value

pub returns-in-Done-clause-contents : goal.returns-in-Done-clause-contents
returns-in-Done-clause-contents g c =
    on_ok_weaker c.put_newer.result
    (λ next. trans_reads g.D.Disk.told c.args.self.now.disk c.plan.new.self.disk c.put_newer.new.self.disk
    c.plan.ensures.contents next) c.put_newer.ensures.contents

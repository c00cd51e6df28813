use Rattle.std.proofs.Common.{ℕ, List, codes, sym, ◌∙◌, subst}
use Rattle.disk_base.proofs.Composed.{told_read}
use Rattle.disk_base.specs.Reads.{AreListed}
use Rattle.cache_store.proofs.Images.{images_read, images_synced, images_trans}
use Rattle.cache_store.proofs.Opens.{cleared_as, part_listed, settled_as}
use Rattle.cache_store.specs.Kept.{AnyFile}
use Rattle.cache_store.proofs.opening.remove_parts.Goals as goal

pub remove_all-requires : goal.remove_all-requires
remove_all-requires g c = λ s f p h.
    let before = sym (told_read g.D.Disk.told g.D.Disk.moment g.D.Disk.since c.args.disk.now c.list.new.self c.list.ensures.ran) ∙ f in
    let listed : AreListed s (codes "parts/") c.as_slice.result.now =
    subst (λ (names : List (List ℕ)). AreListed s (codes "parts/") names) (sym c.as_slice.ensures)
    (c.in-Ok.ensures.answer s before) in
    part_listed s c.as_slice.result.now listed p h

pub returns-in-Err-clause-images : goal.returns-in-Err-clause-images
returns-in-Err-clause-images g c = images_read g.D.Disk.told g.D.Disk.moment g.D.Disk.since c.args.disk.now c.list.new.self c.list.ensures.ran

pub returns-in_err-remove_all-clause-images : goal.returns-in_err-remove_all-clause-images
returns-in_err-remove_all-clause-images g c =
    images_trans g.D.Disk.told g.D.Disk.moment g.D.Disk.since AnyFile c.args.disk.now c.list.new.self c.remove_all.new.disk
    (images_read g.D.Disk.told g.D.Disk.moment g.D.Disk.since c.args.disk.now c.list.new.self c.list.ensures.ran) c.remove_all.ensures.images

pub returns-in-Err-sync_names-clause-images : goal.returns-in-Err-sync_names-clause-images
returns-in-Err-sync_names-clause-images g c =
    images_trans g.D.Disk.told g.D.Disk.moment g.D.Disk.since AnyFile c.args.disk.now c.remove_all.new.disk c.sync_names.new.self
    (images_trans g.D.Disk.told g.D.Disk.moment g.D.Disk.since AnyFile c.args.disk.now c.list.new.self c.remove_all.new.disk
    (images_read g.D.Disk.told g.D.Disk.moment g.D.Disk.since c.args.disk.now c.list.new.self c.list.ensures.ran) c.remove_all.ensures.images)
    (images_synced g.D.Disk.told g.D.Disk.moment g.D.Disk.since c.remove_all.new.disk c.sync_names.new.self c.sync_names.ensures.ran)

pub returns-clause-images : goal.returns-clause-images
returns-clause-images g c =
    images_trans g.D.Disk.told g.D.Disk.moment g.D.Disk.since AnyFile c.args.disk.now c.remove_all.new.disk c.sync_names.new.self
    (images_trans g.D.Disk.told g.D.Disk.moment g.D.Disk.since AnyFile c.args.disk.now c.list.new.self c.remove_all.new.disk
    (images_read g.D.Disk.told g.D.Disk.moment g.D.Disk.since c.args.disk.now c.list.new.self c.list.ensures.ran) c.remove_all.ensures.images)
    (images_synced g.D.Disk.told g.D.Disk.moment g.D.Disk.since c.remove_all.new.disk c.sync_names.new.self c.sync_names.ensures.ran)

pub returns-clause-settled : goal.returns-clause-settled
returns-clause-settled g c = settled_as g.D.Disk.told c.remove_all.new.disk c.sync_names.new.self c.in_default.ensures.done

pub returns-clause-cleared : goal.returns-clause-cleared
returns-clause-cleared g c =
    cleared_as g.D.Disk.told c.as_slice.result.now c.args.disk.now c.list.new.self c.remove_all.new.disk c.sync_names.new.self
    (told_read g.D.Disk.told g.D.Disk.moment g.D.Disk.since c.args.disk.now c.list.new.self c.list.ensures.ran)
    (λ s f. subst (λ (names : List (List ℕ)). AreListed s (codes "parts/") names) (sym c.as_slice.ensures)
    (c.in-Ok.ensures.answer s f)) c.in_ok-remove_all.ensures.done c.in_default.ensures.done

use Rattle.std.proofs.Common.{◌≡◌, ℕ, List, [], ◌∷◌, ◌<◌, length, Some, take, sym, subst, arith}
use Rattle.disk_base.proofs.Composed.{done_none, done_then}
use Rattle.disk_base.specs.Names.{Names}
use Rattle.disk_base.specs.Runs.{Done, Ran}
use Rattle.disk_base.specs.declared.steps.DiskStep.{DiskStep}
use Rattle.disk_base.specs.declared.steps.DiskStep.TheVariants.{Remove}
use Rattle.cache_images.specs.Places.{IsPartName}
use Rattle.cache_images.specs.Sequences.{removed}
use Rattle.cache_store.proofs.Images.{images_removed, images_same, images_trans}
use Rattle.cache_store.proofs.Opens.{among_at, removed_more}
use Rattle.cache_store.proofs.Stood.{told_from}
use Rattle.cache_store.specs.Kept.{AnyFile}
use Rattle.cache_store.proofs.opening.remove_all.Goals as goal

pub loop-name-init : goal.loop-name-init
loop-name-init g c = record {
  images = images_same g.D.Disk.told g.D.Disk.moment g.D.Disk.since AnyFile c.args.disk.now;
  done = done_none g.D.Disk.told c.args.disk.now;
  faults = omega arith;
}

pub loop-name-preserved : goal.loop-name-preserved
loop-name-preserved g c =
    let inv = c.loop-name.invariant in
    let i = c.loop-name.name-index in
    let p = c.name-item.result in
    let le : i < length c.args.names.now = c.loop-name-test.true in
    let same : c.as_str.result.now ≡ p = c.as_str.ensures in
    let ran = subst (λ (u : List ℕ). Ran g.D.Disk.told g.D.Disk.moment g.D.Disk.since (Remove u ∷ []) c.loop-name.disk c.remove.new.self)
    same c.remove.ensures.ran in
    let done = subst (λ (u : List ℕ). Done g.D.Disk.told (Remove u ∷ []) c.loop-name.disk c.remove.new.self) same
    c.in_default.ensures.done in
    let part : (s : Names) → g.D.Disk.told c.loop-name.disk ≡ Some s → IsPartName p = λ s f.
    let from = told_from (removed (take i c.args.names.now)) (g.D.Disk.told c.args.disk.now) (g.D.Disk.told c.loop-name.disk) s
    inv.done.names f in
    c.requires from.0 from.1 p (among_at c.args.names.now i p le c.name-item.is) in
    record {
      images = images_trans g.D.Disk.told g.D.Disk.moment g.D.Disk.since AnyFile c.args.disk.now c.loop-name.disk
          c.remove.new.self inv.images
          (images_removed g.D.Disk.told g.D.Disk.moment g.D.Disk.since c.loop-name.disk c.remove.new.self p part ran);
      done = subst (λ (xs : List DiskStep). Done g.D.Disk.told xs c.args.disk.now c.remove.new.self)
          (sym (removed_more c.args.names.now i p le c.name-item.is))
          (done_then g.D.Disk.told (removed (take i c.args.names.now)) (Remove p ∷ []) c.args.disk.now c.loop-name.disk
          c.remove.new.self inv.done done);
      faults = omega (arith, inv.faults, c.remove.ensures.cause.later);
    }

pub returns-in-Err-clause-images : goal.returns-in-Err-clause-images
returns-in-Err-clause-images g c =
    let inv = c.loop-name.invariant in
    let i = c.loop-name.name-index in
    let p = c.name-item.result in
    let le : i < length c.args.names.now = c.loop-name-test.true in
    let same : c.as_str.result.now ≡ p = c.as_str.ensures in
    let ran = subst (λ (u : List ℕ). Ran g.D.Disk.told g.D.Disk.moment g.D.Disk.since (Remove u ∷ []) c.loop-name.disk c.remove.new.self)
    same c.remove.ensures.ran in
    let part : (s : Names) → g.D.Disk.told c.loop-name.disk ≡ Some s → IsPartName p = λ s f.
    let from = told_from (removed (take i c.args.names.now)) (g.D.Disk.told c.args.disk.now) (g.D.Disk.told c.loop-name.disk) s
    inv.done.names f in
    c.requires from.0 from.1 p (among_at c.args.names.now i p le c.name-item.is) in
    images_trans g.D.Disk.told g.D.Disk.moment g.D.Disk.since AnyFile c.args.disk.now c.loop-name.disk
    c.remove.new.self inv.images
    (images_removed g.D.Disk.told g.D.Disk.moment g.D.Disk.since c.loop-name.disk c.remove.new.self p part ran)

use Rattle.std.proofs.Common.{◌≡◌, ◌+◌, ◌-◌, ◌∙◌, Some, refl, subst, length, arith, ℕ}
use Rattle.cache_store.specs.Kept.{AnyFile}
use Rattle.link_base.proofs.Kept.{kept_trans}
use Rattle.pool_rules.specs.Plans.{url_in}
use Rattle.res_base.specs.World.{at}
use Rattle.file_fetch.proofs.Keeping.{faith_trans, store_trans}
use Rattle.file_fetch.proofs.Receiving.{HasBegun, begun_further, came_large, came_whole}
use Rattle.file_fetch.specs.Received.{artifact_at}
use Rattle.file_fetch.specs.Stores.{IsHeld}
use Rattle.file_fetch.proofs.artifacts.receive.Goals as goal

pub overflow_sub-left : goal.overflow_sub-left
overflow_sub-left g c =
    let before = c.pieces.invariant in
    let plan = c.args.plan.now in
    let fits = rw c.in-Ok-Piece.field-0-is at
    (c.in-Ok-Piece.ensures.within (artifact_at plan c.args.key.now (plan.limit - c.pieces.left)) before.file) in
    omega (arith, before.within, fits.within, c.len.ensures)

pub pieces-smaller : goal.pieces-smaller
pieces-smaller g c =
    let before = c.pieces.invariant in
    let plan = c.args.plan.now in
    let fits = rw c.in-Ok-Piece.field-0-is at
    (c.in-Ok-Piece.ensures.within (artifact_at plan c.args.key.now (plan.limit - c.pieces.left)) before.file) in
    omega (arith, before.within, fits.some, fits.within, c.len.ensures)

pub pieces-preserved : goal.pieces-preserved
pieces-preserved g c =
    let link = g.L.Link in
    let disk = g.D.Disk in
    let before = c.pieces.invariant in
    let step = c.in-Ok-Piece.ensures in
    let plan = c.args.plan.now in
    let piece = c.receive_piece.new.piece.items in
    let given = plan.limit - c.pieces.left in
    let file = artifact_at plan c.args.key.now given in
    let url = url_in plan c.args.key.now in
    let fits = rw c.in-Ok-Piece.field-0-is at (step.within file before.file) in
    let size : c.len.result ≡ length piece = omega (arith, c.len.ensures) in
    let longer : given + length piece ≡ plan.limit - (c.pieces.left - c.len.result) =
    omega (arith, before.within, fits.within, size) in
    record {
      file =
          subst (λ (n : ℕ). link.open_file c.receive_piece.new.link ≡ Some (artifact_at plan c.args.key.now n)) longer
          (rw before.file at (rw c.in-Ok-Piece.field-0-is at step.moved));
      within = omega (arith, before.within);
      live = step.live;
      stands = step.stands step.live;
      is_open = step.open;
      kept_store = store_trans disk.told disk.moment disk.since AnyFile _ _ _ before.kept_store step.store;
      faith = λ w. faith_trans disk.told disk.moment disk.since w _ _ _ (before.faith w) (step.faithful w);
      begun = λ w agrees empty.
          subst (λ (n : ℕ). HasBegun (at w url) (IsHeld disk.told c.receive_piece.new.store c.args.part.number) n) longer
          (begun_further file (at w url) _ _ given _ (before.begun w agrees empty) refl step.bytes
          (rw c.in-Ok-Piece.field-0-is at (step.answer w (before.kept.agreement w agrees) file before.file)));
      disk_later = omega (arith, before.disk_later, step.disk.later);
      faults = step.cause.quiet refl ∙ before.faults;
      asked = step.asked ∙ before.asked;
      failed = step.failed.quiet refl ∙ before.failed;
      kept = kept_trans link.agrees link.faults link.asked link.failed_urls _ _ _ before.kept step.kept;
    }

pub returns-in-Ok-End-clause-answer : goal.returns-in-Ok-End-clause-answer
returns-in-Ok-End-clause-answer g c = λ w agrees empty.
    let before = c.pieces.invariant in
    let step = c.in-Ok-End.ensures in
    let plan = c.args.plan.now in
    let given = plan.limit - c.pieces.left in
    let file = artifact_at plan c.args.key.now given in
    came_whole file (at w (url_in plan c.args.key.now)) _ _ given _ _ (before.begun w agrees empty) refl
    (omega (arith, before.within)) step.bytes (rw c.in-Ok-End.field-0-is at (step.within file before.file))
    (rw c.in-Ok-End.field-0-is at (step.answer w (before.kept.agreement w agrees) file before.file))

pub returns-in-Ok-TooLarge-clause-answer : goal.returns-in-Ok-TooLarge-clause-answer
returns-in-Ok-TooLarge-clause-answer g c = λ w agrees empty.
    let before = c.pieces.invariant in
    let step = c.in-Ok-TooLarge.ensures in
    let plan = c.args.plan.now in
    let file = artifact_at plan c.args.key.now (plan.limit - c.pieces.left) in
    came_large file (at w (url_in plan c.args.key.now)) _ _ _ refl
    (rw c.in-Ok-TooLarge.field-0-is at (step.answer w (before.kept.agreement w agrees) file before.file))

pub returns-in-Ok-End-clause-store : goal.returns-in-Ok-End-clause-store
returns-in-Ok-End-clause-store g c =
    store_trans g.D.Disk.told g.D.Disk.moment g.D.Disk.since AnyFile _ _ _ c.pieces.invariant.kept_store c.in-Ok-End.ensures.store

pub returns-in-Ok-End-clause-faithful : goal.returns-in-Ok-End-clause-faithful
returns-in-Ok-End-clause-faithful g c = λ w. faith_trans g.D.Disk.told g.D.Disk.moment g.D.Disk.since w _ _ _ (c.pieces.invariant.faith w) (c.in-Ok-End.ensures.faithful w)

pub returns-in-Ok-TooLarge-clause-store : goal.returns-in-Ok-TooLarge-clause-store
returns-in-Ok-TooLarge-clause-store g c =
    store_trans g.D.Disk.told g.D.Disk.moment g.D.Disk.since AnyFile _ _ _ c.pieces.invariant.kept_store c.in-Ok-TooLarge.ensures.store

pub returns-in-Ok-TooLarge-clause-faithful : goal.returns-in-Ok-TooLarge-clause-faithful
returns-in-Ok-TooLarge-clause-faithful g c = λ w. faith_trans g.D.Disk.told g.D.Disk.moment g.D.Disk.since w _ _ _ (c.pieces.invariant.faith w) (c.in-Ok-TooLarge.ensures.faithful w)

pub returns-in-Err-clause-store : goal.returns-in-Err-clause-store
returns-in-Err-clause-store g c =
    store_trans g.D.Disk.told g.D.Disk.moment g.D.Disk.since AnyFile _ _ _ c.pieces.invariant.kept_store c.in-Err.ensures.store

pub returns-in-Err-clause-faithful : goal.returns-in-Err-clause-faithful
returns-in-Err-clause-faithful g c = λ w. faith_trans g.D.Disk.told g.D.Disk.moment g.D.Disk.since w _ _ _ (c.pieces.invariant.faith w) (c.in-Err.ensures.faithful w)

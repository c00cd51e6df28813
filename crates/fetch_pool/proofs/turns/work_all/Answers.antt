use Rattle.std.proofs.Common.{◌+◌, List, ◌∷◌, refl, sym, subst, ◌∙◌, drop, take, arith, length, ◌-◌}
use Rattle.cache_store.specs.Stands.{disk_of}
use Rattle.claim_rules.specs.Histories.{give_back}
use Rattle.fetch_pool.proofs.Batching.{Steps, ends_none}
use Rattle.fetch_pool.proofs.Ending.{all_back, all_on, all_stopped, goes_on_so}
use Rattle.fetch_pool.proofs.Flights.{all_left, due_less, first_held, first_left}
use Rattle.fetch_pool.proofs.Keeping.{kept_each, kept_on, kept_same}
use Rattle.fetch_pool.specs.Boards.{desk_of}
use Rattle.fetch_pool.specs.Flights.{AreDue, OnlyFlying}
use Rattle.file_fetch.specs.Keys.{CanAsk}
use Rattle.pool_rules.specs.Counts.{counts_of}
use Rattle.pool_rules.specs.declared.plan.Plan.{Plan}
use Rattle.res_base.specs.declared.key.FileKey.{FileKey}
use Rattle.fetch_pool.proofs.turns.work_all.Goals as goal

pub work-requires-clause-held : goal.work-requires-clause-held
work-requires-clause-held g c =
    let keys : List FileKey = c.args.keys.now in
    let i = c.loop-i.i in
    let key : FileKey = c.index-keys-i.result in
    let rest : List FileKey = drop (i + 1) keys in
    let due : AreDue c.args.board.now.plan c.loop-i.board.core.history c.args.seat (key ∷ rest) =
    subst (λ (xs : List FileKey). AreDue c.args.board.now.plan c.loop-i.board.core.history c.args.seat xs)
    (first_left keys i key c.loop-i-test.true c.index-keys-i.is) c.loop-i.invariant.due in
    first_held c.equality_decided.ensures.keys c.loop-i.board.core.history c.args.seat rest key due.flying

pub work-requires-clause-key : goal.work-requires-clause-key
work-requires-clause-key g c =
    let keys : List FileKey = c.args.keys.now in
    let i = c.loop-i.i in
    let key : FileKey = c.index-keys-i.result in
    let rest : List FileKey = drop (i + 1) keys in
    let due : AreDue c.args.board.now.plan c.loop-i.board.core.history c.args.seat (key ∷ rest) =
    subst (λ (xs : List FileKey). AreDue c.args.board.now.plan c.loop-i.board.core.history c.args.seat xs)
    (first_left keys i key c.loop-i-test.true c.index-keys-i.is) c.loop-i.invariant.due in
    subst (λ (p : Plan). CanAsk p key) (sym c.loop-i.invariant.kept.job.plan) due.asked.0

pub hand_all_back-requires : goal.hand_all_back-requires
hand_all_back-requires g c =
    let old = c.args.board.now in
    let mid = c.loop-i.board in
    let new = c.work.new.board in
    let keys : List FileKey = c.args.keys.now in
    let i = c.loop-i.i in
    let key : FileKey = c.index-keys-i.result in
    let rest : List FileKey = drop (i + 1) keys in
    let due : AreDue old.plan mid.core.history c.args.seat (key ∷ rest) =
    subst (λ (xs : List FileKey). AreDue old.plan mid.core.history c.args.seat xs)
    (first_left keys i key c.loop-i-test.true c.index-keys-i.is) c.loop-i.invariant.due in
    let left : AreDue old.plan new.core.history c.args.seat rest =
    due_less c.equality_decided.ensures.keys old.plan mid.core.history new.core.history c.args.seat rest key
    c.work.ensures.ends.what c.work.ensures.ends.end due c.work.ensures.ends.history in
    record {
      flying = subst (λ (xs : List FileKey). OnlyFlying new.core.history c.args.seat xs) (sym (all_left keys (i + 1))) left.flying;
    }

pub loop-i-preserved : goal.loop-i-preserved
loop-i-preserved g c =
    let link = g.L.Link in
    let disk = g.D.Disk in
    let old = c.args.board.now in
    let mid = c.loop-i.board in
    let new = c.work.new.board in
    let keys : List FileKey = c.args.keys.now in
    let i = c.loop-i.i in
    let key : FileKey = c.index-keys-i.result in
    let rest : List FileKey = drop (i + 1) keys in
    let due : AreDue old.plan mid.core.history c.args.seat (key ∷ rest) =
    subst (λ (xs : List FileKey). AreDue old.plan mid.core.history c.args.seat xs)
    (first_left keys i key c.loop-i-test.true c.index-keys-i.is) c.loop-i.invariant.due in
    let two = counts_of link.faults link.asked link.failed_urls disk.faults disk.last c.loop-i.link (disk_of mid.store) in
    let three = counts_of link.faults link.asked link.failed_urls disk.faults disk.last c.work.new.link (disk_of new.store) in
    let goes = goes_on_so (desk_of old) (desk_of mid) (desk_of new) c.args.seat key two three c.work.result
    c.loop-i.invariant.goes c.work.ensures.ends c.in_default.is in
    let laws : Steps = record {
      entry = c.work_grows.ensures.entry;
      nothing = c.work_begins.ensures.works;
      on = c.work_goes_on.ensures.works;
      same = c.counts_later.ensures.same;
      stops = c.legal_histories.ensures.stops;
    } in
    record {
      ends = all_on link.faults link.asked link.failed_urls disk.faults disk.last laws old mid new c.args.link.now c.loop-i.link
          c.work.new.link c.args.seat key i c.work.result c.loop-i.invariant.ends c.work.ensures.kept.job
          c.work.ensures.later c.work.ensures.ends c.work.ensures.few;
      goes = goes;
      kept = kept_on link.agrees link.faults link.asked link.failed_urls disk.told disk.moment disk.since old mid new
          c.args.link.now c.loop-i.link c.work.new.link c.loop-i.invariant.kept c.work.ensures.kept;
      idle = c.work.ensures.idle goes.going;
      due = due_less c.equality_decided.ensures.keys old.plan mid.core.history new.core.history c.args.seat rest key
          c.work.ensures.ends.what c.work.ensures.ends.end due c.work.ensures.ends.history;
    }

pub returns-in-Some-clause-ends : goal.returns-in-Some-clause-ends
returns-in-Some-clause-ends g c =
    let link = g.L.Link in
    let disk = g.D.Disk in
    let old = c.args.board.now in
    let mid = c.loop-i.board in
    let new = c.work.new.board in
    let keys : List FileKey = c.args.keys.now in
    let i = c.loop-i.i in
    let key : FileKey = c.index-keys-i.result in
    let laws : Steps = record {
      entry = c.work_grows.ensures.entry;
      nothing = c.work_begins.ensures.works;
      on = c.work_goes_on.ensures.works;
      same = c.counts_later.ensures.same;
      stops = c.legal_histories.ensures.stops;
    } in
    all_back link.faults link.asked link.failed_urls disk.faults disk.last laws old new c.hand_all_back.new.board
    c.args.link.now c.work.new.link c.args.seat (take (length keys - (i + 1)) (drop (i + 1) keys)) (i + 1) (length keys)
    (omega (arith, c.loop-i-test.true))
    (all_on link.faults link.asked link.failed_urls disk.faults disk.last laws old mid new c.args.link.now c.loop-i.link
    c.work.new.link c.args.seat key i c.work.result c.loop-i.invariant.ends c.work.ensures.kept.job
    c.work.ensures.later c.work.ensures.ends c.work.ensures.few)
    c.hand_all_back.ensures.same c.hand_all_back.ensures.history

pub returns-in-Some-clause-stopped : goal.returns-in-Some-clause-stopped
returns-in-Some-clause-stopped g c finish is =
    let link = g.L.Link in
    let disk = g.D.Disk in
    let old = c.args.board.now in
    let mid = c.loop-i.board in
    let new = c.work.new.board in
    let laws : Steps = record {
      entry = c.work_grows.ensures.entry;
      nothing = c.work_begins.ensures.works;
      on = c.work_goes_on.ensures.works;
      same = c.counts_later.ensures.same;
      stops = c.legal_histories.ensures.stops;
    } in
    all_stopped link.faults link.asked link.failed_urls disk.faults disk.last laws old mid new c.hand_all_back.new.board
    c.args.link.now c.loop-i.link c.work.new.link c.loop-i.i finish c.loop-i.invariant.ends
    (c.work.ensures.ends.stops finish (c.in-Some.is ∙ is)) c.hand_all_back.ensures.same c.hand_all_back.ensures.ended

pub returns-in-Some-clause-kept : goal.returns-in-Some-clause-kept
returns-in-Some-clause-kept g c =
    let link = g.L.Link in
    let disk = g.D.Disk in
    let old = c.args.board.now in
    let mid = c.loop-i.board in
    let new = c.work.new.board in
    let end = c.hand_all_back.new.board in
    let keys : List FileKey = c.args.keys.now in
    let left : List FileKey = take (length keys - (c.loop-i.i + 1)) (drop (c.loop-i.i + 1) keys) in
    kept_on link.agrees link.faults link.asked link.failed_urls disk.told disk.moment disk.since old new end
    c.args.link.now c.work.new.link c.work.new.link
    (kept_on link.agrees link.faults link.asked link.failed_urls disk.told disk.moment disk.since old mid new
    c.args.link.now c.loop-i.link c.work.new.link c.loop-i.invariant.kept c.work.ensures.kept)
    (kept_each link.agrees link.faults link.asked link.failed_urls disk.told disk.moment disk.since
    c.entries_true.ensures.others c.args.seat (λ key. give_back key) (λ key. refl) (λ key. refl) new end c.work.new.link left
    c.hand_all_back.ensures.same c.hand_all_back.ensures.history)

pub loop-i-init : goal.loop-i-init
loop-i-init g c =
    let link = g.L.Link in
    let disk = g.D.Disk in
    let old = c.args.board.now in
    let one = counts_of link.faults link.asked link.failed_urls disk.faults disk.last c.args.link.now (disk_of old.store) in
    let laws : Steps = record {
      entry = c.work_grows.ensures.entry;
      nothing = c.work_begins.ensures.works;
      on = c.work_goes_on.ensures.works;
      same = c.counts_later.ensures.same;
      stops = c.legal_histories.ensures.stops;
    } in
    record {
      ends = ends_none laws (desk_of old) (desk_of old) one (record { job = record { settings = refl; plan = refl }; history = refl });
      goes = record { kept = refl; going = c.requires.going };
      kept = kept_same link.agrees link.faults link.asked link.failed_urls disk.told disk.moment disk.since old c.args.link.now;
      idle = c.requires.idle;
      due = c.requires.due;
    }

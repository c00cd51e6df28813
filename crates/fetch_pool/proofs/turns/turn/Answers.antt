use Rattle.std.proofs.Common.{◌≡◌, ◌<◌, ◌∙◌, List, refl, sym, ap, subst, length}
use Rattle.cache_store.specs.Stands.{disk_of}
use Rattle.cache_store.specs.declared.store.Store.{Store}
use Rattle.claim_rules.specs.Histories.{claim}
use Rattle.fetch_pool.proofs.Keeping.{kept_by, kept_each, kept_on}
use Rattle.fetch_pool.proofs.Lacking.{lacks_same}
use Rattle.fetch_pool.proofs.Turning.{Laws, board_few, board_going, board_more, board_worked, none_known}
use Rattle.fetch_pool.specs.Boards.{IsIdle}
use Rattle.fetch_pool.specs.Flights.{AreDue, with_each}
use Rattle.pool_rules.specs.Worlds.{whole_of}
use Rattle.pool_rules.specs.declared.plan.Plan.{Plan}
use Rattle.res_base.specs.declared.key.FileKey.{FileKey}
use Rattle.fetch_pool.proofs.turns.turn.Goals as goal

pub work_all-finish-requires-clause-due : goal.work_all-finish-requires-clause-due
work_all-finish-requires-clause-due g c =
    let mid = c.claim_batch.new.board in
    subst (λ (xs : List FileKey). AreDue mid.plan mid.core.history c.args.seat xs) (sym c.as_slice.ensures.value)
    (subst (λ (p : Plan). AreDue p mid.core.history c.args.seat c.in-Ok.keys.items) (sym c.claim_batch.ensures.same.plan)
    c.in-Ok.ensures.due)

pub work_all-finish-requires-clause-idle : goal.work_all-finish-requires-clause-idle
work_all-finish-requires-clause-idle g c =
    subst (λ (s : Store g.row.D.Denot). IsIdle g.D.Disk.told s) (sym c.claim_batch.ensures.same.store) c.requires.idle

pub returns-in-Ok-clause-going : goal.returns-in-Ok-clause-going
returns-in-Ok-clause-going g c none =
    let link = g.L.Link in
    let disk = g.D.Disk in
    let old = c.args.board.now in
    let mid = c.claim_batch.new.board in
    let new = c.work_all-finish.new.board in
    let keys : List FileKey = c.as_slice.result.now in
    let claimed : mid.core.history ≡ with_each old.core.history c.args.seat (λ key. claim key) keys =
    c.in-Ok.ensures.claimed ∙ ap (λ (xs : List FileKey). with_each old.core.history c.args.seat (λ key. claim key) xs) (sym c.as_slice.ensures.value) in
    let laws : Laws = record {
      steps = record {
        entry = c.work_grows.ensures.entry;
        nothing = c.work_begins.ensures.works;
        on = c.work_goes_on.ensures.works;
        same = c.counts_later.ensures.same;
        stops = c.legal_histories.ensures.stops;
      };
      waits = c.turns_land.ensures.waits;
      answered = c.work_ends.ensures.answered;
      asks_nothing = c.asks_add.ensures.nothing;
    } in
    board_going link.faults link.asked link.failed_urls disk.faults disk.last laws old mid new c.args.link.now c.work_all-finish.new.link
    c.args.seat keys c.claim_batch.ensures.same claimed c.work_all-finish.ensures.ends
    (c.work_all-finish.ensures.going none) c.work_all-finish.ensures.landed

pub returns-in-Ok-clause-worked : goal.returns-in-Ok-clause-worked
returns-in-Ok-clause-worked g c finish some =
    let link = g.L.Link in
    let disk = g.D.Disk in
    let old = c.args.board.now in
    let mid = c.claim_batch.new.board in
    let new = c.work_all-finish.new.board in
    let keys : List FileKey = c.as_slice.result.now in
    let claimed : mid.core.history ≡ with_each old.core.history c.args.seat (λ key. claim key) keys =
    c.in-Ok.ensures.claimed ∙ ap (λ (xs : List FileKey). with_each old.core.history c.args.seat (λ key. claim key) xs) (sym c.as_slice.ensures.value) in
    let laws : Laws = record {
      steps = record {
        entry = c.work_grows.ensures.entry;
        nothing = c.work_begins.ensures.works;
        on = c.work_goes_on.ensures.works;
        same = c.counts_later.ensures.same;
        stops = c.legal_histories.ensures.stops;
      };
      waits = c.turns_land.ensures.waits;
      answered = c.work_ends.ensures.answered;
      asks_nothing = c.asks_add.ensures.nothing;
    } in
    board_worked link.faults link.asked link.failed_urls disk.faults disk.last laws old mid new c.args.link.now c.work_all-finish.new.link
    c.args.seat keys c.claim_batch.ensures.same claimed c.work_all-finish.ensures.ends
    c.work_all-finish.ensures.kept.ask c.legal.ensures c.work_all-finish.ensures.landed finish
    (c.work_all-finish.ensures.stopped finish some)

pub returns-in-Ok-clause-few : goal.returns-in-Ok-clause-few
returns-in-Ok-clause-few g c =
    let link = g.L.Link in
    let disk = g.D.Disk in
    let old = c.args.board.now in
    let mid = c.claim_batch.new.board in
    let new = c.work_all-finish.new.board in
    let keys : List FileKey = c.as_slice.result.now in
    let claimed : mid.core.history ≡ with_each old.core.history c.args.seat (λ key. claim key) keys =
    c.in-Ok.ensures.claimed ∙ ap (λ (xs : List FileKey). with_each old.core.history c.args.seat (λ key. claim key) xs) (sym c.as_slice.ensures.value) in
    let laws : Laws = record {
      steps = record {
        entry = c.work_grows.ensures.entry;
        nothing = c.work_begins.ensures.works;
        on = c.work_goes_on.ensures.works;
        same = c.counts_later.ensures.same;
        stops = c.legal_histories.ensures.stops;
      };
      waits = c.turns_land.ensures.waits;
      answered = c.work_ends.ensures.answered;
      asks_nothing = c.asks_add.ensures.nothing;
    } in
    board_few link.faults link.asked link.failed_urls disk.faults disk.last laws old mid new c.args.link.now c.work_all-finish.new.link
    c.args.seat keys c.claim_batch.ensures.same claimed c.work_all-finish.ensures.ends

pub returns-in-Ok-clause-more : goal.returns-in-Ok-clause-more
returns-in-Ok-clause-more g c none =
    let link = g.L.Link in
    let disk = g.D.Disk in
    let old = c.args.board.now in
    let mid = c.claim_batch.new.board in
    let new = c.work_all-finish.new.board in
    let keys : List FileKey = c.as_slice.result.now in
    let claimed : mid.core.history ≡ with_each old.core.history c.args.seat (λ key. claim key) keys =
    c.in-Ok.ensures.claimed ∙ ap (λ (xs : List FileKey). with_each old.core.history c.args.seat (λ key. claim key) xs) (sym c.as_slice.ensures.value) in
    let laws : Laws = record {
      steps = record {
        entry = c.work_grows.ensures.entry;
        nothing = c.work_begins.ensures.works;
        on = c.work_goes_on.ensures.works;
        same = c.counts_later.ensures.same;
        stops = c.legal_histories.ensures.stops;
      };
      waits = c.turns_land.ensures.waits;
      answered = c.work_ends.ensures.answered;
      asks_nothing = c.asks_add.ensures.nothing;
    } in
    board_more link.faults link.asked link.failed_urls disk.faults disk.last laws old mid new c.args.link.now c.work_all-finish.new.link
    c.args.seat keys c.claim_batch.ensures.same claimed c.work_all-finish.ensures.ends
    c.in-Ok.ensures.room (subst (λ (xs : List FileKey). 0 < length xs) (sym c.as_slice.ensures.value) c.in-Ok.ensures.some)

pub returns-in-Ok-clause-kept : goal.returns-in-Ok-clause-kept
returns-in-Ok-clause-kept g c =
    let link = g.L.Link in
    let disk = g.D.Disk in
    let old = c.args.board.now in
    let mid = c.claim_batch.new.board in
    let new = c.work_all-finish.new.board in
    let keys : List FileKey = c.as_slice.result.now in
    let claimed : mid.core.history ≡ with_each old.core.history c.args.seat (λ key. claim key) keys =
    c.in-Ok.ensures.claimed ∙ ap (λ (xs : List FileKey). with_each old.core.history c.args.seat (λ key. claim key) xs) (sym c.as_slice.ensures.value) in
    kept_on link.agrees link.faults link.asked link.failed_urls disk.told disk.moment disk.since old mid new
    c.args.link.now c.args.link.now c.work_all-finish.new.link
    (kept_each link.agrees link.faults link.asked link.failed_urls disk.told disk.moment disk.since
    c.entries_true.ensures.others c.args.seat (λ key. claim key) (λ key. refl) (λ key. refl) old mid c.args.link.now keys
    c.claim_batch.ensures.same claimed)
    c.work_all-finish.ensures.kept

pub returns-in-Err-clause-kept : goal.returns-in-Err-clause-kept
returns-in-Err-clause-kept g c =
    let link = g.L.Link in
    let disk = g.D.Disk in
    let old = c.args.board.now in
    let new = c.claim_batch.new.board in
    kept_by link.agrees link.faults link.asked link.failed_urls disk.told disk.moment disk.since old new c.args.link.now
    c.claim_batch.ensures.same (λ w. none_known (whole_of old.plan w) old.core.history new.core.history c.in-Err.ensures.unclaimed)
    (lacks_same old.plan (disk.told (disk_of old.store)) old.core.history new.core.history c.in-Err.ensures.unclaimed)

pub returns-in-Err-clause-idle : goal.returns-in-Err-clause-idle
returns-in-Err-clause-idle g c going =
    subst (λ (s : Store g.row.D.Denot). IsIdle g.D.Disk.told s) (sym c.claim_batch.ensures.same.store) c.requires.idle

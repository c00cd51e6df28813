use Rattle.std.proofs.Common.{◌≡◌, ◌≤◌, Some, sym, ap, subst}
use Rattle.std.specs.Prelude.{IfOk}
use Rattle.cache_store.specs.Stands.{disk_of, is_live, parts_of}
use Rattle.cache_store.specs.declared.store.Store.{Store}
use Rattle.fetch_pool.proofs.Keeping.{faithful_to, kept_got}
use Rattle.fetch_pool.proofs.Settling.{Fetched, cost_of, ended_none, ends_by, goes_on, is_end, stays_idle, true_on}
use Rattle.fetch_pool.proofs.Lacking.{lacks_end}
use Rattle.fetch_pool.specs.Boards.{IsIdle}
use Rattle.fetch_pool.specs.Ends.{what_of}
use Rattle.fetch_pool.specs.Turns.{LacksOnly}
use Rattle.file_fetch.specs.Stores.{HasNoParts}
use Rattle.pool_rules.specs.Counts.{counts_of}
use Rattle.pool_rules.specs.Worlds.{StaysTrue, reading_in, whole_of}
use Rattle.fetch_pool.proofs.turns.work.Goals as goal

pub returns-clause-ends : goal.returns-clause-ends
returns-clause-ends g c =
    let old = c.args.board.now in
    let new = c.settle.new.board in
    let got = c.get_reading-got.result in
    let ens = c.get_reading-got.ensures in
    let key = c.args.key.now in
    let link = g.L.Link in
    let disk = g.D.Disk in
    let before = counts_of link.faults link.asked link.failed_urls disk.faults disk.last c.args.link.now (disk_of old.store) in
    let now = counts_of link.faults link.asked link.failed_urls disk.faults disk.last c.get_reading-got.new.link (disk_of new.store) in
    let first : Fetched old.plan key before
    (counts_of link.faults link.asked link.failed_urls disk.faults disk.last c.get_reading-got.new.link (disk_of c.get_reading-got.new.store)) got =
    record { link = ens.cause; failing = ens.failed; online = ens.online; not_cached = ens.not_cached; disk = ens.disk } in
    let fetched : Fetched old.plan key before now got =
    subst (λ (s : Store g.row.D.Denot). Fetched old.plan key before
    (counts_of link.faults link.asked link.failed_urls disk.faults disk.last c.get_reading-got.new.link (disk_of s)) got)
    (sym c.settle.ensures.same.store) first in
    record {
      what = what_of key got c.settle.result;
      end = is_end key got c.settle.result;
      history = c.settle.ensures.history;
      cost = cost_of old.plan key before now got c.settle.result fetched;
      goes = λ none. goes_on key got c.settle.result new.ended c.settle.ensures.ends none;
      stops = ends_by new.ended old.plan key before now got c.settle.result fetched c.settle.ensures.ends;
    }

pub returns-clause-later : goal.returns-clause-later
returns-clause-later g c =
    let ens = c.get_reading-got.ensures in
    let link = g.L.Link in
    let disk = g.D.Disk in
    record {
      faults = ens.kept.faults_later;
      asked = ens.kept.asked_later;
      failed = ens.kept.failed_longer;
      disk_faults = subst (λ (s : Store g.row.D.Denot). disk.faults (disk_of c.args.board.now.store) ≤ disk.faults (disk_of s))
          (sym c.settle.ensures.same.store) ens.disk.later;
      silent = λ off. ap link.asked (ens.offline off);
    }

pub returns-clause-kept : goal.returns-clause-kept
returns-clause-kept g c =
    let old = c.args.board.now in
    let ens = c.get_reading-got.ensures in
    let link = g.L.Link in
    let disk = g.D.Disk in
    kept_got link.agrees link.faults link.asked link.failed_urls disk.told disk.moment disk.since old c.settle.new.board
    c.get_reading-got.new.store c.args.link.now c.get_reading-got.new.link c.settle.ensures.same ens.kept ens.store.sound
    (λ w x. (ens.faithful w x).faithful)
    (λ w x tells all. subst (λ h. StaysTrue (whole_of old.plan w) old.core.history h) (sym c.settle.ensures.history)
    (true_on c.entries_true.ensures.arrival c.entries_true.ensures.others (whole_of old.plan w) old.core.history c.args.seat
    c.args.key.now c.get_reading-got.result c.settle.result
    (λ reading is. ap Some (sym (subst (λ r. IfOk r (λ one. one ≡ reading_in old.plan w c.args.key.now)) is (ens.answer w x (faithful_to w (disk.told (disk_of old.store)) (tells (disk_of old.store)) all)))))))
    ens.still
    (subst (λ h. LacksOnly old.plan (disk.told (disk_of old.store)) old.core.history h) (sym c.settle.ensures.history)
    (lacks_end (λ a b. (c.equality_decided.ensures.keys a b).0) old.plan (disk.told (disk_of old.store)) old.core.history
    c.args.seat c.args.key.now c.get_reading-got.result c.settle.result ens.lacking))

pub returns-clause-idle : goal.returns-clause-idle
returns-clause-idle g c going =
    let ens = c.get_reading-got.ensures in
    let store = c.get_reading-got.new.store in
    let none = ended_none c.get_reading-got.result c.settle.result c.settle.new.board.ended c.settle.ensures.ends going in
    let idle = stays_idle c.get_reading-got.result c.settle.result c.settle.new.board.ended (is_live store)
    (HasNoParts (parts_of store)) c.settle.ensures.ends none ens.live ens.none in
    let at : IsIdle g.D.Disk.told store = record { live = idle.0; stands = ens.stands idle.0; none = idle.1 } in
    subst (λ (s : Store g.row.D.Denot). IsIdle g.D.Disk.told s) (sym c.settle.ensures.same.store) at

use Rattle.std.proofs.Common.{◌∙◌, ap, true, sym, subst, refl, arith}
use Rattle.arrival_core.specs.Resolving.{resolver_of}
use Rattle.cache_store.specs.Stands.{disk_of}
use Rattle.claim_rules.specs.declared.settings.Settings.{Settings}
use Rattle.fetch_pool.proofs.Keeping.{kept_on, kept_same}
use Rattle.fetch_pool.specs.Boards.{desk_of}
use Rattle.pool_rules.specs.Counts.{counts_of}
use Rattle.pool_rules.specs.Ends.{IsWorked}
use Rattle.resolution.specs.declared.ask.Ask.{Ask}
use Rattle.fetch_pool.proofs.alone.finish_counted.Goals as goal

pub returns-in-Some-clause-worked : goal.returns-in-Some-clause-worked
returns-in-Some-clause-worked g c =
    let link = g.L.Link in
    let disk = g.D.Disk in
    let one = counts_of link.faults link.asked link.failed_urls disk.faults disk.last c.args.link.now (disk_of c.args.board.store) in
    let two = counts_of link.faults link.asked link.failed_urls disk.faults disk.last c.turns.link (disk_of c.turns.board.store) in
    let three = counts_of link.faults link.asked link.failed_urls disk.faults disk.last c.turn.new.link (disk_of c.turn.new.board.store) in
    c.work_ends.ensures.turns (resolver_of c.args.board.core.ask) (desk_of c.args.board) (desk_of c.turns.board)
    (desk_of c.turn.new.board) one two three c.in-Some.finish c.turns.invariant.going
    (subst (λ (a : Ask). IsWorked (resolver_of a) (desk_of c.turns.board) (desk_of c.turn.new.board) two three c.in-Some.finish)
    c.turns.invariant.kept.ask (c.turn.ensures.worked c.in-Some.finish c.in-Some.is))

pub returns-in-Some-clause-kept : goal.returns-in-Some-clause-kept
returns-in-Some-clause-kept g c =
    let link = g.L.Link in
    let disk = g.D.Disk in
    kept_on link.agrees link.faults link.asked link.failed_urls disk.told disk.moment disk.since c.args.board c.turns.board
    c.turn.new.board c.args.link.now c.turns.link c.turn.new.link c.turns.invariant.kept c.turn.ensures.kept

pub turns-preserved : goal.turns-preserved
turns-preserved g c =
    let link = g.L.Link in
    let disk = g.D.Disk in
    let one = counts_of link.faults link.asked link.failed_urls disk.faults disk.last c.args.link.now (disk_of c.args.board.store) in
    let two = counts_of link.faults link.asked link.failed_urls disk.faults disk.last c.turns.link (disk_of c.turns.board.store) in
    let three = counts_of link.faults link.asked link.failed_urls disk.faults disk.last c.turn.new.link (disk_of c.turn.new.board.store) in
    record {
      going = c.work_goes_on.ensures.going (desk_of c.args.board) (desk_of c.turns.board) (desk_of c.turn.new.board) one two three
          c.turns.invariant.going (c.turn.ensures.going c.in_default.is);
      kept = kept_on link.agrees link.faults link.asked link.failed_urls disk.told disk.moment disk.since c.args.board
          c.turns.board c.turn.new.board c.args.link.now c.turns.link c.turn.new.link c.turns.invariant.kept c.turn.ensures.kept;
      few = c.asks_add.ensures.steps (λ key. true) (desk_of c.args.board) (desk_of c.turns.board) (desk_of c.turn.new.board)
          one two three c.turns.invariant.kept.job c.turns.invariant.few c.turn.ensures.few;
      repos = ap (λ (s : Settings). s.repos) c.turn.ensures.kept.job.settings ∙ c.turns.invariant.repos
          ∙ sym (ap (λ (a : Ask). a.repos) c.turn.ensures.kept.ask);
      idle = c.turn.ensures.idle (c.turn.ensures.going c.in_default.is).going;
    }

pub turns-init : goal.turns-init
turns-init g c =
    let link = g.L.Link in
    let disk = g.D.Disk in
    let one = counts_of link.faults link.asked link.failed_urls disk.faults disk.last c.args.link.now (disk_of c.args.board.store) in
    record {
      going = c.work_begins.ensures.going (desk_of c.args.board) one c.requires.ready;
      kept = kept_same link.agrees link.faults link.asked link.failed_urls disk.told disk.moment disk.since c.args.board c.args.link.now;
      few = c.asks_add.ensures.nothing (λ key. true) (desk_of c.args.board) (desk_of c.args.board) one one
          (record { job = record { settings = refl; plan = refl }; history = refl }) (omega arith);
      repos = c.requires.repos;
      idle = c.requires.idle;
    }

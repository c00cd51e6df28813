use Rattle.disk_base.proofs.Replays.{replayed}
use Rattle.disk_base.specs.Tables.{names_in}
use Rattle.disk_base.proofs.log.Log.replay.Goals as goal

pub returns : goal.returns
returns c =
    replayed c.args.self.now c.as_slice.result.now c.as_slice-2.result.now (names_in c.in_ok-table.table)
    (names_in c.follow.new.self) c.as_slice.ensures c.as_slice-2.ensures c.in_ok-table.ensures c.in_ok-follow.ensures

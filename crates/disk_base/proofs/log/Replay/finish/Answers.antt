use Rattle.disk_base.proofs.Replays.{finished, rest_of}
use Rattle.disk_base.specs.Tables.{names_in}
use Rattle.disk_base.proofs.log.Replay.finish.Goals as goal

pub returns : goal.returns
returns c =
    finished c.args.log.now c.args.self.done _ (names_in c.args.self.table) (names_in c.follow.new.self)
    (rest_of c.args.self.done c.as_slice-calls.result.now c.args.log.now.calls c.as_slice-calls.ensures)
    c.requires.names c.in_ok-follow.ensures

-- A table that was made for the first so many changes of a log.
use Rattle.std.specs.Prelude.{ℕ, ◌≡◌, ◌≤◌, List, length, take}
use Rattle.disk_base.specs.Names.{run}
use Rattle.disk_base.specs.Tables.{names_in, names_of}
use Rattle.disk_base.specs.declared.log.Log.{Log}
use Rattle.disk_base.specs.declared.log.Replay.{Replay}

pub record Follows (log : Log) (replay : Replay) : Type 0 where
  pub few : replay.done ≤ length log.calls
  pub names : (n : List ℕ) → names_in replay.table n ≡ run (take replay.done log.calls) (names_of log.first) n

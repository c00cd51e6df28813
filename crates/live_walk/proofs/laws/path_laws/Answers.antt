use Rattle.live_walk.proofs.Answered.{followed_any, last_is}
use Rattle.live_walk.proofs.Renamed.{followed_seen}
use Rattle.live_walk.proofs.laws.path_laws.Goals as goal

pub returns-clause-last : goal.returns-clause-last
returns-clause-last g c = last_is

pub returns-clause-counted : goal.returns-clause-counted
returns-clause-counted g c =
    λ graph modules others m e lawful has has_others. followed_any graph lawful modules others has has_others m e

pub returns-clause-seen : goal.returns-clause-seen
returns-clause-seen g c = followed_seen

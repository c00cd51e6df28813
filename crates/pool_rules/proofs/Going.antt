-- A claim and its end, as work.
use Rattle.std.proofs.Common.{ℕ, refl}
use Rattle.claim_rules.specs.Histories.{What, claim}
use Rattle.pool_rules.proofs.Working.{Added, SameKeys, entry_works, works_on}
use Rattle.pool_rules.specs.Boards.{Desk}
use Rattle.pool_rules.specs.Counts.{AreLater, Counts}
use Rattle.pool_rules.specs.Works.{AddsTurn, Works, costs, with_entry}
use Rattle.pool_rules.specs.declared.plan.Plan.{Plan}
use Rattle.res_base.specs.declared.key.FileKey.{FileKey}

abbrev pub LaterSame : Type 0
LaterSame = (plan : Plan) (counts : Counts) → AreLater plan counts counts

-- the board between the two entries
abbrev between : Desk → ℕ → FileKey → Desk
between old seat key = record old { history = with_entry old.history seat (claim key) }

pub turn_works : Added → SameKeys → LaterSame
    → (old new : Desk) (before now : Counts) (seat : ℕ) (key : FileKey) (what : What)
    → AddsTurn old new seat key what → AreLater old.plan before now → costs old.plan what before now
    → Works old new before now
turn_works added same same_later old new before now seat key what adds later cost =
    works_on old (between old seat key) new before before now
    (entry_works added same old (between old seat key) before before seat (claim key)
    (record { job = record { settings = refl; plan = refl }; history = refl }) (same_later old.plan before) tt)
    (entry_works added same (between old seat key) new before now seat what
    (record { job = record { settings = adds.job.settings; plan = adds.job.plan }; history = adds.history }) later cost)

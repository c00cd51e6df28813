-- Why claims broke.
use Rattle.std.specs.Prelude.{◌≡◌, Option, Some, if◌then◌else◌}
use Rattle.claim_log.specs.declared.event.EventKind.{EventKind}
use Rattle.claim_log.specs.declared.event.EventKind.TheVariants.{Claim, Arrive, Broke, GiveBack}
use Rattle.claim_rules.specs.Histories.{History}
use Rattle.claim_rules.specs.declared.why.Why.{Why}
use Rattle.pool_rules.specs.Ends.{last_why}
use Rattle.pool_rules.specs.declared.finish.Finish.{Finish}
use Rattle.pool_rules.specs.declared.finish.Finish.TheVariants.{Stuck}
use Rattle.res_base.specs.Names.{key_eq}
use Rattle.res_base.specs.declared.key.FileKey.{FileKey}

-- why a claim of the key broke, after one more event
abbrev pub why_by : FileKey → Option Why → EventKind → Option Why
why_by key why (Claim one) = why
why_by key why (Arrive one place) = why
why_by key why (Broke one cause) = if key_eq one key then Some cause else why
why_by key why (GiveBack one) = why

-- the finish names the key, and why its last claim that broke did so
abbrev pub IsStuckBy : History → FileKey → Finish → Type 0
IsStuckBy h key finish = (why : Why) × (finish ≡ Stuck key why) × (last_why h key ≡ Some why)

-- A worked row: one key is claimed, breaks, is claimed again and arrives; another is given back.
use Rattle.std.specs.Prelude.{◌≡◌, false, [], ◌∷◌, ◌++◌, codes, refl}
use Rattle.claim_log.specs.Events.{events_of}
use Rattle.claim_log.specs.Tallies.{tally, tally_of}
use Rattle.claim_log.specs.Told.{entry, history_of}
use Rattle.claim_rules.specs.Histories.{claim, arrive, broke, History, pairs_in}
use Rattle.claim_rules.specs.declared.why.Why.TheVariants.{Link}
use Rattle.res_base.specs.Builders.{key_of}
use Rattle.res_base.specs.declared.key.FileKey.{FileKey}
use Rattle.res_base.specs.declared.key.Role.TheVariants.{Pom}
use Rattle.res_base.specs.declared.reading.Reading.TheVariants.{Absent, TooLarge}

abbrev a : FileKey
a = key_of 0 Pom (codes "x/a/1/a-1.pom")

abbrev b : FileKey
b = key_of 0 Pom (codes "x/b/1/b-1.pom")

abbrev before : History
before = entry 0 (claim a) ∷ entry 1 (claim b) ∷ entry 0 (broke a Link) ∷ entry 2 (claim a) ∷ []

abbrev after : History
after = before ++ entry 1 (arrive b Absent) ∷ entry 2 (arrive a TooLarge) ∷ []

pub told_by_events : history_of (events_of after) (pairs_in after) ≡ after
told_by_events = refl

pub broken_once : tally_of after a ≡ tally 1 false
broken_once = refl

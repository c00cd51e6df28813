-- What comes of building, and of a part of it.
use Rattle.std.specs.Prelude.{Bool, true, false, List, [], ◌∷◌}
use Rattle.res_base.specs.declared.coord.Coord.{Coord}
use Rattle.res_base.specs.declared.key.FileKey.{FileKey}
use Rattle.res_base.specs.declared.pom.DepRecord.{DepRecord}
use Rattle.pom_build.specs.declared.build.Build.{Build}
use Rattle.pom_build.specs.declared.build.Build.TheVariants as builds
use Rattle.pom_build.specs.declared.build.BuildFault.{BuildFault}
use Rattle.pom_build.specs.declared.build.Effective.{Effective}
use Rattle.pom_build.specs.declared.outcome.Outcome.{Outcome}
use Rattle.pom_build.specs.declared.outcome.Outcome.TheVariants.{Built, Needs, NotFound, Refused}

-- what goes on from a part that is built
abbrev pub and_then : {A B : Type 0} → Outcome A → (A → Outcome B) → Outcome B
and_then (Built part) further = further part
and_then (Needs keys) further = Needs keys
and_then (NotFound why) further = NotFound why
and_then (Refused fault) further = Refused fault

-- a coordinate that was met before is a fault
abbrev pub unless_met : {A : Type 0} → Bool → BuildFault → (Coord → Outcome A) → Coord → Outcome A
unless_met true fault further c = Refused fault
unless_met false fault further c = further c

-- whether it is for want of knowledge that no more is said
abbrev pub waits : {A : Type 0} → Outcome A → Bool
waits (Built part) = false
waits (Needs keys) = true
waits (NotFound why) = false
waits (Refused fault) = false

-- the keys that are needed to say more
abbrev pub needs : {A : Type 0} → Outcome A → List FileKey
needs (Built part) = []
needs (Needs keys) = keys
needs (NotFound why) = []
needs (Refused fault) = []

-- keys that are needed come before a fault
abbrev pub needs_or : List FileKey → BuildFault → Outcome (List DepRecord)
needs_or [] fault = Refused fault
needs_or (key ∷ keys) fault = Needs (key ∷ keys)

abbrev pub build_of : Outcome Effective → Build
build_of (Built project) = builds.Built project
build_of (Needs keys) = builds.Needs keys
build_of (NotFound why) = builds.NotFound why
build_of (Refused fault) = builds.Refused fault

abbrev pub is_waiting : Build → Bool
is_waiting (builds.Built project) = false
is_waiting (builds.Needs keys) = true
is_waiting (builds.NotFound why) = false
is_waiting (builds.Refused fault) = false

-- How a line goes on.
use Rattle.std.specs.Prelude.{◌≡◌, Option}
use Rattle.std.specs.Option.{option_copied}
use Rattle.res_base.specs.declared.coord.Coord.{Coord}
use Rattle.pom_build.specs.declared.line.Climb.{Climb}
use Rattle.pom_build.specs.declared.line.Climb.TheVariants.{On, Said}
use Rattle.pom_build.specs.declared.line.Line.{Line}
use Rattle.pom_build.specs.declared.outcome.Outcome.{Outcome}

-- what is said in the end, where a line that goes on is given to a function
abbrev pub resumed : Climb → (Line → Option Coord → Outcome Line) → Outcome Line
resumed (On line next) further = further line (option_copied next)
resumed (Said outcome) further = outcome

-- whatever the function is
abbrev pub Resumes : Climb → ((Line → Option Coord → Outcome Line) → Outcome Line) → Type 0
Resumes climb whole = (further : Line → Option Coord → Outcome Line) → resumed climb further ≡ whole further

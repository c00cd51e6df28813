-- What was found at a place, redirects followed.
use Rattle.std.specs.Prelude.{ℕ, ◌≡◌, ◌≤◌, true, List, [], Option, Some, length}
use Rattle.http_wire.specs.Fields.{Bytes}
use Rattle.http_wire.specs.Outcomes.{Outcome, IsOutcome}
use Rattle.http_link.specs.declared.pages.Opening.{Opening}
use Rattle.http_visits.specs.declared.places.Place.{Place}
use Rattle.http_link.specs.declared.visits.Visited.{Visited}
use Rattle.http_link.specs.declared.visits.Visited.TheVariants.{Opened, Absent, Fault}
use Rattle.http_visits.specs.declared.pages.Page.{Page}
use Rattle.http_link.specs.declared.wire.Connection.{Connection}
use Rattle.http_link.specs.Openings.{IsTail}
use Rattle.http_visits.specs.Pages.{Says, absent, file_says, IsFault}
use Rattle.http_link.specs.Ends.{is_file_end}
use Rattle.http_visits.specs.Visits.{Visits}

-- whatever whole reply this is the beginning of, the visit says its file
abbrev pub SaysFile : List Page → ℕ → Place → Bytes → Type 0
SaysFile rows limit start reply = (whole : Outcome) → IsOutcome limit reply whole
    → Visits rows limit 5 start (file_says whole.closed whole.content)

-- a file was opened at a place, and this has come of its reply
pub record OpensFile (told : Option (List Page)) (connection : Option Connection) (limit most : ℕ) (start : Place)
    (opening : Opening) : Type 0 where
  pub reply : Bytes
  pub tail : IsTail told connection opening.reader limit reply opening.pending.items opening.ended
  pub few : length opening.pending.items ≤ most
  pub opens : opening.pending.items ≡ [] → is_file_end opening.ended ≡ true
  pub says : (rows : List Page) → told ≡ Some rows → SaysFile rows limit start reply

abbrev pub IsVisited : Option (List Page) → Option Connection → ℕ → ℕ → Place → Visited → Type 0
IsVisited told connection limit most start (Opened opening) = OpensFile told connection limit most start opening
IsVisited told connection limit most start Absent = (rows : List Page) → told ≡ Some rows → Visits rows limit 5 start absent
IsVisited told connection limit most start Fault =
    (rows : List Page) → told ≡ Some rows → (says : Says) × Visits rows limit 5 start says × IsFault says

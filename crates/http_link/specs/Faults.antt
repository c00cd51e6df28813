-- Why the count of a link's faults rises.
use Rattle.std.specs.Prelude.{ℕ, ◌≡◌, ◌⊎◌, false, List, Option, Some}
use Rattle.res_base.specs.Causes.{Rose}
use Rattle.res_base.specs.Paths.{url_at}
use Rattle.http_wire.specs.Fields.{Bytes}
use Rattle.http_visits.specs.Addresses.{is_http_address}
use Rattle.http_visits.specs.declared.pages.Page.{Page}
use Rattle.http_visits.specs.declared.places.Place.{Place}
use Rattle.http_visits.specs.Pages.{Says, IsFault}
use Rattle.http_visits.specs.Visits.{Visits, IsPlaceOf}
use Rattle.http_link.specs.declared.visits.Visited.{Visited}
use Rattle.http_link.specs.declared.visits.Visited.TheVariants.{Opened, Absent, Fault}

-- where pages are told, they say a fault at a URL
abbrev pub SaysFault : Option (List Page) → ℕ → Bytes → Type 0
SaysFault told limit url =
    (rows : List Page) → told ≡ Some rows → (place : Place) × (says : Says) × IsPlaceOf url place
    × Visits rows limit 5 place says × IsFault says

-- they do so at the URL of a path, or its address isn't one that is reached by HTTP
abbrev pub IsFaultyPath : Option (List Page) → ℕ → Bytes → Bytes → Type 0
IsFaultyPath told limit address path = SaysFault told limit (url_at address path) ⊎ (is_http_address address ≡ false)

-- a wire's count of faults rose; or else it is as above
abbrev pub IsFaultOf : ℕ → ℕ → Option (List Page) → ℕ → Bytes → Bytes → Type 0
IsFaultOf before now told limit address path = Rose before now ⊎ IsFaultyPath told limit address path

-- a visit found a fault only there
abbrev pub IsFaultFound : Option (List Page) → ℕ → Bytes → Bytes → Visited → Type 0
IsFaultFound told limit address path (Opened opening) = Unit {0}
IsFaultFound told limit address path Absent = Unit {0}
IsFaultFound told limit address path Fault = IsFaultyPath told limit address path

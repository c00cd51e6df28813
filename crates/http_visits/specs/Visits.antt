-- What pages say of a place, redirects followed, and when that is what a world holds.
use Rattle.std.specs.Prelude.{ℕ, zero, suc, ◌≡◌, true, List, [], ◌++◌, Option, Some, None, length, take, codes}
use Rattle.http_wire.specs.Fields.{Bytes}
use Rattle.http_wire.specs.Requests.{request_of}
use Rattle.link_base.specs.FilePaths.{IsFilePath}
use Rattle.link_base.specs.Links.{Rows, got_of}
use Rattle.link_base.specs.declared.links.Got.TheVariants.{Bytes as WholeFile, Absent, TooLarge}
use Rattle.res_base.specs.Paths.{url_at}
use Rattle.res_base.specs.World.{at}
use Rattle.http_visits.specs.declared.pages.Page.{Page}
use Rattle.http_visits.specs.declared.places.Place.{Place}
use Rattle.http_visits.specs.Addresses.{is_authority, is_target}
use Rattle.http_visits.specs.Pages.{Says, file, absent, moved, large, faulty, IsPage}
use Rattle.http_visits.specs.Places.{IsNextPlace}
use Rattle.http_visits.specs.Replies.{reply_of}

-- the reply to the request for a place
abbrev pub reply_at : List Page → Place → Bytes
reply_at pages place = reply_of pages place.authority (request_of place.authority place.target)

-- the place behind a page, or a fault where there is none
abbrev pub Leads : (Place → Says → Type 0) → Option Place → Says → Type 0
Leads visits None says = says ≡ faulty []
Leads visits (Some place) says = visits place says

abbrev pub Follows : (Place → Says → Type 0) → Place → Says → Says → Type 0
Follows visits place (moved location) says = (next : Option Place) × IsNextPlace place location next
    × Leads visits next says
Follows visits place (file body) says = says ≡ file body
Follows visits place absent says = says ≡ absent
Follows visits place (large body) says = says ≡ large body
Follows visits place (faulty body) says = says ≡ faulty body

-- the page itself, where no other may follow
abbrev pub Stays : Says → Says → Type 0
Stays (moved location) says = says ≡ faulty []
Stays (file body) says = says ≡ file body
Stays absent says = says ≡ absent
Stays (large body) says = says ≡ large body
Stays (faulty body) says = says ≡ faulty body

-- what the pages say of a place, after at most so many redirects
abbrev pub Visits : List Page → ℕ → ℕ → Place → Says → Type 0
Visits pages limit zero place says = (page : Says) × IsPage limit (reply_at pages place) page × Stays page says
Visits pages limit (suc hops) place says = (page : Says) × IsPage limit (reply_at pages place) page
    × Follows (Visits pages limit hops) place page says

-- these are the first bytes of what is held, and none where nothing is
abbrev pub Begins : Option Bytes → Bytes → Type 0
Begins None body = body ≡ []
Begins (Some bytes) body = body ≡ take (length body) bytes

-- what is said is what a link is to answer of what is held, or a fault, before which came the first bytes of it
abbrev pub FitsWorld : Option Bytes → ℕ → Says → Type 0
FitsWorld held limit (file body) = got_of held limit ≡ WholeFile body
FitsWorld held limit absent = got_of held limit ≡ Absent
FitsWorld held limit (moved location) = ⊥
FitsWorld held limit (large body) = (got_of held limit ≡ TooLarge) × Begins held body
FitsWorld held limit (faulty body) = Begins held body

-- the place of a URL: http://, an authority, and the target from the first slash on
pub record IsPlaceOf (url : Bytes) (place : Place) : Type 0 where
  pub spelled : url ≡ codes "http://" ++ (place.authority ++ place.target)
  pub authority : is_authority place.authority ≡ true
  pub target : is_target place.target ≡ true

-- the pages say what the world holds
abbrev pub PagesAgree : List Page → Rows → Type 0
PagesAgree pages w =
    (address path : Bytes) (limit : ℕ) (place : Place) (says : Says) → IsFilePath path
    → IsPlaceOf (url_at address path) place
    → Visits pages limit 5 place says → FitsWorld (at w (url_at address path)) limit says

-- Where a request goes, and where a Location leads (RFC 9110 section 10.2.2).
use Rattle.std.specs.Prelude.{ℕ, ◌≡◌, ◌⊎◌, Bool, false, not, ◌&&◌, ◌==◌, [], ◌∷◌, ◌++◌, Option, Some, None, if◌then◌else◌, codes, bytes_eq, nat_le}
use Rattle.std.specs.List.{list_all, list_any}
use Rattle.http_uri.specs.declared.uri.Uri.{Uri}
use Rattle.http_uri.specs.Uri.{Spells, SpellsNone, uri_scheme, uri_authority, uri_path, uri_query}
use Rattle.http_wire.specs.Fields.{Bytes}
use Rattle.http_visits.specs.declared.places.Place.{Place}

-- a path, and a query behind a question mark
abbrev pub target_with : Bytes → Option Bytes → Bytes
target_with path None = path
target_with path (Some query) = path ++ 63 ∷ query

-- the target of a URI, whose empty path reads as a slash; a fragment isn't part of it
abbrev pub target_of : Uri → Bytes
target_of uri = target_with (uri_path uri) (uri_query uri)

-- begins with one slash and not two
abbrev pub is_rooted : Bytes → Bool
is_rooted [] = false
is_rooted (a ∷ []) = a == 47
is_rooted (a ∷ b ∷ more) = a == 47 && not (b == 47)

-- has an at sign
abbrev pub has_user : Bytes → Bool
has_user authority = list_any (λ b. b == 64) authority

-- neither a space nor a control character
abbrev pub is_sendable : ℕ → Bool
is_sendable b = nat_le 33 b && not (b == 127)

-- a request can carry the place: no space and no control character, so no end of a line
abbrev pub can_be_sent : Place → Bool
can_be_sent place = list_all is_sendable place.authority && list_all is_sendable place.target

abbrev pub is_http : Option Bytes → Bool
is_http None = false
is_http (Some scheme) = bytes_eq scheme (codes "http")

-- the authority that a URI leads to: its own, where its scheme is http and it names no user; or the one before, where the
-- text is a path
abbrev pub authority_by : Bytes → Bytes → Bool → Option Bytes → Option Bytes
authority_by own location http None = if is_rooted location then Some own else None
authority_by own location http (Some authority) = if http && not (has_user authority) then Some authority else None

abbrev pub sent_to : Place → Option Place
sent_to place = if can_be_sent place then Some place else None

abbrev pub place_with : Bytes → Option Bytes → Option Place
place_with target None = None
place_with target (Some authority) = sent_to (record { authority = authority; target = target })

-- the place that a URI leads to
abbrev pub leads_by : Place → Bytes → Uri → Option Place
leads_by place location uri = place_with (target_of uri) (authority_by place.authority location (is_http
    (uri_scheme uri)) (uri_authority uri))

-- where a Location leads: nowhere, if it spells no URI
abbrev pub IsNextPlace : Place → Bytes → Option Place → Type 0
IsNextPlace place location next =
    ((uri : Uri) × Spells location uri × (next ≡ leads_by place location uri))
    ⊎ (SpellsNone location × (next ≡ None))

use Rattle.std.proofs.Common.{inl, subst}
use Rattle.http_uri.specs.Uri.{Spells}
use Rattle.http_visits.proofs.places.next_place.Goals as goal

pub returns-in_ok-next-in-Ok : goal.returns-in_ok-next-in-Ok
returns-in_ok-next-in-Ok c = inl (
  c.in-Ok.uri,
  subst
      (λ text. Spells text c.in-Ok.uri) c.as_bytes.ensures.value c.in-Ok.ensures.ok,
  c.in_ok-next-in-Ok.ensures,
)

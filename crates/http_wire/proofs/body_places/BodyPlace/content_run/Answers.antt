use Rattle.std.proofs.Common.{refl, subst}
use Rattle.http_wire.specs.BodyPlaces.{InRange}
use Rattle.http_wire.proofs.body_places.BodyPlace.content_run.Goals as goal

pub returns-in-ContentLeft-clause-some : goal.returns-in-ContentLeft-clause-some
returns-in-ContentLeft-clause-some c = (subst InRange c.in-ContentLeft.is c.requires, rw c.in-ContentLeft.is refl)

pub returns-in-ChunkData-clause-some : goal.returns-in-ChunkData-clause-some
returns-in-ChunkData-clause-some c = (subst InRange c.in-ChunkData.is c.requires, rw c.in-ChunkData.is refl)

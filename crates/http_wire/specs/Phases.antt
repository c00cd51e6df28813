-- What is known of every phase of a reader.
use Rattle.http_wire.specs.declared.reply_reader.Phase.{Phase}
use Rattle.http_wire.specs.declared.reply_reader.Phase.TheVariants.{InHead, InBody}
use Rattle.http_wire.specs.declared.body_places.BodyPlace.{BodyPlace}
use Rattle.http_wire.specs.declared.body_places.BodyPlace.TheVariants.{UntilClose, ContentLeft, ChunkData, ChunkSize, ChunkSpace, ChunkExtension, ChunkLineFeed, DataReturn, DataLineFeed, Trailer, Whole, Refused}
use Rattle.http_wire.specs.BodyPlaces.{InRange}
use Rattle.std.proofs.Props.{props}

abbrev pub PhaseInRange : Phase → Type 0
PhaseInRange (InHead line) = Unit {0}
PhaseInRange (InBody body) = InRange body.place

pub in_range_prop : (place : BodyPlace) → IsProp (InRange place)
in_range_prop UntilClose = Prim.hlevel props
in_range_prop (ContentLeft n) = Prim.hlevel props
in_range_prop (ChunkData n) = Prim.hlevel props
in_range_prop (ChunkSize digits size) = Prim.hlevel props
in_range_prop (ChunkSpace size n) = Prim.hlevel props
in_range_prop (ChunkExtension size n) = Prim.hlevel props
in_range_prop (ChunkLineFeed size) = Prim.hlevel props
in_range_prop DataReturn = Prim.hlevel props
in_range_prop DataLineFeed = Prim.hlevel props
in_range_prop (Trailer line n) = Prim.hlevel props
in_range_prop Whole = Prim.hlevel props
in_range_prop (Refused e) = Prim.hlevel props

pub phase_in_range_prop : (phase : Phase) → IsProp (PhaseInRange phase)
phase_in_range_prop (InHead line) = Prim.hlevel props
phase_in_range_prop (InBody body) = in_range_prop body.place

-- What the bytes of a body are: content, as far as the limit has room, or framing.
use Rattle.std.specs.Prelude.{ℕ, ◌-◌, ◌&&◌, List, [], ◌∷◌, ◌++◌, if◌then◌else◌, ◌==◌, nat_lt}
use Rattle.http_wire.specs.declared.body_states.BodyState.{BodyState}
use Rattle.http_wire.specs.declared.body_places.BodyPlace.{BodyPlace}
use Rattle.http_wire.specs.declared.body_places.BodyPlace.TheVariants.{Refused}
use Rattle.http_wire.specs.declared.replies.ReplyErr.TheVariants.{BodyTooLong}
use Rattle.http_wire.specs.BodyPlaces.{is_content, after_content, after_framing}

-- behind a byte of content, where the limit has this room
abbrev pub after_content_byte : BodyPlace → ℕ → BodyState
after_content_byte place room =
    if room == 0 then record { place = Refused BodyTooLong; room = 0 } else record {
      place = after_content place 1;
      room = room - 1;
    }

-- behind a byte
abbrev pub after_byte : BodyState → ℕ → BodyState
after_byte body b =
    if is_content body.place then after_content_byte body.place body.room else record {
      place = after_framing
          body.place b;
      room = body.room;
    }

-- the byte, where it is content for which there is room
abbrev pub content_byte : BodyState → ℕ → List ℕ
content_byte body b = if is_content body.place && nat_lt 0 body.room then b ∷ [] else []

-- behind these bytes
abbrev pub after_bytes : BodyState → List ℕ → BodyState
after_bytes body [] = body
after_bytes body (b ∷ bytes) = after_bytes (after_byte body b) bytes

-- the content among these bytes
abbrev pub content_of : BodyState → List ℕ → List ℕ
content_of body [] = []
content_of body (b ∷ bytes) = content_byte body b ++ content_of (after_byte body b) bytes

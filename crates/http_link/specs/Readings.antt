-- What is known of an open file, whatever its wire tells.
use Rattle.std.specs.Prelude.{ℕ, ◌≡◌, ◌≤◌, Option, Some, None, length, Result, Ok, Err}
use Rattle.http_wire.specs.declared.reply_reader.ReplyReader.{ReplyReader}
use Rattle.http_wire.specs.declared.replies.ReplyErr.{ReplyErr}
use Rattle.http_wire.specs.declared.replies.ReplyErr.TheVariants.{BodyTooLong}
use Rattle.http_wire.specs.Fields.{Bytes}
use Rattle.http_wire.specs.Outcomes.{Outcome}
use Rattle.http_wire.specs.Readers.{HasRead}
use Rattle.std.proofs.Props.{props}

-- a reader has read bytes with so much content
pub record HasContent (reader : ReplyReader) (limit count : ℕ) : Type 0 where
  pub bytes : Bytes
  pub outcome : Outcome
  pub read : HasRead reader limit bytes outcome
  pub as_long : length outcome.content ≡ count

-- where the reply was cut at the limit, as much content as the limit has come
abbrev pub IsFullEnd : Option (Result (Unit {0}) ReplyErr) → ℕ → ℕ → Type 0
IsFullEnd None count limit = Unit {0}
IsFullEnd (Some (Ok u)) count limit = Unit {0}
IsFullEnd (Some (Err e)) count limit = e ≡ BodyTooLong → count ≡ limit

-- where more may come, the reader has read so much content; as a denial of its denial, which is one fact
abbrev pub IsReadTo : Option (Result (Unit {0}) ReplyErr) → ReplyReader → ℕ → ℕ → Type 0
IsReadTo None reader limit count = ¬ ¬ (HasContent reader limit count)
IsReadTo (Some ended) reader limit count = Unit {0}

pub full_end_prop : (ended : Option (Result (Unit {0}) ReplyErr)) (count limit : ℕ)
    → IsProp (IsFullEnd ended count limit)
full_end_prop None count limit = Prim.hlevel props
full_end_prop (Some (Ok u)) count limit = Prim.hlevel props
full_end_prop (Some (Err e)) count limit = Prim.hlevel props

pub read_to_prop : (ended : Option (Result (Unit {0}) ReplyErr)) (reader : ReplyReader) (limit count : ℕ)
    → IsProp (IsReadTo ended reader limit count)
read_to_prop None reader limit count = Prim.hlevel props
read_to_prop (Some ended) reader limit count = Prim.hlevel props

-- so much content came of a reply, of which so many bytes wait
pub record IsKnown (ended : Option (Result (Unit {0}) ReplyErr)) (reader : ReplyReader)
    (limit count waiting : ℕ) : Type 0 where
  pub within : count ≤ limit
  pub few : waiting ≤ 65536
  pub full : IsFullEnd ended count limit
  pub read : IsReadTo ended reader limit count

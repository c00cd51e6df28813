-- The fields of a head, one after another.
use Rattle.std.proofs.Common.{◌≡◌, Bool, true, false, List, ◌++◌, refl}
use Rattle.http_wire.specs.declared.fields.LengthSaid.{LengthSaid}
use Rattle.http_wire.specs.declared.fields.TransferCoding.{TransferCoding}
use Rattle.http_wire.specs.Fields.{Bytes, value_if}
use Rattle.http_wire.specs.ContentLengths.{length_if, lengths_from}
use Rattle.http_wire.specs.Codings.{coding_if, codings_from}

pub length_first : (has_name : Bool) (said : LengthSaid) (value : Bytes) (more : List Bytes)
    → lengths_from said (value_if has_name value ++ more) ≡ lengths_from (length_if has_name said value) more
length_first true said value more = refl
length_first false said value more = refl

pub coding_first : (has_name : Bool) (sofar : TransferCoding) (value : Bytes) (more : List Bytes)
    → codings_from sofar (value_if has_name value ++ more) ≡ codings_from (coding_if has_name sofar value) more
coding_first true sofar value more = refl
coding_first false sofar value more = refl

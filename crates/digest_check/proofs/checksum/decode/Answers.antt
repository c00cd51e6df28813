use Rattle.std.proofs.lemmas.List.{length-replicate}
use Rattle.digest_check.proofs.Digits.{sized_read}
use Rattle.digest_check.proofs.checksum.decode.Goals as goal

pub returns : goal.returns
returns g c =
    let read = sized_read c.args.digits.now g.row.N c.requires.len c.requires.digits in
    let decoded = rw (length-replicate, read) at c.decode_to_slice.ensures.value in
    decoded.1

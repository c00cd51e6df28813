use Rattle.std.proofs.Common.{subst, sym}
use Rattle.std.proofs.lemmas.List.{length-replicate}
use Rattle.cache_layout.specs.Fields.{IsDigestText}
use Rattle.cache_layout.proofs.HexDigests.{digest_read, digest_stops}
use Rattle.cache_layout.proofs.digests.read_digest.Goals as goal

pub returns-in-Some-clause-refused : goal.returns-in-Some-clause-refused
returns-in-Some-clause-refused g c = digest_stops g.row.N c.args.text.now c.in-Some.place c.in-Some.ensures

pub returns-clause-read : goal.returns-clause-read
returns-clause-read g c =
    let read = digest_read g.row.N c.args.text.now c.in_default.ensures in
    let decoded = rw (length-replicate, read.decoded) at c.decode_to_slice.ensures.value in
    subst (IsDigestText g.row.N c.args.text.now) (sym decoded.1) read.is

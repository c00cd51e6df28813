use Rattle.std.proofs.Common.{arith}
use Rattle.file_fetch.proofs.Urls.{bytes_joined}
use Rattle.file_fetch.proofs.names.urls_are_bytes.Goals as goal

pub returns : goal.returns
returns c =
    bytes_joined c.args.address.now c.args.path.now (λ i. let f = c.type_inv.address i in omega arith)
    (λ i. let f = c.type_inv.path i in omega arith)

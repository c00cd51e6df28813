use Rattle.std.proofs.Common.{◌≡◌, length, subst, arith}
use Rattle.std.specs.Prelude.{IfOk}
use Rattle.cache_layout.specs.Fields.{IsDigestText}
use Rattle.cache_layout.proofs.digests.digest_text.Goals as goal

pub returns : goal.returns
returns g c =
    let size : length c.args.digest.now ≡ g.row.N = omega arith in
    subst (λ n. IfOk c.bytes_text.result (λ text. IsDigestText n text c.args.digest.now)) size c.bytes_text.ensures

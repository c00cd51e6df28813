use Rattle.std.proofs.Common.{refl, arith, ◌∙◌}
use Rattle.hex.specs.Hex.{IsBytes}
use Rattle.cache_layout.proofs.digests.bytes_text.Goals as goal

pub returns : goal.returns
returns c =
    let are : IsBytes c.args.bytes.now = λ i. let f = c.type_inv.bytes i in omega arith in
    record { whole = c.from_string.ensures ∙ c.in_ok-text.ensures; fits = (refl, are) }

use Rattle.std.proofs.Common.{length, inl, inr, arith}
use Rattle.std.proofs.lemmas.Bool.{cases_lt}
use Rattle.version_order.proofs.Bounds.{ends_bare, stops_bare}
use Rattle.version_order.proofs.shape.no_bound.Goals as goal

pub returns-then-from-start-clause-refused : goal.returns-then-from-start-clause-refused
returns-then-from-start-clause-refused c side here =
    elim (cases_lt c.args.start (length c.args.bytes.now)) [
      | inl inside ↦ stops_bare side c.args.bytes.now c.args.from c.args.start 0 0 here c.requires.blanks c.requires.blank c.if-from-start.true inside (c.requires.no_blank inside) (c.requires.other inside)
      | inr last ↦ ends_bare side c.args.bytes.now c.args.from c.args.start 0 0 here c.requires.blanks c.requires.blank (omega (arith, last, c.requires.within))
    ]

pub returns-then-start-bytes-clause-refused : goal.returns-then-start-bytes-clause-refused
returns-then-start-bytes-clause-refused c side here =
    ends_bare side c.args.bytes.now c.args.from c.args.start 0 0 here c.requires.blanks c.requires.blank c.if-start-bytes.true

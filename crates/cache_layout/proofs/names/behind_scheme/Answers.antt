use Rattle.std.proofs.Common.{sym, arith}
use Rattle.std.proofs.lemmas.List.{drop_all, take_rest}
use Rattle.cache_layout.proofs.names.behind_scheme.Goals as goal

pub returns-then-url-lt5 : goal.returns-then-url-lt5
returns-then-url-lt5 c = sym (drop_all 5 c.args.url.now (let h = c.if-url-lt5.true in omega (arith, h)))

pub returns : goal.returns
returns c = take_rest c.args.url.now 5

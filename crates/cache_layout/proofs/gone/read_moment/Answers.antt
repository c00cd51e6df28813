use Rattle.std.proofs.Common.{◌+◌, [], ◌∷◌, length, arith, sym, subst}
use Rattle.cache_layout.proofs.Literals.{literal}
use Rattle.fault_place.specs.Place.{IsPlace}
use Rattle.cache_layout.proofs.Tailed.{IsLineEnd, moment_is, moment_tail}
use Rattle.cache_layout.proofs.Tails.{in_field, in_rest, no_space}
use Rattle.cache_layout.proofs.Words.{not_so}
use Rattle.cache_layout.proofs.gone.read_moment.Goals as goal

pub returns-in_default-clause-refused : goal.returns-in_default-clause-refused
returns-in_default-clause-refused c = no_space moment_tail c.args.text.now (λ rest. c.in_default.ensures.none rest)

pub returns-in-Err-clause-refused : goal.returns-in-Err-clause-refused
returns-in-Err-clause-refused c =
    let cut = c.part-cut.result in
    in_field moment_tail c.args.text.now c.in-Some.after.now cut.first.now cut.rest.now c.in-Err.place
    (1 + c.in-Err.place) c.in-Some.ensures.rest c.part-cut.ensures.whole c.part-cut.ensures.before (omega arith)
    c.in-Err.ensures.refused

pub returns-then-is_word-clause-read : goal.returns-then-is_word-clause-read
returns-then-is_word-clause-read c =
    let cut = c.part-cut.result in
    moment_is c.args.text.now c.in-Some.after.now cut.first.now cut.rest.now c.in-Ok.moment c.in-Some.ensures.rest
    c.part-cut.ensures.whole c.in-Ok.ensures.read (c.is_word.ensures.0 c.if-is_word.true)

pub returns-clause-refused : goal.returns-clause-refused
returns-clause-refused c =
    let cut = c.part-cut.result in
    let never = not_so c.is_word.result c.is_word.ensures c.if-is_word.false in
    in_rest moment_tail c.args.text.now c.in-Some.after.now cut.first.now cut.rest.now c.common.result _
    c.in-Some.ensures.rest c.part-cut.ensures.whole c.part-cut.ensures.before (omega arith)
    (c.in-Ok.moment, c.in-Ok.ensures.read) (subst (λ n. IsPlace IsLineEnd cut.rest.now n) (sym c.common.ensures) (literal (10 ∷ []) cut.rest.now never))

use Rattle.std.proofs.Common.{Some, None, ap, sym, ◌∙◌, lit<, rules}
use Rattle.std.proofs.lemmas.Str.Pattern.{strip_suffix_char}
use Rattle.word_values.specs.Addresses.{without_slashes}
use Rattle.word_values.proofs.Slashes.{one_more, none_more}
use Rattle.word_values.proofs.addresses.without_slashes.Goals as goal

pub loop-front-preserved : goal.loop-front-preserved
loop-front-preserved c =
    let cut = strip_suffix_char 47 c.loop-front.shorter.now (Some c.in-Some.front) c.in-Some.ensures.cases (lit< tt) in
    record {
      utf8 = search rules;
      same = sym (one_more c.in-Some.front.now) ∙ ap without_slashes (sym cut) ∙ c.loop-front.invariant.same;
    }

pub returns : goal.returns
returns c =
    let whole = none_more c.loop-front.shorter.now (strip_suffix_char 47 c.loop-front.shorter.now None c.in_default.ensures.cases (lit< tt)) in
    sym whole ∙ c.loop-front.invariant.same

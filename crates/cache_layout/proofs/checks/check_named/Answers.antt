use Rattle.cache_layout.proofs.CheckLists.{no_check}
use Rattle.cache_layout.proofs.Words.{not_so}
use Rattle.cache_layout.proofs.checks.check_named.Goals as goal

pub returns : goal.returns
returns c = no_check c.args.name.now (not_so c.is_word.result c.is_word.ensures c.if-is_word.false)
    (not_so c.is_word-2.result c.is_word-2.ensures c.if-is_word-2.false)
    (not_so c.is_word-3.result c.is_word-3.ensures c.if-is_word-3.false)
    (not_so c.is_word-4.result c.is_word-4.ensures c.if-is_word-4.false)

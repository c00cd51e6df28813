use Rattle.std.proofs.Common.{◌≡◌, Global, IfOk, string_bytes, subst}
use Rattle.case_words.proofs.Joins.{join_by-map}
use Rattle.case_words.proofs.words.joined.Goals as goal

pub returns : goal.returns
returns c =
    subst (λ bytes. IfOk c.join.result (λ line. string_bytes line ≡ bytes)) (join_by-map (string_bytes {Z = Global}) c.args.separator.now c.args.words.now) c.join.ensures.ok

use Rattle.std.proofs.Common.{sym, ◌∙◌, ap}
use Rattle.std.specs.Prelude.{not, ◌==◌}
use Rattle.std.proofs.lemmas.Bool.{false≢true}
use Rattle.pom_text.proofs.TagFacts.{open_room_of}
use Rattle.pom_text.proofs.tags.may_open.Goals as goal

pub returns-else-is_empty : goal.returns-else-is_empty
returns-else-is_empty c =
    ap (λ n. not (n == 64)) c.len.ensures
    ∙ sym (open_room_of c.args.stack.now.root c.args.stack.now.frames
    (λ f. false≢true (sym c.if-is_empty.false ∙ c.is_empty.ensures.1 f)))

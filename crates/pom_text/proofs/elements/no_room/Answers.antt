use Rattle.std.proofs.Common.{sym, ◌∙◌, ap}
use Rattle.std.proofs.lemmas.Bool.{false≢true}
use Rattle.pom_grammar.specs.Heads.{is_alive}
use Rattle.pom_text.proofs.TagFacts.{room_faults}
use Rattle.pom_text.proofs.elements.no_room.Goals as goal

pub returns-in-Some : goal.returns-in-Some
returns-in-Some c =
    room_faults c.args.encoding c.args.bytes.now c.args.stack.now.root c.args.stack.now.frames c.args.at
    (λ f. false≢true
    (sym c.if-is_empty.false ∙ c.is_empty.ensures.1 f)) c.requires.within c.requires.is_start c.requires.full
    (ap is_alive (sym c.in-Some.ensures))

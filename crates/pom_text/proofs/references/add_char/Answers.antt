use Rattle.std.proofs.Common.{◌≡◌, sym, ◌∙◌, subst}
use Rattle.std.specs.Prelude.{OnOk}
use Rattle.std.proofs.lemmas.Bool.{false≢true}
use Rattle.pom_text.proofs.TextFacts.{join_char}
use Rattle.pom_text.proofs.references.add_char.Goals as goal
use Rattle.pom_text.proofs.references.add_char.Goals.{else-is_empty-via-then-is_empty+else-is_white_char, else-is_empty-via-else-is_empty}

pub returns : goal.returns
returns c =
    let joined = join_char c.args.text.now c.args.char
    (λ f. elim c.else-is_empty.branch [
      | else-is_empty-via-then-is_empty+else-is_white_char w ↦ sym w.is_white_char.ensures ∙ w.if-is_white_char.false
      | else-is_empty-via-else-is_empty w ↦ absurd (false≢true (sym w.if-is_empty.false ∙ c.is_empty.ensures.1 f))
    ]) in
    subst (λ x. OnOk c.push_char.result (c.push_char.new.text ≡ x)) (sym joined) c.push_char.ensures

use Rattle.pom_text.proofs.DeclaredFacts.{declares_no}
use Rattle.std.proofs.Common.{sym, ◌∙◌}
use Rattle.pom_text.proofs.declaration.is_declared.Goals as goal

pub returns-clause-no : goal.returns-clause-no
returns-clause-no c =
    λ f. declares_no c.args.bytes.now c.args.at (sym c.stands.ensures ∙ c.if-not-stands.false)
    (c.space_at.ensures.other f)

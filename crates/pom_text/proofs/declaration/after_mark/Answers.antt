use Rattle.std.proofs.Common.{◌∙◌, drop}
use Rattle.std.proofs.lemmas.Result.{IfOk-weaker, IfErr-weaker}
use Rattle.pom_text.proofs.DeclaredFacts.{after_declared, after_undeclared}
use Rattle.pom_text.proofs.declaration.after_mark.Goals as goal

pub returns-then-is_declared-clause-ok : goal.returns-then-is_declared-clause-ok
returns-then-is_declared-clause-ok c =
    let begins = c.is_declared.ensures.yes c.if-is_declared.true in
    let on = after_declared c.args.bytes.now c.args.at begins
    (c.declarations_begin.ensures (drop c.args.at c.args.bytes.now) begins) in
    IfOk-weaker c.declared.result _ _ (λ head is. on.1 ∙ is on.0) c.declared.ensures.ok

pub returns-then-is_declared-clause-err : goal.returns-then-is_declared-clause-err
returns-then-is_declared-clause-err c =
    let begins = c.is_declared.ensures.yes c.if-is_declared.true in
    let on = after_declared c.args.bytes.now c.args.at begins
    (c.declarations_begin.ensures (drop c.args.at c.args.bytes.now) begins) in
    IfErr-weaker c.declared.result _ _ (λ fault is. on.1 ∙ is on.0) c.declared.ensures.err

pub returns-else-is_declared-clause-ok : goal.returns-else-is_declared-clause-ok
returns-else-is_declared-clause-ok c =
    after_undeclared c.args.bytes.now c.args.at (c.is_declared.ensures.no c.if-is_declared.false)

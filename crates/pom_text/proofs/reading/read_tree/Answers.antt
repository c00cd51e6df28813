use Rattle.std.proofs.Common.{◌≡◌, ℕ, List, Result, Ok, Err, IfOk, IfErr, ◌⊎◌, inl, inr, sym, subst}
use Rattle.pom_grammar.specs.declared.tree.Tree.{Tree}
use Rattle.pom_grammar.specs.declared.tree.TextErr.{TextErr}
use Rattle.pom_grammar.specs.declared.tree.TextErr.TheVariants.{NoMemory}
use Rattle.pom_grammar.specs.Faults.{Says}
use Rattle.pom_grammar.specs.Verdicts.{whole_verdict}
use Rattle.pom_text.proofs.reading.read_tree.Goals as goal

-- an answer that is the verdict, or that memory ran out, says what is so
says : (bytes : List ℕ) (answer : Result Tree TextErr) → Says bytes (whole_verdict bytes)
    → IfOk answer (λ tree. whole_verdict bytes ≡ Ok tree)
    → IfErr answer (λ fault. (fault ≡ NoMemory) ⊎ (whole_verdict bytes ≡ Err fault)) → Says bytes answer
says bytes (Ok tree) so is _ = subst (Says bytes) is so
says bytes (Err fault) so _ (inl f) = subst (λ fault. Says bytes (Err fault)) (sym f) tt
says bytes (Err fault) so _ (inr f) = subst (Says bytes) f so

pub returns-clause-says : goal.returns-clause-says
returns-clause-says c =
    says c.args.bytes.now c.read.result
    (c.verdict_says.ensures.says c.args.bytes.now) c.read.ensures.ok c.read.ensures.err

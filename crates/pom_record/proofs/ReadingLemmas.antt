-- What is answered for a document's tree is what is to be answered for its bytes.
use Rattle.std.proofs.Common.{◌≡◌, ◌≢◌, ℕ, Bool, true, false, List, Option, Some, None, Result, Ok, Err, IfOk, IfErr, ◌⊎◌, inl, inr, refl, sym, ap, ◌∙◌, subst}
use Rattle.std.specs.Prelude.{codes}
use Rattle.res_base.specs.declared.pom.PomRecord.{PomRecord}
use Rattle.res_base.specs.declared.reading.Field.{Field}
use Rattle.pom_grammar.specs.declared.tree.Tree.{Tree, out-Tree}
use Rattle.pom_grammar.specs.declared.tree.TextErr.{TextErr}
use Rattle.pom_grammar.specs.declared.tree.TextErr.TheVariants.{BadText as bad_text, Doctype as doctype, TooDeep as too_deep, UnknownEncoding as unknown_encoding, NoMemory as no_memory}
use Rattle.pom_grammar.specs.Heads.{IsDocument}
use Rattle.pom_grammar.specs.Faults.{Says}
use Rattle.pom_grammar.specs.Verdicts.{whole_verdict}
use Rattle.pom_record.specs.declared.pom_err.PomErr.{PomErr}
use Rattle.pom_record.specs.declared.pom_err.PomErr.TheVariants.{BadText, Doctype, TooDeep, UnknownEncoding, NotProject, NoCoordinates, NoMemory}
use Rattle.pom_record.specs.Projects.{pom_of, unless_absent, if_project, IsPom}
use Rattle.pom_record.specs.Refusals.{of_text, IsRefusal}
use Rattle.pom_record.specs.Readings.{of_verdict, read_pom, IsAnswered}
use Rattle.pom_record.specs.Fields.{is_named}
use Rattle.pom_record.specs.Record.{record_in, absent}

-- no fault of a text is due to a tree
abbrev IsOfTree : Result PomRecord PomErr → Type 0
IsOfTree (Ok pom) = Unit {0}
IsOfTree (Err (BadText place)) = ⊥
IsOfTree (Err (Doctype place)) = ⊥
IsOfTree (Err (TooDeep place)) = ⊥
IsOfTree (Err (UnknownEncoding place)) = ⊥
IsOfTree (Err NotProject) = Unit {0}
IsOfTree (Err (NoCoordinates coordinate)) = Unit {0}
IsOfTree (Err NoMemory) = ⊥

of_absent : (coordinate : Option Field) (pom : PomRecord) → IsOfTree (unless_absent coordinate pom)
of_absent None pom = tt
of_absent (Some coordinate) pom = tt

of_root : (root : Bool) (pom : PomRecord) → IsOfTree (if_project root pom)
of_root true pom = of_absent (absent pom) pom
of_root false pom = tt

of_tree : (tree : Tree) → IsOfTree (pom_of tree)
of_tree tree = of_root (is_named (codes "project") tree) (record_in (out-Tree tree).children)

pub told : (bytes : List ℕ) (tree : Tree) (answer : Result PomRecord PomErr) → IsDocument bytes tree
    → IsAnswered (pom_of tree) answer → IfErr answer (IsRefusal bytes)
told bytes tree (Ok pom) is due = tt
told bytes tree (Err (BadText place)) is due = absurd (subst IsOfTree due (of_tree tree))
told bytes tree (Err (Doctype place)) is due = absurd (subst IsOfTree due (of_tree tree))
told bytes tree (Err (TooDeep place)) is due = absurd (subst IsOfTree due (of_tree tree))
told bytes tree (Err (UnknownEncoding place)) is due = absurd (subst IsOfTree due (of_tree tree))
told bytes tree (Err NotProject) is due = record { tree = tree; is_document = is; is_answer = due }
told bytes tree (Err (NoCoordinates coordinate)) is due = record { tree = tree; is_document = is; is_answer = due }
told bytes tree (Err NoMemory) is due = tt

-- an answer for the tree of bytes is one for the bytes
pub tree_answered : (bytes : List ℕ) (tree : Tree) (answer : Result PomRecord PomErr)
    → whole_verdict bytes ≡ Ok tree → IsAnswered (pom_of tree) answer → IsAnswered (read_pom bytes) answer
tree_answered bytes tree answer is due = subst (λ v. IsAnswered (of_verdict v) answer) (sym is) due

-- what is due is an answer
answered_self : (answer : Result PomRecord PomErr) → IsAnswered answer answer
answered_self (Ok pom) = refl
answered_self (Err (BadText place)) = refl
answered_self (Err (Doctype place)) = refl
answered_self (Err (TooDeep place)) = refl
answered_self (Err (UnknownEncoding place)) = refl
answered_self (Err NotProject) = refl
answered_self (Err (NoCoordinates coordinate)) = refl
answered_self (Err NoMemory) = tt

spelled : (bytes : List ℕ) (tree : Tree) (answer : Result PomRecord PomErr) → IsDocument bytes tree
    → pom_of tree ≡ answer → IfOk answer (IsPom bytes)
spelled bytes tree (Ok pom) is due = record { tree = tree; is_document = is; is_answer = due }
spelled bytes tree (Err fault) is due = tt

text_refused : (bytes : List ℕ) (fault : TextErr) → Says bytes (Err fault) → IsRefusal bytes (of_text fault)
text_refused bytes (bad_text place) is = is
text_refused bytes (doctype place) is = is
text_refused bytes (too_deep place) is = is
text_refused bytes (unknown_encoding place) is = is
text_refused bytes no_memory is = tt

pub verdict_read : (bytes : List ℕ) (verdict : Result Tree TextErr) → Says bytes verdict
    → IfOk (of_verdict verdict) (IsPom bytes)
verdict_read bytes (Ok tree) is = spelled bytes tree (pom_of tree) is refl
verdict_read bytes (Err fault) is = tt

pub verdict_refused : (bytes : List ℕ) (verdict : Result Tree TextErr) → Says bytes verdict
    → IfErr (of_verdict verdict) (IsRefusal bytes)
verdict_refused bytes (Ok tree) is = told bytes tree (pom_of tree) is (answered_self (pom_of tree))
verdict_refused bytes (Err fault) is = text_refused bytes fault is

pub never_short : (verdict : Result Tree TextErr) → verdict ≢ Err no_memory → of_verdict verdict ≢ Err NoMemory
never_short (Ok tree) some f = subst IsOfTree f (of_tree tree)
never_short (Err (bad_text place)) some f = let no : ⊥ = cc in no
never_short (Err (doctype place)) some f = let no : ⊥ = cc in no
never_short (Err (too_deep place)) some f = let no : ⊥ = cc in no
never_short (Err (unknown_encoding place)) some f = let no : ⊥ = cc in no
never_short (Err no_memory) some f = some refl

pub only_pom : (bytes : List ℕ) (pom : PomRecord)
    → ((answer : Result Tree TextErr) → Says bytes answer → (answer ≡ Err no_memory) ⊎ (whole_verdict bytes ≡ answer))
    → IsPom bytes pom → read_pom bytes ≡ Ok pom
only_pom bytes pom only is = go (only (Ok is.tree) is.is_document)
  where
    go : (◌≡◌ {A = Result Tree TextErr} (Ok is.tree) (Err no_memory)) ⊎ (whole_verdict bytes ≡ Ok is.tree)
        → read_pom bytes ≡ Ok pom
    go (inl f) = let no : ⊥ = cc in absurd no
    go (inr f) = ap of_verdict f ∙ is.is_answer

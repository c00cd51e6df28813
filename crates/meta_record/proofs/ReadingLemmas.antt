-- What is answered for a document's tree is what is to be answered for its bytes.
use Rattle.std.proofs.Common.{◌≡◌, ◌≢◌, ℕ, Bool, true, false, List, Result, Ok, Err, IfOk, IfErr, ◌⊎◌, inl, inr, refl, sym, ap, ◌∙◌, subst}
use Rattle.std.specs.Prelude.{codes}
use Rattle.pom_grammar.specs.declared.tree.Tree.{Tree, out-Tree}
use Rattle.pom_grammar.specs.declared.tree.TextErr.{TextErr}
use Rattle.pom_grammar.specs.declared.tree.TextErr.TheVariants.{BadText as bad_text, Doctype as doctype, TooDeep as too_deep, UnknownEncoding as unknown_encoding, NoMemory as no_memory}
use Rattle.pom_grammar.specs.Heads.{IsDocument}
use Rattle.pom_grammar.specs.Faults.{Says}
use Rattle.pom_grammar.specs.Verdicts.{whole_verdict}
use Rattle.meta_record.specs.declared.listing_err.ListingErr.{ListingErr}
use Rattle.meta_record.specs.declared.listing_err.ListingErr.TheVariants.{BadText, Doctype, TooDeep, UnknownEncoding, NotMetadata, NoMemory}
use Rattle.meta_record.specs.Listings.{listing_of, if_metadata, IsListing}
use Rattle.meta_record.specs.Refusals.{of_text, IsRefusal}
use Rattle.meta_record.specs.Readings.{of_verdict, read_listing, IsAnswered}
use Rattle.meta_record.specs.Versions.{is_named, versions_in}

-- no fault of a text is due to a tree
abbrev IsOfTree : Result (List (List ℕ)) ListingErr → Type 0
IsOfTree (Ok versions) = Unit {0}
IsOfTree (Err (BadText place)) = ⊥
IsOfTree (Err (Doctype place)) = ⊥
IsOfTree (Err (TooDeep place)) = ⊥
IsOfTree (Err (UnknownEncoding place)) = ⊥
IsOfTree (Err NotMetadata) = Unit {0}
IsOfTree (Err NoMemory) = ⊥

of_root : (root : Bool) (versions : List (List ℕ)) → IsOfTree (if_metadata root versions)
of_root true versions = tt
of_root false versions = tt

of_tree : (tree : Tree) → IsOfTree (listing_of tree)
of_tree tree = of_root (is_named (codes "metadata") tree) (versions_in (out-Tree tree).children)

pub told : (bytes : List ℕ) (tree : Tree) (answer : Result (List (List ℕ)) ListingErr) → IsDocument bytes tree
    → IsAnswered (listing_of tree) answer → IfErr answer (IsRefusal bytes)
told bytes tree (Ok versions) is due = tt
told bytes tree (Err (BadText place)) is due = absurd (subst IsOfTree due (of_tree tree))
told bytes tree (Err (Doctype place)) is due = absurd (subst IsOfTree due (of_tree tree))
told bytes tree (Err (TooDeep place)) is due = absurd (subst IsOfTree due (of_tree tree))
told bytes tree (Err (UnknownEncoding place)) is due = absurd (subst IsOfTree due (of_tree tree))
told bytes tree (Err NotMetadata) is due = record { tree = tree; is_document = is; is_answer = due }
told bytes tree (Err NoMemory) is due = tt

-- an answer for the tree of bytes is one for the bytes
pub tree_answered : (bytes : List ℕ) (tree : Tree) (answer : Result (List (List ℕ)) ListingErr)
    → whole_verdict bytes ≡ Ok tree → IsAnswered (listing_of tree) answer → IsAnswered (read_listing bytes) answer
tree_answered bytes tree answer is due = subst (λ v. IsAnswered (of_verdict v) answer) (sym is) due

-- what is due is an answer
answered_self : (answer : Result (List (List ℕ)) ListingErr) → IsAnswered answer answer
answered_self (Ok versions) = refl
answered_self (Err (BadText place)) = refl
answered_self (Err (Doctype place)) = refl
answered_self (Err (TooDeep place)) = refl
answered_self (Err (UnknownEncoding place)) = refl
answered_self (Err NotMetadata) = refl
answered_self (Err NoMemory) = tt

listed : (bytes : List ℕ) (tree : Tree) (answer : Result (List (List ℕ)) ListingErr) → IsDocument bytes tree
    → listing_of tree ≡ answer → IfOk answer (IsListing bytes)
listed bytes tree (Ok versions) is due = record { tree = tree; is_document = is; is_answer = due }
listed bytes tree (Err fault) is due = tt

text_refused : (bytes : List ℕ) (fault : TextErr) → Says bytes (Err fault) → IsRefusal bytes (of_text fault)
text_refused bytes (bad_text place) is = is
text_refused bytes (doctype place) is = is
text_refused bytes (too_deep place) is = is
text_refused bytes (unknown_encoding place) is = is
text_refused bytes no_memory is = tt

pub verdict_listed : (bytes : List ℕ) (verdict : Result Tree TextErr) → Says bytes verdict
    → IfOk (of_verdict verdict) (IsListing bytes)
verdict_listed bytes (Ok tree) is = listed bytes tree (listing_of tree) is refl
verdict_listed bytes (Err fault) is = tt

pub verdict_refused : (bytes : List ℕ) (verdict : Result Tree TextErr) → Says bytes verdict
    → IfErr (of_verdict verdict) (IsRefusal bytes)
verdict_refused bytes (Ok tree) is = told bytes tree (listing_of tree) is (answered_self (listing_of tree))
verdict_refused bytes (Err fault) is = text_refused bytes fault is

pub never_short : (verdict : Result Tree TextErr) → verdict ≢ Err no_memory → of_verdict verdict ≢ Err NoMemory
never_short (Ok tree) some f = subst IsOfTree f (of_tree tree)
never_short (Err (bad_text place)) some f = let no : ⊥ = cc in no
never_short (Err (doctype place)) some f = let no : ⊥ = cc in no
never_short (Err (too_deep place)) some f = let no : ⊥ = cc in no
never_short (Err (unknown_encoding place)) some f = let no : ⊥ = cc in no
never_short (Err no_memory) some f = some refl

pub only_listing : (bytes : List ℕ) (versions : List (List ℕ))
    → ((answer : Result Tree TextErr) → Says bytes answer → (answer ≡ Err no_memory) ⊎ (whole_verdict bytes ≡ answer))
    → IsListing bytes versions → read_listing bytes ≡ Ok versions
only_listing bytes versions only is = go (only (Ok is.tree) is.is_document)
  where
    go : (◌≡◌ {A = Result Tree TextErr} (Ok is.tree) (Err no_memory)) ⊎ (whole_verdict bytes ≡ Ok is.tree)
        → read_listing bytes ≡ Ok versions
    go (inl f) = let no : ⊥ = cc in absurd no
    go (inr f) = ap of_verdict f ∙ is.is_answer

-- What a listing is: a document whose root is `metadata`.
use Rattle.std.specs.Prelude.{◌≡◌, ℕ, Bool, true, false, List, Result, Ok, Err, codes}
use Rattle.pom_grammar.specs.declared.tree.Tree.{Tree, out-Tree}
use Rattle.pom_grammar.specs.Heads.{IsDocument}
use Rattle.meta_record.specs.declared.listing_err.ListingErr.{ListingErr}
use Rattle.meta_record.specs.declared.listing_err.ListingErr.TheVariants.{NotMetadata}
use Rattle.meta_record.specs.Versions.{is_named, versions_in}

abbrev pub if_metadata : Bool → List (List ℕ) → Result (List (List ℕ)) ListingErr
if_metadata true versions = Ok versions
if_metadata false versions = Err NotMetadata

abbrev pub listing_of : Tree → Result (List (List ℕ)) ListingErr
listing_of tree = if_metadata (is_named (codes "metadata") tree) (versions_in (out-Tree tree).children)

-- the bytes are a document, of whose tree this is answered
pub record IsAnswerOf (bytes : List ℕ) (answer : Result (List (List ℕ)) ListingErr) : Type 0 where
  pub tree : Tree
  pub is_document : IsDocument bytes tree
  pub is_answer : listing_of tree ≡ answer

abbrev pub IsListing : List ℕ → List (List ℕ) → Type 0
IsListing bytes versions = IsAnswerOf bytes (Ok versions)

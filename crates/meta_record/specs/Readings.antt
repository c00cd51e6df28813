-- What is answered for bytes, as a function of them.
use Rattle.std.specs.Prelude.{◌≡◌, ℕ, List, Result, Ok, Err}
use Rattle.pom_grammar.specs.declared.tree.Tree.{Tree}
use Rattle.pom_grammar.specs.declared.tree.TextErr.{TextErr}
use Rattle.pom_grammar.specs.Verdicts.{whole_verdict}
use Rattle.meta_record.specs.declared.listing_err.ListingErr.{ListingErr}
use Rattle.meta_record.specs.declared.listing_err.ListingErr.TheVariants.{BadText, Doctype, TooDeep, UnknownEncoding, NotMetadata, NoMemory}
use Rattle.meta_record.specs.Listings.{listing_of}
use Rattle.meta_record.specs.Refusals.{of_text}

abbrev pub of_verdict : Result Tree TextErr → Result (List (List ℕ)) ListingErr
of_verdict (Ok tree) = listing_of tree
of_verdict (Err fault) = Err (of_text fault)

-- the versions that the bytes list, or why they are no listing
abbrev pub read_listing : List ℕ → Result (List (List ℕ)) ListingErr
read_listing bytes = of_verdict (whole_verdict bytes)

-- an answer is the one that is due, or memory ran out
abbrev pub IsAnswered : Result (List (List ℕ)) ListingErr → Result (List (List ℕ)) ListingErr → Type 0
IsAnswered due (Ok versions) = due ≡ Ok versions
IsAnswered due (Err (BadText place)) = due ≡ Err (BadText place)
IsAnswered due (Err (Doctype place)) = due ≡ Err (Doctype place)
IsAnswered due (Err (TooDeep place)) = due ≡ Err (TooDeep place)
IsAnswered due (Err (UnknownEncoding place)) = due ≡ Err (UnknownEncoding place)
IsAnswered due (Err NotMetadata) = due ≡ Err NotMetadata
IsAnswered due (Err NoMemory) = Unit {0}

-- The bytes of an artifact that came so far.
use Rattle.std.proofs.Common.{ℕ, ◌≡◌, ◌+◌, ◌++◌, ◌<◌, ◌≤◌, List, [], Option, Some, None, Ok, refl, sym, subst, ap, ◌∙◌, length, take, length-append, append-nil, arith}
use Rattle.std.specs.Prelude.{IsSome}
use Rattle.std.specs.Option.{ForSome}
use Rattle.std.proofs.Math.Seq.{take-length}
use Rattle.link_base.proofs.ByPieces.{begins_further}
use Rattle.link_base.specs.Links.{IsNext}
use Rattle.link_base.specs.Pieces.{BeginsFile}
use Rattle.link_base.specs.declared.links.Next.TheVariants.{Piece, End, TooLarge}
use Rattle.link_base.specs.declared.links.OpenFile.{OpenFile}
use Rattle.file_fetch.specs.Received.{HasReceived}

-- the part holds so many bytes, the first of the file
pub record HasBegun (content : Option (List ℕ)) (Holds : List ℕ → Type 0) (count : ℕ) : Type 0 where
  pub all : List ℕ
  pub holds : Holds all
  pub size : length all ≡ count
  pub begins : BeginsFile content all

none_begun : (content : Option (List ℕ)) → BeginsFile content []
none_begun None = tt
none_begun (Some all) = refl

pub begun_empty : (content : Option (List ℕ)) (Holds : List ℕ → Type 0) → Holds [] → HasBegun content Holds 0
begun_empty content Holds holds =
    record { all = []; holds = holds; size = refl; begins = none_begun content }

pub begun_further : (file : OpenFile) (content : Option (List ℕ)) (Old New : List ℕ → Type 0) (count : ℕ) (piece : List ℕ)
    → HasBegun content Old count → file.given ≡ count
    → ((all : List ℕ) → Old all → New (all ++ piece))
    → IsNext file content (Ok Piece) piece → HasBegun content New (count + length piece)
begun_further file content Old New count piece b given bytes next = record {
  all = b.all ++ piece;
  holds = bytes b.all b.holds;
  size = length-append b.all piece ∙ ap (λ n. n + length piece) b.size;
  begins = begins_further file content b.all piece b.begins (given ∙ sym b.size) next;
}

all_came : (b all : List ℕ) → b ≡ take (length b) all → length b ≡ length all → b ≡ all
all_came b all begins size = begins ∙ (ap (λ k. take k all) size ∙ take-length all)

-- at the end the part holds the file
pub came_whole : (file : OpenFile) (content : Option (List ℕ)) (Old New : List ℕ → Type 0) (count limit : ℕ) (piece : List ℕ)
    → HasBegun content Old count → file.given ≡ count → count ≤ limit
    → ((all : List ℕ) → Old all → New (all ++ piece)) → piece ≡ []
    → IsNext file content (Ok End) piece → HasReceived content limit New (Some count)
came_whole file None Old New count limit piece b given fits bytes none next = absurd next
came_whole file (Some all) Old New count limit piece b given fits bytes none next =
    let size : length b.all ≡ length all = b.size ∙ (sym given ∙ next) in
    let same : b.all ++ piece ≡ all = ap (λ p. b.all ++ p) none ∙ (append-nil b.all ∙ all_came b.all all b.begins size) in
    let count_is : count ≡ length all = sym given ∙ next in
    (subst New same (bytes b.all b.holds), count_is, omega (arith, fits, count_is))

-- past the limit it is too large
pub came_large : (file : OpenFile) (content : Option (List ℕ)) (New : List ℕ → Type 0) (limit : ℕ) (piece : List ℕ)
    → file.limit ≡ limit → IsNext file content (Ok TooLarge) piece → HasReceived content limit New None
came_large file None New limit piece is next = absurd next
came_large file (Some all) New limit piece is next = omega (arith, is, next)

-- what was received, as facts on the file
pub record CameWhole (content : Option (List ℕ)) (limit : ℕ) (Holds : List ℕ → Type 0) (count : ℕ) : Type 0 where
  pub bytes : List ℕ
  pub is : content ≡ Some bytes
  pub holds : Holds bytes
  pub size : count ≡ length bytes
  pub fits : length bytes ≤ limit

pub whole_of : (content : Option (List ℕ)) (limit : ℕ) (Holds : List ℕ → Type 0) (count : ℕ)
    → HasReceived content limit Holds (Some count) → CameWhole content limit Holds count
whole_of None limit Holds count h = absurd h
whole_of (Some all) limit Holds count h =
    record { bytes = all; is = refl; holds = h.0; size = h.1; fits = h.2 }

pub record CameLarge (content : Option (List ℕ)) (limit : ℕ) : Type 0 where
  pub bytes : List ℕ
  pub is : content ≡ Some bytes
  pub past : limit < length bytes

pub large_of : (content : Option (List ℕ)) (limit : ℕ) (Holds : List ℕ → Type 0)
    → HasReceived content limit Holds None → CameLarge content limit
large_of None limit Holds h = absurd h
large_of (Some all) limit Holds h = record { bytes = all; is = refl; past = h }

-- no more bytes came
pub none_more : (Holds : List ℕ → Type 0) (opened : Option OpenFile) (piece : List ℕ) → IsSome opened
    → ForSome opened (λ file. piece ≡ []) → (all : List ℕ) → Holds all → Holds (all ++ piece)
none_more Holds None piece is none all h = let no : ⊥ = cc in absurd no
none_more Holds (Some file) piece is none all h =
    subst Holds (sym (ap (λ (p : List ℕ). all ++ p) (none file refl) ∙ append-nil all)) h

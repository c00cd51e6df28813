-- The pieces of a file, one after another.
use Rattle.std.proofs.Common.{◌≡◌, ℕ, ◌<◌, ◌≤◌, List, ◌++◌, length, take, drop, Option, Some, None, Ok, refl, sym, ◌∙◌, ap, arith, length-append}
use Rattle.std.proofs.Math.Seq.{take-add, take-length}
use Rattle.std.proofs.lemmas.Bool.{le-leb, lt-leb}
use Rattle.link_base.specs.Links.{got_of, IsNext}
use Rattle.link_base.specs.Pieces.{BeginsFile}
use Rattle.link_base.specs.declared.links.OpenFile.{OpenFile}
use Rattle.link_base.specs.declared.links.Got.TheVariants.{Bytes, TooLarge}
use Rattle.link_base.specs.declared.links.Next.TheVariants.{Piece, End, TooLarge as PastLimit}

-- the open file at a URL of which these bytes were given
abbrev pub open_at : List ℕ → ℕ → List ℕ → OpenFile
open_at url limit bytes = record { url = url; limit = limit; given = length bytes }

-- at the end the bytes are the file
pub whole_at_end : (file : OpenFile) (content : Option (List ℕ)) (bytes piece : List ℕ) (limit : ℕ)
    → BeginsFile content bytes → file.given ≡ length bytes → length bytes ≤ limit → IsNext file content (Ok End) piece
    → Bytes bytes ≡ got_of content limit
whole_at_end file None bytes piece limit b g l n = absurd n
whole_at_end file (Some all) bytes piece limit b g l n =
    let as_long : length bytes ≡ length all = sym g ∙ n in
    let same : bytes ≡ all = b ∙ (ap (λ k. take k all) as_long ∙ take-length all) in
    let fits : length all ≤ limit = omega arith in
    rw (le-leb (length all) limit fits) (ap Bytes same)

-- a file whose pieces reach the limit before its end is too large
pub large_past_limit : (file : OpenFile) (content : Option (List ℕ)) (piece : List ℕ) (limit : ℕ)
    → file.limit ≡ limit → IsNext file content (Ok PastLimit) piece → TooLarge ≡ got_of content limit
large_past_limit file None piece limit l n = absurd n
large_past_limit file (Some all) piece limit l n =
    let past : limit < length all = omega (arith, l, n) in
    rw (lt-leb (length all) limit past) refl

-- one more piece is the next bytes
pub begins_further : (file : OpenFile) (content : Option (List ℕ)) (bytes piece : List ℕ)
    → BeginsFile content bytes → file.given ≡ length bytes → IsNext file content (Ok Piece) piece
    → BeginsFile content (bytes ++ piece)
begins_further file None bytes piece b g n = absurd n
begins_further file (Some all) bytes piece b g n =
    let rest : List ℕ = drop (length bytes) all in
    let next : piece ≡ take (length piece) rest = rw g at n in
    let both : bytes ++ piece ≡ take (length bytes) all ++ take (length piece) rest = rw (← b, ← next) refl in
    both ∙ (sym (take-add (length bytes) (length piece) all) ∙ ap (λ k. take k all) (sym (length-append bytes piece)))

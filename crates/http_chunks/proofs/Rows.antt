-- Worked rows of the grammar of chunks.
use Rattle.std.proofs.Common.{◌≡◌, inr, [], ◌∷◌, ◌++◌, refl, arith, codes}
use Rattle.http_wire.specs.Fields.{Bytes}
use Rattle.http_chunks.specs.Chunks.{IsChunkLine, IsChunks}
use Rattle.http_chunks.proofs.Laws.{chunks_run}
use Rattle.http_chunks.proofs.Tests.{tail_is}

abbrev ends : Bytes
ends = 13 ∷ 10 ∷ []

abbrev field : Bytes
field = codes "X: y"

-- a chunk of 11 bytes with white space and an extension, then the last one with a trailer
abbrev row : Bytes
row = codes "0B ;a=b" ++ ends ++ codes "hello world" ++ ends ++ codes "0" ++ ends ++ field ++ ends ++ ends

first_line : IsChunkLine (codes "0B ;a=b" ++ ends) 11
first_line =
    record {
      digits = codes "0B";
      some = omega arith;
      few = omega arith;
      hex = refl;
      value = refl;
      blanks = codes " ";
      blank = refl;
      extension = codes ";a=b";
      extends = (refl, refl);
      spelled = refl;
      within = omega arith;
    }

last_line : IsChunkLine (codes "0" ++ ends) 0
last_line =
    record {
      digits = codes "0";
      some = omega arith;
      few = omega arith;
      hex = refl;
      value = refl;
      blanks = [];
      blank = refl;
      extension = [];
      extends = tt;
      spelled = refl;
      within = omega arith;
    }

not_empty : field ++ (13 ∷ []) ≡ [] → ⊥
not_empty e = cc

not_return : field ++ (13 ∷ []) ≡ 13 ∷ [] → ⊥
not_return e = let rest : codes ": y" ++ (13 ∷ []) ≡ [] = tail_is e in cc

pub row_is_chunks : IsChunks row (codes "hello world")
row_is_chunks = (
  2,
  (
    codes "0B ;a=b" ++ ends,
    11,
    codes "hello world" ++ ends ++ codes "0" ++ ends ++ field ++ ends ++ ends,
    first_line,
    refl,
    (
      codes "hello world",
      codes "0" ++ ends ++ field ++ ends ++ ends,
      [],
      refl,
      refl,
      (
        codes "0" ++ ends,
        0,
        field ++ ends ++ ends,
        last_line,
        refl,
        (
          record {
            lines = (field ++ (13 ∷ [])) ∷ [];
            spelled = (ends, refl, record { one = refl; some = not_empty; full = not_return }, inr refl);
            within = omega arith;
          },
          refl,
        ),
      ),
      refl,
    ),
  ),
)

-- no last chunk
pub without_last : (content : Bytes) → IsChunks (codes "3" ++ ends ++ codes "abc" ++ ends) content → ⊥
without_last content c = let e = (chunks_run (codes "3" ++ ends ++ codes "abc" ++ ends) content c).0 in cc

-- a size without digits
pub without_digits : (content : Bytes) → IsChunks (ends ++ ends) content → ⊥
without_digits content c = let e = (chunks_run (ends ++ ends) content c).0 in cc

-- a line that ends without a carriage return
pub without_return : (content : Bytes) → IsChunks (codes "0" ++ (10 ∷ 10 ∷ [])) content → ⊥
without_return content c = let e = (chunks_run (codes "0" ++ (10 ∷ 10 ∷ [])) content c).0 in cc

-- more data than the size says
pub more_data : (content : Bytes)
    → IsChunks (codes "1" ++ ends ++ codes "ab" ++ ends ++ codes "0" ++ ends ++ ends) content → ⊥
more_data content c =
    let e = (chunks_run (codes "1" ++ ends ++ codes "ab" ++ ends ++ codes "0" ++ ends ++ ends) content c).0 in cc

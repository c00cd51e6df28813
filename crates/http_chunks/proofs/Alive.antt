-- Something may follow at each open place.
use Rattle.std.proofs.Common.{◌≡◌, inl, ℕ, zero, suc, ◌+◌, ◌≤◌, true, [], ◌∷◌, ◌++◌, length, refl, ap, arith}
use Rattle.std.specs.Char.{is_ascii_hexdigit}
use Rattle.std.specs.List.{list_all}
use Rattle.http_wire.specs.declared.body_places.BodyPlace.{BodyPlace}
use Rattle.http_wire.specs.declared.body_places.BodyPlace.TheVariants.{UntilClose, ContentLeft, ChunkData, ChunkSize, ChunkSpace, ChunkExtension, ChunkLineFeed, DataReturn, DataLineFeed, Trailer, Whole, Refused}
use Rattle.http_wire.specs.declared.line_places.LinePlace.{LinePlace}
use Rattle.http_wire.specs.declared.line_places.LinePlace.TheVariants.{Leading, LeadingReturn, InLine, LineStart, StartReturn}
use Rattle.http_wire.specs.Fields.{Bytes}
use Rattle.http_chunks.specs.Chunks.{hex_from, IsChunks}
use Rattle.http_chunks.proofs.Places.{IsOpen}
use Rattle.http_chunks.proofs.Rests.{Behind, Rest}

-- something may follow at each open place
pub record Alive (place : BodyPlace) : Type 0 where
  pub rest : Bytes
  pub content : Bytes
  pub rests : Rest place rest content

abbrev pub last_chunk : Bytes
last_chunk = 48 ∷ 13 ∷ 10 ∷ 10 ∷ []

pub last_is_chunks : IsChunks last_chunk []
last_is_chunks = (
  1,
  (
    48 ∷ 13 ∷ 10 ∷ [],
    0,
    10 ∷ [],
    record {
      digits = 48 ∷ [];
      some = omega arith;
      few = omega arith;
      hex = refl;
      value = refl;
      blanks = [];
      blank = refl;
      extension = [];
      extends = tt;
      spelled = refl;
      within = omega arith;
    },
    refl,
    (record { lines = []; spelled = inl refl; within = omega arith }, refl),
  ),
)

abbrev pub zeros : ℕ → Bytes
zeros zero = []
zeros (suc n) = 0 ∷ zeros n

pub zeros_length : (n : ℕ) → length (zeros n) ≡ n
zeros_length zero = refl
zeros_length (suc n) = ap suc (zeros_length n)

pub record SomeBehind (size : ℕ) : Type 0 where
  pub text : Bytes
  pub content : Bytes
  pub behind : Behind size text content

pub some_behind : (size : ℕ) → SomeBehind size
some_behind zero =
    record {
      text = 10 ∷ [];
      content = [];
      behind = (0, (record { lines = []; spelled = inl refl; within = omega arith }, refl));
    }
some_behind (suc k) =
    record {
      text = zeros (suc k) ++ (13 ∷ 10 ∷ last_chunk);
      content = zeros (suc k) ++ [];
      behind = (
        last_is_chunks.0,
        (zeros (suc k), last_chunk, [], zeros_length (suc k), refl, last_is_chunks.1, refl),
      );
    }

pub space_alive : (size n : ℕ) → n + 2 ≤ 65536 → Alive (ChunkSpace size n)
space_alive size n few =
    let s = some_behind size in
    record {
      rest = 13 ∷ 10 ∷ s.text;
      content = s.content;
      rests = record {
        blanks = [];
        blank = refl;
        extension = [];
        extends = tt;
        more = s.text;
        spelled = refl;
        within = omega (arith, few);
        behind = s.behind;
      };
    }

pub digits_alive : (d n : ℕ) (digits : Bytes) → d + length digits ≤ 16 → 1 ≤ d + length digits
    → list_all is_ascii_hexdigit digits ≡ true → Alive (ChunkSize d n)
digits_alive d n digits few some hex =
    let s = space_alive (hex_from n digits) (d + length digits) (omega (arith, few)) in
    record {
      rest = digits ++ s.rest;
      content = s.content;
      rests = record {
        digits = digits;
        few = few;
        some = some;
        hex = hex;
        tail = s.rest;
        spelled = refl;
        space = s.rests;
      };
    }

pub line_alive : (line : LinePlace) (n : ℕ) → IsOpen (Trailer line n) → Alive (Trailer line n)
line_alive Leading n o = absurd o.0
line_alive LeadingReturn n o = absurd o.0
line_alive InLine n o =
    record {
      rest = 10 ∷ 10 ∷ [];
      content = [];
      rests = (([], record { one = refl; more = 10 ∷ []; spelled = refl; lines = []; after = inl refl }), o.1, refl);
    }
line_alive LineStart n o = record { rest = 10 ∷ []; content = []; rests = (([], inl refl), o.1, refl) }
line_alive StartReturn n o = record { rest = 10 ∷ []; content = []; rests = (inl refl, o.1, refl) }

pub alive : (place : BodyPlace) → IsOpen place → Alive place
alive UntilClose o = absurd o
alive (ContentLeft n) o = absurd o
alive (ChunkData n) o =
    record {
      rest = zeros n ++ (13 ∷ 10 ∷ last_chunk);
      content = zeros n ++ [];
      rests = (
        o,
        record {
          bytes = zeros n;
          as_long = zeros_length n;
          next = last_chunk;
          spelled = refl;
          more = [];
          chunks = last_is_chunks;
          gives = refl;
        },
      );
    }
alive (ChunkSize zero n) o = digits_alive 0 n (48 ∷ []) (omega arith) (omega arith) refl
alive (ChunkSize (suc d) n) o = digits_alive (suc d) n [] (omega (arith, o)) (omega arith) refl
alive (ChunkSpace size n) o = space_alive size n o
alive (ChunkExtension size n) o =
    let s = some_behind size in
    record {
      rest = 13 ∷ 10 ∷ s.text;
      content = s.content;
      rests = record {
        inside = [];
        all = refl;
        more = s.text;
        spelled = refl;
        within = omega (arith, o);
        behind = s.behind;
      };
    }
alive (ChunkLineFeed size) o =
    let s = some_behind size in
    record { rest = 10 ∷ s.text; content = s.content; rests = (s.text, refl, s.behind) }
alive DataReturn o = record { rest = 13 ∷ 10 ∷ last_chunk; content = []; rests = (last_chunk, refl, last_is_chunks) }
alive DataLineFeed o = record { rest = 10 ∷ last_chunk; content = []; rests = (last_chunk, refl, last_is_chunks) }
alive (Trailer line n) o = line_alive line n o
alive Whole o = absurd o
alive (Refused e) o = absurd o

-- Bodies of chunks as texts (RFC 9112 section 7.1). Signs by their numbers: 9 tab, 10 line feed, 13 carriage return,
-- 32 space, 59 semicolon.
use Rattle.std.specs.Prelude.{ℕ, zero, suc, ◌≡◌, ◌≢◌, ◌⊎◌, ◌≤◌, ◌+◌, ◌*◌, ◌==◌, ◌||◌, ◌&&◌, Bool, true, not, List, [], ◌∷◌, ◌++◌, length}
use Rattle.std.specs.Char.{is_ascii_hexdigit, digit_value}
use Rattle.std.specs.List.{list_all}
use Rattle.http_wire.specs.Fields.{Bytes}

abbrev pub is_blank : ℕ → Bool
is_blank b = (b == 32) || (b == 9)

-- a byte that ends no line
abbrev pub is_inside : ℕ → Bool
is_inside b = not (b == 13) && not (b == 10)

-- the number whose first hexadecimal digits give n and whose further digits these are
abbrev pub hex_from : ℕ → Bytes → ℕ
hex_from n [] = n
hex_from n (b ∷ digits) = hex_from (n * 16 + digit_value b) digits

-- nothing, or a semicolon and bytes that end no line
abbrev pub IsExtension : Bytes → Type 0
IsExtension [] = Unit {0}
IsExtension (b ∷ more) = (b ≡ 59) × (list_all is_inside more ≡ true)

-- the line of a chunk of this size: 1 to 16 hexadecimal digits, blanks, an extension, and the end of the line
pub record IsChunkLine (line : Bytes) (size : ℕ) : Type 0 where
  pub digits : Bytes
  pub some : 1 ≤ length digits
  pub few : length digits ≤ 16
  pub hex : list_all is_ascii_hexdigit digits ≡ true
  pub value : size ≡ hex_from 0 digits
  pub blanks : Bytes
  pub blank : list_all is_blank blanks ≡ true
  pub extension : Bytes
  pub extends : IsExtension extension
  pub spelled : line ≡ digits ++ (blanks ++ (extension ++ (13 ∷ 10 ∷ [])))
  pub within : length line ≤ 65536

-- a line of a trailer without its line feed: it isn't empty
pub record IsFullLine (line : Bytes) : Type 0 where
  pub one : list_all (λ b. not (b == 10)) line ≡ true
  pub some : line ≢ []
  pub full : line ≢ 13 ∷ []

-- these lines, and then an empty one
abbrev pub IsLines : List Bytes → Bytes → Type 0
IsLines [] text = (text ≡ 10 ∷ []) ⊎ (text ≡ 13 ∷ 10 ∷ [])
IsLines (line ∷ lines) text = (more : Bytes) × (text ≡ line ++ (10 ∷ more)) × IsFullLine line × IsLines lines more

-- what follows the last chunk: lines up to an empty one
pub record IsTrailer (text : Bytes) : Type 0 where
  pub lines : List Bytes
  pub spelled : IsLines lines text
  pub within : length text ≤ 65536

-- behind the line of a chunk: the last one, of size 0, has no data and the trailer follows; another has its data, the end
-- of a line, and further chunks
abbrev pub IsBehind : (Bytes → Bytes → Type 0) → ℕ → Bytes → Bytes → Type 0
IsBehind chunks zero text content = IsTrailer text × (content ≡ [])
IsBehind chunks (suc k) text content =
    (data_bytes : Bytes) × (rest : Bytes) × (more : Bytes) × (length data_bytes ≡ suc k)
    × (text ≡ data_bytes ++ (13 ∷ 10 ∷ rest)) × chunks rest more × (content ≡ data_bytes ++ more)

-- at most so many chunks with this content
abbrev pub IsChunksOf : ℕ → Bytes → Bytes → Type 0
IsChunksOf zero text content = ⊥
IsChunksOf (suc n) text content =
    (line : Bytes) × (size : ℕ) × (rest : Bytes) × IsChunkLine line size × (text ≡ line ++ rest)
    × IsBehind (IsChunksOf n) size rest content

-- a body of chunks with this content
abbrev pub IsChunks : Bytes → Bytes → Type 0
IsChunks text content = (n : ℕ) × IsChunksOf n text content

-- a body of chunks
abbrev pub IsChunkedBody : Bytes → Type 0
IsChunkedBody text = (content : Bytes) × IsChunks text content

-- The addresses of repositories: `http://HOST`, with `:PORT` and a path if wanted, or `file:` and the path of a folder.
use Rattle.std.specs.Prelude.{◌≡◌, ℕ, Bool, true, false, List, Option, Some, None, drop, codes, nat_eq, nat_le, ◌==◌, ◌&&◌, ◌||◌, not, if◌then◌else◌}
use Rattle.std.specs.Fmt.{decimal}
use Rattle.std.specs.List.{list_all, starts_with}
use Rattle.ascii_bytes.specs.Classes.{is_letter_or_digit}
use Rattle.ascii_bytes.specs.Digits as digits
use Rattle.ascii_bytes.specs.Signs.{colon, dash, dot, slash}
use Rattle.res_base.specs.Names.{text_eq}
use Rattle.res_base.specs.Plain.{is_at_most_two_dots}
use Rattle.link_base.specs.FilePaths.{is_file_path}
use Rattle.cache_layout.specs.Places.{before, behind}

-- A-Z a-z 0-9 . -
abbrev pub is_host_byte : ℕ → Bool
is_host_byte byte = is_letter_or_digit byte || (byte == dot || byte == dash)

-- one or more bytes of a class, and neither one dot nor two
abbrev pub is_named : (ℕ → Bool) → List ℕ → Bool
is_named has text = list_all has text && not (is_at_most_two_dots text)

abbrev pub IsNamed : (ℕ → Bool) → List ℕ → Type 0
IsNamed has text = is_named has text ≡ true

abbrev pub is_host : List ℕ → Bool
is_host = is_named is_host_byte

-- a number from 1 to 65535, written without leading zeros
abbrev pub is_port : List ℕ → Bool
is_port text =
    let port = digits.decimal text in
    text_eq text (decimal port) && (nat_le 1 port && nat_le port 65535)

-- a first part alone, or a first part, a sign and a second part
module _ (is_first : List ℕ → Bool) (sign : ℕ) (is_second : List ℕ → Bool) where
  abbrev pub are_parts : List ℕ → Option (List ℕ) → Bool
  are_parts first None = is_first first
  are_parts first (Some second) = is_first first && is_second second

  abbrev pub is_with : List ℕ → Bool
  is_with text = are_parts (before sign text) (behind sign text)

-- HOST or HOST:PORT
abbrev pub is_authority : List ℕ → Bool
is_authority = is_with is_host colon is_port

-- what follows `http://`
abbrev pub is_after_http : List ℕ → Bool
is_after_http = is_with is_authority slash is_file_path

-- what follows `file:`: segments, which begin at the root where a `/` stands before them
abbrev pub is_after_file : List ℕ → Bool
is_after_file text = if starts_with nat_eq text (codes "/") then is_file_path (drop 1 text) else is_file_path text

abbrev pub is_address : List ℕ → Bool
is_address text =
    if starts_with nat_eq text (codes "http://") then is_after_http (drop 7 text) else
    if starts_with nat_eq text (codes "file:") then is_after_file (drop 5 text) else false

abbrev pub IsPort : List ℕ → Type 0
IsPort text = is_port text ≡ true

abbrev pub IsFilePath : List ℕ → Type 0
IsFilePath text = is_file_path text ≡ true

abbrev pub IsAuthority : List ℕ → Type 0
IsAuthority text = is_authority text ≡ true

abbrev pub IsAfterHttp : List ℕ → Type 0
IsAfterHttp text = is_after_http text ≡ true

abbrev pub IsAfterFile : List ℕ → Type 0
IsAfterFile text = is_after_file text ≡ true

abbrev pub IsAddress : List ℕ → Type 0
IsAddress text = is_address text ≡ true

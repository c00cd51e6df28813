-- Addresses of repositories that are reached by HTTP: `http://`, a host, `:` and a port if wanted, and a path if wanted.
use Rattle.std.specs.Prelude.{ℕ, Bool, false, [], ◌∷◌, Option, Some, None, length, drop, codes, nat_eq, nat_le, ◌==◌, ◌&&◌, ◌||◌, not}
use Rattle.std.specs.List.{list_all, starts_with}
use Rattle.ascii_bytes.specs.Classes.{is_digit, is_letter_or_digit}
use Rattle.ascii_bytes.specs.Digits.{decimal}
use Rattle.ascii_bytes.specs.Parts.{cut_at}
use Rattle.ascii_bytes.specs.Signs.{colon, dash, dot, slash}
use Rattle.res_base.specs.Plain.{is_at_most_two_dots}
use Rattle.link_base.specs.FilePaths.{is_slash, is_file_path}
use Rattle.http_wire.specs.Fields.{Bytes}

abbrev pub is_host_byte : ℕ → Bool
is_host_byte byte = is_letter_or_digit byte || (byte == dot) || (byte == dash)

-- a host: one or more of A-Z a-z 0-9 . -, and neither one dot nor two
abbrev pub is_host : Bytes → Bool
is_host text = not (is_at_most_two_dots text) && list_all is_host_byte text

-- a port: 1 to 65535, without leading zeros
abbrev pub is_port : Bytes → Bool
is_port text =
    nat_le (length text) 5 && not (starts_with nat_eq text (codes "0")) && list_all is_digit text
    && (nat_le 1 (decimal text) && nat_le (decimal text) 65535)

abbrev pub is_colon : ℕ → Bool
is_colon byte = byte == colon

abbrev pub is_host_and_port : Bytes → Option (Bytes × Bytes) → Bool
is_host_and_port text None = is_host text
is_host_and_port text (Some parts) = is_host parts.0 && is_port parts.1

-- HOST or HOST:PORT
abbrev pub is_authority : Bytes → Bool
is_authority text = is_host_and_port text (cut_at is_colon text)

abbrev pub is_authority_and_path : Bytes → Option (Bytes × Bytes) → Bool
is_authority_and_path text None = is_authority text
is_authority_and_path text (Some parts) = is_authority parts.0 && is_file_path parts.1

-- what follows `http://`
abbrev pub is_after_http : Bytes → Bool
is_after_http text = is_authority_and_path text (cut_at is_slash text)

abbrev pub is_http_address : Bytes → Bool
is_http_address text = starts_with nat_eq text (codes "http://") && is_after_http (drop 7 text)

-- a target begins with a slash
abbrev pub is_target : Bytes → Bool
is_target [] = false
is_target (byte ∷ more) = byte == slash

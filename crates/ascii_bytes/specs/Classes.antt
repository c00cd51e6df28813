-- Classes of bytes of ASCII.
use Rattle.std.specs.Prelude.{ℕ, Bool, ◌&&◌, ◌||◌, nat_le, ◌==◌}
use Rattle.ascii_bytes.specs.Signs.{tab, line_feed, carriage_return, space, plus, dash, dot, underscore}

-- both ends are in it
abbrev pub between : ℕ → ℕ → ℕ → Bool
between low high byte = nat_le low byte && nat_le byte high

-- 0-9
abbrev pub is_digit : ℕ → Bool
is_digit byte = between 48 57 byte

-- A-Z a-z
abbrev pub is_letter : ℕ → Bool
is_letter byte = between 65 90 byte || between 97 122 byte

abbrev pub is_letter_or_digit : ℕ → Bool
is_letter_or_digit byte = is_letter byte || is_digit byte

-- 0-9 A-F a-f
abbrev pub is_hex_digit : ℕ → Bool
is_hex_digit byte = is_digit byte || (between 65 70 byte || between 97 102 byte)

abbrev pub is_blank : ℕ → Bool
is_blank byte = byte == space || byte == tab

-- white space of XML 1.0
abbrev pub is_white : ℕ → Bool
is_white byte = is_blank byte || (byte == line_feed || byte == carriage_return)

-- A-Z a-z 0-9 _ -
abbrev pub is_word_byte : ℕ → Bool
is_word_byte byte = is_letter_or_digit byte || (byte == underscore || byte == dash)

-- these, . and +
abbrev pub is_plain_byte : ℕ → Bool
is_plain_byte byte = is_word_byte byte || (byte == dot || byte == plus)

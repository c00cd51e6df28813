-- Texts and runs of bytes as words.
use Rattle.std.specs.Prelude.{ℕ, List, [], ◌∷◌, codes}
use Rattle.hex.specs.Hex.{encode_lower}

-- two lower-case hexadecimal digits a byte, and a dash for no bytes
abbrev pub hex_word : List ℕ → List ℕ
hex_word [] = codes "-"
hex_word (byte ∷ bytes) = encode_lower (byte ∷ bytes)

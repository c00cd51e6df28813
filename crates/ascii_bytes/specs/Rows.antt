-- What the definitions give, row by row.
use Rattle.std.specs.Prelude.{◌≡◌, ◌==◌, true, false, Some, None, [], ◌∷◌, codes, map, refl}
use Rattle.std.specs.List.{list_all, list_any}
use Rattle.ascii_bytes.specs.Classes.{is_blank, is_hex_digit, is_letter_or_digit, is_plain_byte, is_white, is_word_byte}
use Rattle.ascii_bytes.specs.Digits.{decimal, hex_digit}
use Rattle.ascii_bytes.specs.Parts.{cut_at, trim}
use Rattle.ascii_bytes.specs.Signs as signs
use Rattle.ascii_bytes.specs.Signs.{colon}

letters_and_digits : list_all is_letter_or_digit (codes "AZaz09") ≡ true
letters_and_digits = refl

no_letters_or_digits : list_any is_letter_or_digit (codes "@[`{/:_-.") ≡ false
no_letters_or_digits = refl

hex_digits : list_all is_hex_digit (codes "09AFaf") ≡ true
hex_digits = refl

no_hex_digits : list_any is_hex_digit (codes "/:@G`g") ≡ false
no_hex_digits = refl

white : list_all is_white (codes " \t\r\n") ≡ true
white = refl

blank : map is_blank (codes " \t\r\n") ≡ true ∷ true ∷ false ∷ false ∷ []
blank = refl

word_bytes : list_all is_word_byte (codes "Az9_-") ≡ true
word_bytes = refl

no_word_bytes : list_any is_word_byte (codes ".+/~") ≡ false
no_word_bytes = refl

plain_bytes : list_all is_plain_byte (codes "Az9_-.+") ≡ true
plain_bytes = refl

no_plain_bytes : list_any is_plain_byte (codes "/~,*@[ ") ≡ false
no_plain_bytes = refl

hex_values : map hex_digit (codes "09AfFg") ≡ Some 0 ∷ Some 9 ∷ Some 10 ∷ Some 15 ∷ Some 15 ∷ None ∷ []
hex_values = refl

decimal_row : decimal (codes "065535") ≡ 65535
decimal_row = refl

trimmed_row : trim is_white (codes " \t1 0\r\n ") ≡ codes "1 0"
trimmed_row = refl

white_alone : trim is_white (codes " \n ") ≡ []
white_alone = refl

cut_row : cut_at (λ byte. byte == colon) (codes "a:b:c") ≡ Some (codes "a", codes "b:c")
cut_row = refl

cut_at_the_end : cut_at (λ byte. byte == colon) (codes "a:") ≡ Some (codes "a", [])
cut_at_the_end = refl

nothing_to_cut : cut_at (λ byte. byte == colon) (codes "abc") ≡ None
nothing_to_cut = refl

signs_row : codes "\t\n\r !\"#$&'()+,-./:;<=>?[]_{|}~" ≡
    signs.tab ∷ signs.line_feed ∷ signs.carriage_return ∷ signs.space ∷ signs.exclamation_mark ∷ signs.quotation_mark
    ∷ signs.number_sign ∷ signs.dollar ∷ signs.ampersand ∷ signs.apostrophe ∷ signs.opening_parenthesis
    ∷ signs.closing_parenthesis ∷ signs.plus ∷ signs.comma ∷ signs.dash ∷ signs.dot ∷ signs.slash ∷ signs.colon
    ∷ signs.semicolon ∷ signs.less_than ∷ signs.equals_sign ∷ signs.greater_than ∷ signs.question_mark
    ∷ signs.opening_bracket ∷ signs.closing_bracket ∷ signs.underscore ∷ signs.opening_brace ∷ signs.bar
    ∷ signs.closing_brace ∷ signs.tilde ∷ []
signs_row = refl

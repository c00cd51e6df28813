-- Worked rows of the grammar's functions.
use lib.Utf8.{encode}
use Rattle.std.specs.Prelude.{◌≡◌, ℕ, zero, suc, Ok, Err, true, false, List, [], ◌∷◌, ◌++◌, Some, None, refl, codes}
use Rattle.pom_grammar.specs.declared.encoding.Encoding.TheVariants.{Utf8, Ascii, Latin1}
use Rattle.pom_grammar.specs.declared.encoding.Tail.TheVariants.{Whole, One}
use Rattle.pom_grammar.specs.Characters.{local, skip_space, cut_space}
use Rattle.pom_grammar.specs.Encodings.{tails, utf8_of}
use Rattle.pom_grammar.specs.References.{expanded}
use Rattle.pom_grammar.specs.Document.{ends_from, dashes, question}
use Rattle.pom_grammar.specs.declared.tree.Tree.{roll-Tree}
use Rattle.pom_grammar.specs.declared.tree.TextErr.TheVariants.{BadText, Doctype, TooDeep, UnknownEncoding}
use Rattle.pom_grammar.specs.Verdicts.{whole_verdict}

named_entities : expanded Utf8 (codes "&lt;&gt;&amp;&quot;&apos;") ≡ codes "<>&\"'"
unfolding lib.Utf8.encode
named_entities = refl

numbers : expanded Utf8 (codes "&#65;&#x42;&#0000067;&#xe9;") ≡ codes "ABC" ++ 195 ∷ (169 ∷ [])
unfolding lib.Utf8.encode
numbers = refl

as_written : expanded Utf8 (codes "&foo;&#0;&#xD800;&#x110000;&#;&amp &&lt;")
    ≡ codes "&foo;&#0;&#xD800;&#x110000;&#;&amp &<"
unfolding lib.Utf8.encode
as_written = refl

once : expanded Utf8 (codes "&amp;lt;") ≡ codes "&lt;"
unfolding lib.Utf8.encode
once = refl

local_names : local (codes "a:b:c") ≡ codes "b:c"
local_names = refl

no_colon : local (codes "abc") ≡ codes "abc"
no_colon = refl

cut : cut_space (skip_space (codes " \t a b \n")) ≡ codes "a b"
cut = refl

comment : ends_from dashes [] (codes " a -- b -->") ≡ true
comment = refl

too_short : ends_from dashes [] (codes ">") ≡ false
too_short = refl

second_end : ends_from question [] (codes "?>?>") ≡ false
second_end = refl

latin1 : utf8_of Latin1 (233 ∷ []) ≡ 195 ∷ (169 ∷ [])
unfolding lib.Utf8.encode
latin1 = refl

pending : tails Utf8 Whole (codes "a" ++ 195 ∷ []) ≡ Some One
pending = refl

no_surrogate : tails Utf8 Whole (237 ∷ (160 ∷ [])) ≡ None
no_surrogate = refl

no_high : tails Ascii Whole (codes "a" ++ 128 ∷ []) ≡ None
no_high = refl

nothing_read : whole_verdict [] ≡ Err (BadText 0)
nothing_read = refl

document_type : whole_verdict (codes "<!DOCTYPE p><project/>") ≡ Err (Doctype 0)
document_type = refl

late_type : whole_verdict (codes "<a/><!DOCTYPE a>") ≡ Err (BadText 6)
late_type = refl

other_encoding : whole_verdict (codes "<?xml version=\"1.0\" encoding=\"UTF-16\"?>") ≡ Err (UnknownEncoding 30)
other_encoding = refl

abbrev start_tags : ℕ → List ℕ
start_tags zero = []
start_tags (suc n) = codes "<a>" ++ start_tags n

level_65 : whole_verdict (start_tags 65) ≡ Err (TooDeep 192)
level_65 = refl

level_64 : whole_verdict (start_tags 64) ≡ Err (BadText 192)
level_64 = refl

tree_read : whole_verdict (codes "<x:a> 1&lt;<b/>2 <![CDATA[&lt;]]> </x:a>")
    ≡ Ok (roll-Tree
    (record {
      name = codes "a";
      text = codes "1<2 &lt;";
      children =
          roll-Tree (record { name = codes "b"; text = []; children = [] }) ∷ [];
    }))
unfolding lib.Utf8.encode
tree_read = refl

other_end : whole_verdict (codes "<abc></abd>") ≡ Err (BadText 9)
other_end = refl

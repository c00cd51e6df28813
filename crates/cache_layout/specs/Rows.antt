-- What the definitions give, row by row.
use Rattle.std.specs.Prelude.{◌≡◌, true, false, Some, None, codes, refl}
use Rattle.std.specs.Fmt.{digits}
use Rattle.cache_layout.specs.Addresses.{is_address}
use Rattle.cache_layout.specs.Lines.{gone_text}
use Rattle.cache_layout.specs.Names.{name_of}
use Rattle.cache_layout.specs.Readings.{gone_in}

http_name : name_of (codes "http://r1:8080/m2/x/a/1/a-1.pom") ≡ codes "http/r1%3A8080/m2/x/a/1/a-1.pom"
http_name = refl

file_name : name_of (codes "file:/srv/x/a/1/a-1.pom") ≡ codes "file/srv/x/a/1/a-1.pom"
file_name = refl

here_name : name_of (codes "file:srv/~me/a-1.pom") ≡ codes "here/srv/%7Eme/a-1.pom"
here_name = refl

an_address : is_address (codes "http://r1.example/m2") ≡ true
an_address = refl

a_port : is_address (codes "http://r1:8080") ≡ true
unfolding digits
a_port = refl

a_leading_zero : is_address (codes "http://r1:080") ≡ false
unfolding digits
a_leading_zero = refl

a_port_too_high : is_address (codes "http://r1:65536") ≡ false
unfolding digits
a_port_too_high = refl

two_dots : is_address (codes "file:/srv/../m2") ≡ false
two_dots = refl

no_path : is_address (codes "file:") ≡ false
no_path = refl

a_gone_line : gone_text 1000 ≡ codes "coursier-gone 1 1000\n"
unfolding digits
a_gone_line = refl

gone_read : gone_in (codes "coursier-gone 1 1000\n") ≡ Some 1000
unfolding digits
gone_read = refl

gone_with_zero : gone_in (codes "coursier-gone 1 01000\n") ≡ None
unfolding digits
gone_with_zero = refl

gone_too_late : gone_in (codes "coursier-gone 1 18446744073709551616\n") ≡ None
unfolding digits
gone_too_late = refl

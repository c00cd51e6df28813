-- Addresses of repositories as texts.
use Rattle.std.specs.Prelude.{ℕ, List, ◌++◌, codes}
use Rattle.link_base.specs.declared.addresses.Address.{Address}
use Rattle.link_base.specs.declared.addresses.Address.TheVariants.{Http, Folder}

-- the text of an address
abbrev pub text_of : Address → List ℕ
text_of (Http rest) = codes "http://" ++ rest.now
text_of (Folder folder) = codes "file:" ++ folder.now

-- what follows its `http://` or `file:`
abbrev pub rest_of : Address → List ℕ
rest_of (Http rest) = rest.now
rest_of (Folder folder) = folder.now

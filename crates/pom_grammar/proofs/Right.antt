-- The reader of bodies is right.
use Rattle.std.proofs.Common.{◌≡◌, ℕ, List, [], refl, subst, Some, None}
use Rattle.fault_place.specs.Reader.{IsRight}
use Rattle.pom_grammar.specs.declared.encoding.Encoding.{Encoding}
use Rattle.pom_grammar.specs.declared.tree.Tree.{Tree}
use Rattle.pom_grammar.specs.Document.{IsBody, top, nothing, space}
use Rattle.pom_grammar.specs.Machine.{State, between, opened, bang, after_dash, in_cdata, in_segment, in_tag, in_end, after_name, outcome, Fits, body_reader}
use Rattle.pom_grammar.proofs.Keeps.{keeps}
use Rattle.pom_grammar.proofs.Takes.{takes}
use Rattle.pom_grammar.proofs.Lives.{lives}

gives : (e : Encoding) (s : State) (prefix : List ℕ) (tree : Tree) → Fits e s prefix → outcome s ≡ Some tree
    → IsBody e prefix tree
gives e (between None) prefix tree fits f = let no : ⊥ = cc in absurd no
gives e (between (Some root)) prefix tree fits f = let same : root ≡ tree = cc in subst (IsBody e prefix) same fits
gives e (opened place) prefix tree fits f = let no : ⊥ = cc in absurd no
gives e (bang place) prefix tree fits f = let no : ⊥ = cc in absurd no
gives e (after_dash place) prefix tree fits f = let no : ⊥ = cc in absurd no
gives e (in_cdata left frame outer) prefix tree fits f = let no : ⊥ = cc in absurd no
gives e (in_segment kind place seen tail) prefix tree fits f = let no : ⊥ = cc in absurd no
gives e (in_tag spot name place) prefix tree fits f = let no : ⊥ = cc in absurd no
gives e (in_end done left frame outer) prefix tree fits f = let no : ⊥ = cc in absurd no
gives e (after_name frame outer) prefix tree fits f = let no : ⊥ = cc in absurd no

pub right : (e : Encoding) → IsRight (body_reader e) (IsBody e)
right e = record {
  begins = space 64 [] [] [] [] refl (nothing top 64);
  keeps = keeps e;
  gives = gives e;
  takes =
      takes e;
  lives = lives e;
}

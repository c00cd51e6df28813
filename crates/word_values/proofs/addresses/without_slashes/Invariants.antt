use Rattle.std.proofs.Common.{◌≡◌, length}
use Rattle.std.specs.Str.{IsUtf8}
use Rattle.word_values.specs.Addresses.{without_slashes}
use Rattle.word_values.proofs.addresses.without_slashes.Given as goal

abbrev pub decreases-loop-front : goal.decreases-loop-front
decreases-loop-front l = length l.shorter

abbrev pub invariant-loop-front : goal.invariant-loop-front
invariant-loop-front l = record {
  utf8 : IsUtf8 l.shorter;
  same : without_slashes l.shorter ≡ without_slashes l.text;
}

use Rattle.std.proofs.Common.{◌≡◌, ◌++◌, length}
use Rattle.std.specs.Str.{IsUtf8}
use Rattle.word_values.specs.Split.{members_of, texts_of}
use Rattle.word_values.proofs.split.members_of.Given as goal

abbrev pub invariant-loop-member : goal.invariant-loop-member
invariant-loop-member l = IsUtf8 l.rest × (texts_of l.members.items ++ members_of l.rest ≡ members_of l.text)

abbrev pub decreases-loop-member : goal.decreases-loop-member
decreases-loop-member l = length l.rest

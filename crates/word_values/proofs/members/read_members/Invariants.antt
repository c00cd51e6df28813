use Rattle.std.proofs.Common.{◌≡◌, drop, length}
use Rattle.word_values.specs.Members.{members_from, members_in}
use Rattle.word_values.specs.Split.{texts_of}
use Rattle.word_values.proofs.members.read_members.Given as goal

abbrev pub invariant-loop-text : goal.invariant-loop-text
invariant-loop-text g l = record {
  number : length l.made ≡ l.text-index;
  left : members_from l.kind g.M.Members.reads (texts_of (drop l.text-index l.texts)) l.made ≡ members_in l.kind g.M.Members.reads (texts_of l.texts);
}

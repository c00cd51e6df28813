use Rattle.std.proofs.Common.{◌≡◌, drop}
use Rattle.res_base.specs.Plain.{goes_on_as_org, is_plain_org}
use Rattle.word_values.proofs.exclusions.is_plain_org.Given as goal

abbrev pub invariant-loop-byte : goal.invariant-loop-byte
invariant-loop-byte l = goes_on_as_org l.in_part (drop l.byte-index l.text) ≡ is_plain_org l.text

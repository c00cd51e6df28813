-- The two segments so far, and those that are left, have the segment before the last one of them all.
use Rattle.std.proofs.Common.{◌≡◌, [], length, drop}
use Rattle.std.specs.List.{slice_split}
use Rattle.link_base.specs.FilePaths.{is_slash}
use Rattle.file_fetch.proofs.Versions.{before_last}
use Rattle.file_fetch.proofs.changing.version_in.Given as goal

abbrev pub invariant-loop-segment : goal.invariant-loop-segment
invariant-loop-segment l =
    let parts = slice_split is_slash l.path in
    before_last l.earlier l.last (drop (length l.yielded) parts) ≡ before_last [] [] parts

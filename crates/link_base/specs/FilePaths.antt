-- Paths of files below a repository's address.
use Rattle.std.specs.Prelude.{ℕ, Bool, not, ◌&&◌, ◌||◌, ◌==◌, List, IsTrue}
use Rattle.std.specs.List.{list_all, slice_split}
use Rattle.ascii_bytes.specs.Classes.{is_plain_byte}
use Rattle.ascii_bytes.specs.Signs.{slash, tilde}
use Rattle.res_base.specs.Plain.{is_at_most_two_dots}

-- A-Z a-z 0-9 . _ - + ~
abbrev pub is_segment_byte : ℕ → Bool
is_segment_byte byte = is_plain_byte byte || byte == tilde

-- one or more of these bytes, and neither one dot nor two
abbrev pub is_segment : List ℕ → Bool
is_segment text = list_all is_segment_byte text && not (is_at_most_two_dots text)

abbrev pub is_slash : ℕ → Bool
is_slash byte = byte == slash

-- one or more segments, with a slash between two
abbrev pub is_file_path : List ℕ → Bool
is_file_path path = list_all is_segment (slice_split is_slash path)

abbrev pub IsFilePath : List ℕ → Type 0
IsFilePath path = IsTrue (is_file_path path)

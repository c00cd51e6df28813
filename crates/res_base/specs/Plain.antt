-- Which orgs, names and versions are plain: those that may stand in a path of a repository.
use Rattle.std.specs.Prelude.{ℕ, Bool, false, not, ◌&&◌, ◌||◌, List, [], ◌∷◌, length, nat_le, ◌==◌}
use Rattle.std.specs.List.{list_all}
use Rattle.ascii_bytes.specs.Classes.{is_plain_byte, is_word_byte}
use Rattle.ascii_bytes.specs.Signs.{dot}
use Rattle.res_base.specs.declared.coord.Coord.{Coord}
use Rattle.res_base.specs.declared.coord.Module.{Module}

abbrev pub is_dot : ℕ → Bool
is_dot byte = byte == dot

-- The rest of an org, after a byte of a part or not: a dot, and the end, stand after a byte of a part.
abbrev pub goes_on_as_org : Bool → List ℕ → Bool
goes_on_as_org in_part [] = in_part
goes_on_as_org in_part (byte ∷ text) = (is_word_byte byte || (is_dot byte && in_part)) && goes_on_as_org
    (is_word_byte byte) text

-- one or more parts of word bytes, with a dot between two
abbrev pub is_plain_org : List ℕ → Bool
is_plain_org = goes_on_as_org false

-- no bytes, one dot or two
abbrev pub is_at_most_two_dots : List ℕ → Bool
is_at_most_two_dots text = list_all is_dot text && nat_le (length text) 2

-- a name, version, classifier or extension: one or more plain bytes that are not `.` or `..`
abbrev pub is_plain_name : List ℕ → Bool
is_plain_name text = list_all is_plain_byte text && not (is_at_most_two_dots text)

abbrev pub is_plain_module : Module → Bool
is_plain_module m = is_plain_org m.org && is_plain_name m.name

abbrev pub is_plain_coord : Coord → Bool
is_plain_coord c = is_plain_module c.«module» && is_plain_name c.version

-- The front of a room of which a further part was written.
use Rattle.std.proofs.Common.{◌≡◌, ℕ, ◌+◌, ◌≤◌, List, ◌++◌, length, take, length-take-le}
use Rattle.std.proofs.lemmas.List.{take-append-le}
use borrow.Rule.Slice.PartMut.{put_mid, post_of}
use Rattle.std.proofs.Math.Seq.{take-append-add}

-- what stood before the part, and then the first bytes of the part
pub filled_more : (filled count given : ℕ) (room part : List ℕ) → filled ≤ length room → given ≤ length part
    → take (filled + given) (put_mid filled count room part) ≡ take filled room ++ take given part
filled_more filled count given room part low few =
    let front = take filled room in
    let rest = part ++ post_of filled count room in
    let long : length front ≡ filled = length-take-le filled room low in
    let cut : take (length front + given) (front ++ rest) ≡ front ++ take given rest = take-append-add front rest given in
    let near : take given rest ≡ take given part = take-append-le given part (post_of filled count room) few in
    let both : take (length front + given) (front ++ rest) ≡ front ++ take given part = rw near at cut in
    rw long at both

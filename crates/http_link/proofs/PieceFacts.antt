-- Pieces of a file, and what a world holds.
use Rattle.std.proofs.Common.{◌≡◌, ◌≢◌, ℕ, ◌<◌, Bool, true, false, List, [], ◌∷◌, ◌++◌, length, take, drop, Option, Some, None, Result, Ok, Err, refl, sym, ap, ◌∙◌, subst, arith, if◌then◌else◌, nat_le}
use Rattle.std.proofs.lemmas.Bool.{false≢true}
use Rattle.std.proofs.lemmas.Bool.Decides.{nat_tests}
use Rattle.std.proofs.lemmas.List.{take_all}
use Rattle.http_wire.specs.declared.reply_reader.ReplyReader.{ReplyReader}
use Rattle.http_wire.specs.declared.replies.ReplyErr.{ReplyErr}
use Rattle.http_wire.specs.declared.replies.ReplyErr.TheVariants.{BadHead, HeadTooLong, BadLength, BadChunk, Encoded, EndedEarly, BodyTooLong, NoMemory}
use Rattle.http_wire.specs.Fields.{Bytes}
use Rattle.link_base.specs.Links.{got_of}
use Rattle.link_base.specs.declared.links.Got.{Got}
use Rattle.link_base.specs.declared.links.Got.TheVariants.{Bytes as WholeFile, Absent, TooLarge}
use Rattle.http_visits.specs.declared.pages.Page.{Page}
use Rattle.http_link.specs.declared.wire.Connection.{Connection}
use Rattle.http_link.specs.Agreement.{FitsFile}
use Rattle.http_link.specs.Gots.{IsGot}
use Rattle.http_link.specs.Openings.{IsTail}
use Rattle.http_visits.specs.Pages.{Says, file, absent, moved, large, faulty, file_says}
use Rattle.http_link.specs.Ends.{is_file_end}
use Rattle.http_visits.specs.Visits.{Begins, FitsWorld}
use Rattle.http_link.proofs.PageFacts.{PageLaws, open_whole}

-- the bytes of a whole file
abbrev got_bytes : Got → Bytes
got_bytes (WholeFile bytes) = bytes
got_bytes Absent = []
got_bytes TooLarge = []

abbrev IsWhole : Got → Type 0
IsWhole (WholeFile bytes) = Unit {0}
IsWhole Absent = ⊥
IsWhole TooLarge = ⊥

abbrev IsLarge : Got → Type 0
IsLarge (WholeFile bytes) = ⊥
IsLarge Absent = ⊥
IsLarge TooLarge = Unit {0}

abbrev IsAbsent : Got → Type 0
IsAbsent (WholeFile bytes) = ⊥
IsAbsent Absent = Unit {0}
IsAbsent TooLarge = ⊥

got_if : (t : Bool) (held body : Bytes) → (if t then WholeFile held else TooLarge) ≡ WholeFile body → held ≡ body
got_if true held body e = ap got_bytes e
got_if false held body e = absurd (subst IsWhole (sym e) tt)

-- a whole file that fits is the one that is held
pub whole_held : (held body : Bytes) (limit : ℕ) → got_of (Some held) limit ≡ WholeFile body → held ≡ body
whole_held held body limit e = got_if (nat_le (length held) limit) held body e

large_if : (t : Bool) (held : Bytes) → (if t then WholeFile held else TooLarge) ≡ TooLarge → t ≡ false
large_if true held e = absurd (subst IsLarge (sym e) tt)
large_if false held e = refl

pub large_held : (held : Bytes) (limit : ℕ) → got_of (Some held) limit ≡ TooLarge → limit < length held
large_held held limit e =
    let is = large_if (nat_le (length held) limit) held e in
    grind (arith, nat_tests, is)

absent_if : (t : Bool) (held : Bytes) → (if t then WholeFile held else TooLarge) ≡ Absent → ⊥
absent_if true held e = subst IsAbsent (sym e) tt
absent_if false held e = subst IsAbsent (sym e) tt

pub absent_held : (held : Option Bytes) (limit : ℕ) → got_of held limit ≡ Absent → held ≡ None
absent_held None limit e = refl
absent_held (Some bytes) limit e = absurd (absent_if (nat_le (length bytes) limit) bytes e)

-- what a reply of a file gave is the beginning of what is held
refused_begins : (held : Option Bytes) (body : Bytes) (limit : ℕ) (e : ReplyErr)
    → FitsWorld held limit (file_says (Err e) body) → Begins held body
refused_begins held body limit BadHead f = f
refused_begins held body limit HeadTooLong f = f
refused_begins held body limit BadLength f = f
refused_begins held body limit BadChunk f = f
refused_begins held body limit Encoded f = f
refused_begins held body limit EndedEarly f = f
refused_begins held body limit BodyTooLong f = f.1
refused_begins held body limit NoMemory f = f

pub fits_begins : (held : Option Bytes) (body : Bytes) (limit : ℕ) (ended : Result (Unit {0}) ReplyErr)
    → FitsWorld held limit (file_says ended body) → Begins held body
fits_begins None body limit (Ok u) f = absurd (subst IsWhole (sym f) tt)
fits_begins (Some held) body limit (Ok u) f =
    let same = whole_held held body limit f in
    sym same ∙ sym (take_all (length body) held (omega (arith, ap length same)))
fits_begins held body limit (Err e) f = refused_begins held body limit e f

-- the world holds a file of which a byte came, or whose reply ended as that of a file does
abbrev pub IsHeld : Option Bytes → Type 0
IsHeld held = (bytes : Bytes) × (held ≡ Some bytes)

nothing_ends : (body : Bytes) (limit : ℕ) (ended : Result (Unit {0}) ReplyErr) → is_file_end (Some ended) ≡ true
    → FitsWorld None limit (file_says ended body) → ⊥
nothing_ends body limit (Ok u) e f = subst IsWhole (sym f) tt
nothing_ends body limit (Err BadHead) e f = false≢true e
nothing_ends body limit (Err HeadTooLong) e f = false≢true e
nothing_ends body limit (Err BadLength) e f = false≢true e
nothing_ends body limit (Err BadChunk) e f = false≢true e
nothing_ends body limit (Err Encoded) e f = false≢true e
nothing_ends body limit (Err EndedEarly) e f = false≢true e
nothing_ends body limit (Err BodyTooLong) e f = subst IsLarge (sym f.0) tt
nothing_ends body limit (Err NoMemory) e f = false≢true e

pub append_some : (a b : Bytes) → a ≢ [] → a ++ b ≢ []
append_some [] b some = absurd (some refl)
append_some (x ∷ xs) b some = λ e. false≢true (ap is_empty_not e)
  where
    is_empty_not : Bytes → Bool
    is_empty_not [] = true
    is_empty_not (y ∷ ys) = false

pub held_of : (told : Option (List Page)) (connection : Option Connection) (reader : ReplyReader) (limit : ℕ)
    (reply content : Bytes) (ended : Option (Result (Unit {0}) ReplyErr)) (rows : List Page) (held : Option Bytes)
    → PageLaws → IsTail told connection reader limit reply content ended → (content ≡ [] → is_file_end ended ≡ true)
    → told ≡ Some rows → FitsFile held limit reply → IsHeld held
held_of told connection reader limit reply content ended rows (Some bytes) laws tail opens is fits = (bytes, refl)
held_of told connection reader limit reply content None rows None laws tail opens is fits =
    let nonempty : tail.outcome.content ≢ [] = λ e. tail.some (sym tail.same ∙ e) in
    let g = open_whole told connection reader limit reply tail.outcome rows laws tail.hearing nonempty is in
    let none : g.whole.content ≡ [] = fits_begins None g.whole.content limit g.whole.closed
    (fits g.whole g.is_outcome) in
    absurd (append_some tail.outcome.content g.more nonempty (sym g.goes_on ∙ none))
held_of told connection reader limit reply content (Some ended) rows None laws tail opens is fits =
    let f = fits tail.whole (tail.of_reply rows is) in
    let none : tail.whole.content ≡ [] = fits_begins None tail.whole.content limit tail.whole.closed f in
    absurd (nothing_ends tail.whole.content limit ended (opens (sym tail.same
    ∙ none)) (subst (λ k. FitsWorld None limit (file_says k tail.whole.content)) (sym tail.answer) f))

prefix_take : (a more held : Bytes) → a ++ more ≡ take (length (a ++ more)) held → a ≡ take (length a) held
prefix_take [] more held e = refl
prefix_take (x ∷ a) more [] e = absurd (false≢true (ap is_empty_not e))
  where
    is_empty_not : Bytes → Bool
    is_empty_not [] = true
    is_empty_not (y ∷ ys) = false
prefix_take (x ∷ a) more (h ∷ held) e =
    let first : x ≡ h = ap (head_or x) e in
    let rest = prefix_take a more held (ap tail_of_list e) in
    λ i. first i ∷ rest i
  where
    head_or : ℕ → Bytes → ℕ
    head_or d [] = d
    head_or d (y ∷ ys) = y

    tail_of_list : Bytes → Bytes
    tail_of_list [] = []
    tail_of_list (y ∷ ys) = ys

-- the content so far is the beginning of what is held
pub tail_begins : (told : Option (List Page)) (connection : Option Connection) (reader : ReplyReader) (limit : ℕ)
    (reply content : Bytes) (ended : Option (Result (Unit {0}) ReplyErr)) (rows : List Page) (held : Bytes)
    → PageLaws → IsTail told connection reader limit reply content ended → told ≡ Some rows
    → FitsFile (Some held) limit reply → content ≡ take (length content) held
tail_begins told connection reader limit reply content None rows held laws tail is fits =
    let nonempty : tail.outcome.content ≢ [] = λ e. tail.some (sym tail.same ∙ e) in
    let g = open_whole told connection reader limit reply tail.outcome rows laws tail.hearing nonempty is in
    let begins : g.whole.content ≡ take (length g.whole.content) held = fits_begins
    (Some held) g.whole.content limit g.whole.closed (fits g.whole g.is_outcome) in
    let first : tail.outcome.content ≡ take (length tail.outcome.content) held =
    prefix_take tail.outcome.content g.more held (subst (λ k. k ≡ take (length k) held) g.goes_on begins) in
    subst (λ k. k ≡ take (length k) held) tail.same first
tail_begins told connection reader limit reply content (Some ended) rows held laws tail is fits =
    subst (λ k. k ≡ take (length k) held) tail.same (fits_begins
    (Some held) tail.whole.content limit tail.whole.closed (fits tail.whole (tail.of_reply rows is)))

-- the bytes behind those that were given
pub piece_next : (given piece held : Bytes) → given ++ piece ≡ take (length (given ++ piece)) held
    → piece ≡ take (length piece) (drop (length given) held)
piece_next [] piece held e = e
piece_next (x ∷ given) piece [] e = absurd (false≢true (ap is_empty_not e))
  where
    is_empty_not : Bytes → Bool
    is_empty_not [] = true
    is_empty_not (y ∷ ys) = false
piece_next (x ∷ given) piece (h ∷ held) e = piece_next given piece held (ap tail_of_list e)
  where
    tail_of_list : Bytes → Bytes
    tail_of_list [] = []
    tail_of_list (y ∷ ys) = ys

-- what is got of a whole reply that fits what is held
pub got_fits : (held : Option Bytes) (limit : ℕ) (says : Says) (got : Got) → FitsWorld held limit says
    → IsGot says got → got ≡ got_of held limit
got_fits held limit (file body) got f s = s ∙ sym f
got_fits held limit absent got f s = s ∙ sym f
got_fits held limit (moved location) got f s = absurd s
got_fits held limit (large body) got f s = s ∙ sym f.0
got_fits held limit (faulty body) got f s = absurd s

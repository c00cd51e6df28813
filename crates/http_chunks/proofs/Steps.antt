-- A byte more or less in front of what may follow at a place.
use Rattle.std.proofs.Common.{◌≡◌, ℕ, ◌-◌, false, ◌==◌, [], ◌∷◌, ◌++◌, refl, sym, ap, ◌∙◌, subst}
use Rattle.http_wire.specs.declared.body_places.BodyPlace.{BodyPlace}
use Rattle.http_wire.specs.declared.body_places.BodyPlace.TheVariants.{UntilClose, ContentLeft, ChunkData, ChunkSize, ChunkSpace, ChunkExtension, ChunkLineFeed, DataReturn, DataLineFeed, Trailer, Whole, Refused}
use Rattle.http_wire.specs.declared.line_places.LinePlace.TheVariants.{Leading, LeadingReturn, InLine, LineStart, StartReturn}
use Rattle.http_wire.specs.declared.replies.ReplyErr.TheVariants.{BadChunk}
use Rattle.http_wire.specs.BodyPlaces.{data_begun, is_content, after_content, after_framing}
use Rattle.http_wire.specs.Fields.{Bytes}
use Rattle.http_chunks.specs.Chunks.{IsChunks}
use Rattle.http_chunks.proofs.Places.{place_after, byte_at, IsOpen}
use Rattle.http_chunks.proofs.Rests.{Behind, Rest, chunks_rest, rest_chunks}
use Rattle.http_chunks.proofs.Tests.{by_if, put_true, put_false, head_is, tail_is, same_byte}
use Rattle.http_chunks.proofs.Lines.{size_less, size_more, inside_less, inside_more, digit_less, digit_more, begun_less, begun_more, left_less, left_more, data_less, data_more}
use Rattle.http_chunks.proofs.Trailers.{line_less, line_more, return_less, not_empty, return_more, start_less, start_more}

-- what may follow without its first byte
pub record Less (place : BodyPlace) (b : ℕ) (rest content : Bytes) : Type 0 where
  pub less : Bytes
  pub rests : Rest (place_after place b) rest less
  pub gives : content ≡ byte_at place b ++ less

pub same_less : (place : BodyPlace) (b : ℕ) (rest content : Bytes) → is_content place ≡ false
    → Rest (after_framing place b) rest content → Less place b rest content
same_less place b rest content fails r =
    record {
      less = content;
      rests = put_false (λ q. Rest q rest content) (is_content place) (after_content place 1) (after_framing place b) fails r;
      gives = put_false (λ k. content ≡ k ++ content) (is_content place) (b ∷ []) [] fails refl;
    }

pub less_of : (place : BodyPlace) (b : ℕ) (rest content : Bytes) → Rest place (b ∷ rest) content
    → Less place b rest content
less_of UntilClose b rest content r = absurd r
less_of (ContentLeft n) b rest content r = absurd r
less_of (ChunkData n) b rest content (some, d) =
    let l = data_less n b rest content d.bytes d.next d.more some d.as_long d.spelled d.chunks d.gives in
    record { less = l.less; rests = left_less (n - 1) rest l.less l.data_rest; gives = l.gives }
less_of (ChunkSize d n) b rest content r =
    same_less (ChunkSize d n) b rest content refl
    (digit_less d n b rest content r.digits r.tail r.few r.some r.hex r.spelled r.space)
less_of (ChunkSpace size n) b rest content r =
    same_less (ChunkSpace size n) b rest content refl
    (size_less size n b rest content r.blanks r.extension r.more r.blank r.extends r.within r.behind r.spelled)
less_of (ChunkExtension size n) b rest content r =
    same_less (ChunkExtension size n) b rest content refl
    (inside_less size n b rest content r.inside r.more r.all r.within r.behind r.spelled)
less_of (ChunkLineFeed size) b rest content (more, e, behind) =
    let is : b ≡ 10 = head_is e in
    let rest_is : more ≡ rest = sym (tail_is e) in
    same_less (ChunkLineFeed size) b rest content refl
    (put_true (λ q. Rest q rest content) (b == 10) (data_begun size) (Refused BadChunk) (ap (λ k. k == 10) is)
    (begun_less size rest content (subst (λ k. Behind size k content) rest_is behind)))
less_of DataReturn b rest content (next, e, chunks) =
    let is : b ≡ 13 = head_is e in
    let rest_is : rest ≡ 10 ∷ next = tail_is e in
    same_less DataReturn b rest content refl
    (put_true (λ q. Rest q rest content) (b == 13) DataLineFeed (Refused BadChunk) (ap (λ k. k == 13) is)
    (next, rest_is, chunks))
less_of DataLineFeed b rest content (next, e, chunks) =
    let is : b ≡ 10 = head_is e in
    let rest_is : next ≡ rest = sym (tail_is e) in
    same_less DataLineFeed b rest content refl
    (put_true (λ q. Rest q rest content) (b == 10) (ChunkSize 0 0) (Refused BadChunk) (ap (λ k. k == 10) is)
    (chunks_rest rest content (subst (λ k. IsChunks k content) rest_is chunks)))
less_of (Trailer Leading n) b rest content r = absurd r.0
less_of (Trailer LeadingReturn n) b rest content r = absurd r.0
less_of (Trailer InLine n) b rest content ((line, l), few, none) =
    same_less (Trailer InLine n) b rest content refl (line_less n b line rest content l few none)
less_of (Trailer LineStart n) b rest content ((lines, is), few, none) =
    same_less (Trailer LineStart n) b rest content refl (start_less n b rest content lines is few none)
less_of (Trailer StartReturn n) b rest content (l, few, none) =
    same_less (Trailer StartReturn n) b rest content refl (return_less n b rest content l few none)
less_of Whole b rest content (none, empty) = absurd (not_empty b rest none)
less_of (Refused e) b rest content r = absurd r

-- what may follow with one more byte in front
pub more_of : (place : BodyPlace) (b : ℕ) (rest content : Bytes) → IsOpen place
    → Rest (place_after place b) rest content → Rest place (b ∷ rest) (byte_at place b ++ content)
more_of UntilClose b rest content o r = absurd o
more_of (ContentLeft n) b rest content o r = absurd o
more_of (ChunkData n) b rest content o r =
    (o, data_more n b rest content o (left_more (n - 1) rest content r))
more_of (ChunkSize d n) b rest content o r = digit_more d n b rest content o r
more_of (ChunkSpace size n) b rest content o r = size_more size n b rest content o r
more_of (ChunkExtension size n) b rest content o r = inside_more size n b rest content o r
more_of (ChunkLineFeed size) b rest content o r =
    by_if (λ q. Rest q rest content) (b == 10) (data_begun size) (Refused BadChunk) r
    (λ is p. (rest, ap (λ k. k ∷ rest) (same_byte b 10 is), begun_more size rest content p)) (λ fails p. absurd p)
more_of DataReturn b rest content o r =
    by_if (λ q. Rest q rest content) (b == 13) DataLineFeed (Refused BadChunk) r
    (λ is p. (p.0, ap (λ k. k ∷ rest) (same_byte b 13 is) ∙ ap (λ k. 13 ∷ k) p.1, p.2)) (λ fails p. absurd p)
more_of DataLineFeed b rest content o r =
    by_if (λ q. Rest q rest content) (b == 10) (ChunkSize 0 0) (Refused BadChunk) r
    (λ is p. (rest, ap (λ k. k ∷ rest) (same_byte b 10 is), rest_chunks rest content p)) (λ fails p. absurd p)
more_of (Trailer Leading n) b rest content o r = absurd o.0
more_of (Trailer LeadingReturn n) b rest content o r = absurd o.0
more_of (Trailer InLine n) b rest content o r = line_more n b rest content r
more_of (Trailer LineStart n) b rest content o r = start_more n b rest content o.1 r
more_of (Trailer StartReturn n) b rest content o r = return_more n b rest content o.1 r
more_of Whole b rest content o r = absurd o
more_of (Refused e) b rest content o r = absurd o

-- Tests and lists, for the steps over a body of chunks.
use Rattle.std.proofs.Common.{◌≡◌, ℕ, ◌+◌, ◌≤◌, Bool, true, false, not, ◌&&◌, ◌==◌, nat_le, ◌∷◌, refl, ap, ◌∙◌, arith, if◌then◌else◌}
use Rattle.std.proofs.lemmas.Bool.{and_parts, true≢false, false≢true}
use Rattle.std.proofs.lemmas.Bool.Decides.{nat_tests}
use Rattle.std.specs.List.{list_all}
use Rattle.http_wire.specs.declared.body_places.BodyPlace.{BodyPlace}
use Rattle.http_wire.specs.declared.body_places.BodyPlace.TheVariants.{Refused}
use Rattle.http_wire.specs.declared.replies.ReplyErr.TheVariants.{BadChunk}
use Rattle.http_wire.specs.BodyPlaces.{within_line}
use Rattle.http_wire.specs.Fields.{Bytes}
use Rattle.http_chunks.proofs.Rests.{Rest}

-- by a test
pub by_if : {A : Type 0} {Z : Type 0} (P : A → Type 0) (t : Bool) (x y : A) → P (if t then x else y)
    → (t ≡ true → P x → Z) → (t ≡ false → P y → Z) → Z
by_if P true x y p f g = f refl p
by_if P false x y p f g = g refl p

pub put_true : {A : Type 0} (P : A → Type 0) (t : Bool) (x y : A) → t ≡ true → P x → P (if t then x else y)
put_true P true x y e p = p
put_true P false x y e p = absurd (false≢true e)

pub put_false : {A : Type 0} (P : A → Type 0) (t : Bool) (x y : A) → t ≡ false → P y → P (if t then x else y)
put_false P true x y e p = absurd (true≢false e)
put_false P false x y e p = p

-- what two lists with a first byte share
pub head_is : {b x : ℕ} {rest more : Bytes} → b ∷ rest ≡ x ∷ more → b ≡ x
head_is e = cc

pub tail_is : {b x : ℕ} {rest more : Bytes} → b ∷ rest ≡ x ∷ more → rest ≡ more
tail_is e = cc

pub all_cons : (f : ℕ → Bool) (b : ℕ) (bytes : Bytes) → f b ≡ true → list_all f bytes ≡ true
    → list_all f (b ∷ bytes) ≡ true
all_cons f b bytes e h = ap (λ t. t && list_all f bytes) e ∙ h

pub all_first : (f : ℕ → Bool) (b : ℕ) (bytes : Bytes) → list_all f (b ∷ bytes) ≡ true → f b ≡ true
all_first f b bytes e = (and_parts (f b) (list_all f bytes) e).0

pub all_more : (f : ℕ → Bool) (b : ℕ) (bytes : Bytes) → list_all f (b ∷ bytes) ≡ true → list_all f bytes ≡ true
all_more f b bytes e = (and_parts (f b) (list_all f bytes) e).1

pub same_byte : (b n : ℕ) → (b == n) ≡ true → b ≡ n
same_byte b n e = grind (arith, nat_tests, e)

pub not_same : (b n : ℕ) → (b == n) ≡ false → not (b == n) ≡ true
not_same b n e = ap not e

pub other_byte : (b n : ℕ) → not (b == n) ≡ true → (b == n) ≡ false
other_byte b n e = by_test (b == n) e
  where
    by_test : (t : Bool) → not t ≡ true → t ≡ false
    by_test true e = absurd (false≢true e)
    by_test false e = refl

-- a place within the limit of a line
pub put_within : (P : BodyPlace → Type 0) (n : ℕ) (place : BodyPlace) → n + 2 ≤ 65536 → P place → P (within_line n place)
put_within P n place few p =
    put_true P (nat_le (n + 2) 65536) place (Refused BadChunk) (grind (arith, nat_tests, few)) p

pub get_within : (rest content : Bytes) (n : ℕ) (place : BodyPlace) → Rest (within_line n place) rest content
    → Rest place rest content
get_within rest content n place r =
    by_if (λ q. Rest q rest content) (nat_le (n + 2) 65536) place (Refused BadChunk) r (λ e p. p) (λ e p. absurd p)

-- What the checks decide of the bytes is what they ask, met or not.
use Rattle.std.proofs.Common.{◌≡◌, ◌≤◌, ℕ, List, [], ◌∷◌, Option, Some, None, length, refl, ap}
use Rattle.std.proofs.lemmas.Bool.{le-ltb}
use Rattle.res_base.specs.declared.reading.Answer.{Answer}
use Rattle.res_base.specs.declared.reading.Check.{Check}
use Rattle.res_base.specs.declared.reading.Check.TheVariants.{Sha1, Md5, Sha256, NoCheck}
use Rattle.res_base.specs.declared.reading.Digest.{Digest}
use Rattle.digest_check.specs.Digests.{digest_by, digest_of, digests_of}
use Rattle.digest_check.specs.KeyAnswers.{Held, answer_at, checked, damage_of, decided, unless_damaged, wanted}
use Rattle.file_answers.specs.declared.demand.Demand.{Demand}
use Rattle.digest_check.specs.declared.sums.Digests.{Digests}
use Rattle.file_answers.specs.Demands.{damage_by, demand_of, demanded, judged}

same_digest : (check : Check) (bytes : List ℕ) → digest_by check (digests_of bytes) ≡ digest_of check bytes
same_digest NoCheck bytes = refl
same_digest Sha1 bytes = refl
same_digest Md5 bytes = refl
same_digest Sha256 bytes = refl

first_judged : (check : Check) (found : Option Digest) (bytes : List ℕ) (demand : Demand) (later : Answer)
    → judged demand bytes ≡ later
    → judged (demanded check found demand) bytes ≡ decided check found (digest_of check bytes) bytes later
first_judged check None bytes demand later rest = rest
first_judged check (Some digest) bytes demand later rest =
    ap (λ got. unless_damaged (damage_of check digest got) bytes) (same_digest check bytes)

pub judged_is_checked : (held : Held) (url bytes : List ℕ) (list : List Check)
    → judged (demand_of held url list) bytes ≡ checked held url bytes list
judged_is_checked held url bytes [] = refl
judged_is_checked held url bytes (NoCheck ∷ rest) = refl
judged_is_checked held url bytes (Sha1 ∷ rest) =
    first_judged Sha1 (wanted held url Sha1) bytes (demand_of held url rest) (checked held url bytes rest)
    (judged_is_checked held url bytes rest)
judged_is_checked held url bytes (Md5 ∷ rest) =
    first_judged Md5 (wanted held url Md5) bytes (demand_of held url rest) (checked held url bytes rest)
    (judged_is_checked held url bytes rest)
judged_is_checked held url bytes (Sha256 ∷ rest) =
    first_judged Sha256 (wanted held url Sha256) bytes (demand_of held url rest) (checked held url bytes rest)
    (judged_is_checked held url bytes rest)

-- the answer to a file whose digests are these, under what its checks ask
pub digests_judge : (held : Held) (url bytes : List ℕ) (list : List Check) (demand : Demand) (all : Digests)
    → demand ≡ demand_of held url list → all ≡ digests_of bytes
    → unless_damaged (damage_by demand all) bytes ≡ checked held url bytes list
digests_judge held url bytes list demand all asks of = rw (asks, of) (judged_is_checked held url bytes list)

-- of a file that is there, within the limit
pub judged_is_answer : (held : Held) (url bytes : List ℕ) (list : List Check) (limit : ℕ) → held url ≡ Some bytes
    → length bytes ≤ limit → judged (demand_of held url list) bytes ≡ answer_at held list limit url
judged_is_answer held url bytes list limit there fits =
    rw (there, le-ltb limit (length bytes) fits) (judged_is_checked held url bytes list)

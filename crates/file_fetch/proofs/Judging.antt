-- Answers to artifacts, by what was demanded of their bytes.
use Rattle.std.proofs.Common.{ℕ, ◌≡◌, ◌<◌, Bool, true, false, cond, List, Option, Some, None, Result, Ok, Err, refl, sym, ap, ◌∙◌, length, arith}
use Rattle.std.specs.Prelude.{IfOk, IsTrue, nat_lt}
use Rattle.std.proofs.lemmas.Bool.Decides.{nat_tests}
use Rattle.answer_reading.specs.Readings.{reading_of}
use Rattle.cache_store.specs.Wanted.{differing, other_digest}
use Rattle.digest_check.specs.Digests.{digest_by, digests_of}
use Rattle.digest_check.specs.KeyAnswers.{Held, answer_at, checked, damage_of, of_bytes, unless_damaged, within_limit}
use Rattle.digest_check.specs.declared.sums.Digests.{Digests}
use Rattle.file_answers.specs.Demands.{MayDemand, damage_by, demand_of, is_of, judged}
use Rattle.file_answers.specs.declared.demand.Demand.{Demand}
use Rattle.file_answers.specs.declared.demand.Demand.TheVariants.{AnyBytes, DigestOf, Undecided}
use Rattle.pool_rules.specs.Worlds.{answer_in}
use Rattle.pool_rules.specs.declared.plan.Plan.{Plan}
use Rattle.res_base.specs.declared.key.FileKey.{FileKey}
use Rattle.res_base.specs.declared.key.Role.TheVariants.{Artifact}
use Rattle.res_base.specs.Names.{text_eq}
use Rattle.res_base.specs.declared.reading.Answer.{Answer}
use Rattle.res_base.specs.declared.reading.Answer.TheVariants.{Absent, Damaged, Stored, TooLarge}
use Rattle.res_base.specs.declared.reading.Check.{Check}
use Rattle.res_base.specs.declared.reading.Check.TheVariants as checks
use Rattle.res_base.specs.declared.reading.Damage.{Damage}
use Rattle.res_base.specs.declared.reading.Digest.{Digest}
use Rattle.res_base.specs.declared.reading.Digest.TheVariants as kinds
use Rattle.res_base.specs.declared.world.WorldRow.{WorldRow}
use Rattle.file_fetch.specs.Received.{IsKind}
use Rattle.file_fetch.specs.Worlds.{IsWorldsArtifact, IsWorldsReading}

-- what follows for an answer
pub if_ok : {T E : Type 0} (r : Result T E) (P Q : T → Type 0) → IfOk r P → ((x : T) → P x → Q x) → IfOk r Q
if_ok (Ok x) P Q p f = f x p
if_ok (Err e) P Q p f = tt

-- ---- the damage that another digest is

abbrev pub of_other : Check → Digest → Option Digest → Option Damage
of_other check wanted None = None
of_other check wanted (Some got) = Some (record { check = check; wanted = Some wanted; got = Some got })

by_test : (same : Bool) (check : Check) (wanted got : Digest)
    → cond same None (Some (record { check = check; wanted = Some wanted; got = Some got }))
    ≡ of_other check wanted (cond same None (Some got))
by_test true check wanted got = refl
by_test false check wanted got = refl

damage_same : (check : Check) (wanted : Digest) (all : Digests) → IsTrue (is_of check wanted)
    → damage_of check wanted (digest_by check all) ≡ of_other check wanted (other_digest wanted all)
damage_same checks.Sha1 (kinds.Sha1 d) all k = by_test (text_eq all.sha1 d) checks.Sha1 (kinds.Sha1 d) (kinds.Sha1 all.sha1)
damage_same checks.Md5 (kinds.Md5 d) all k = by_test (text_eq all.md5 d) checks.Md5 (kinds.Md5 d) (kinds.Md5 all.md5)
damage_same checks.Sha256 (kinds.Sha256 d) all k =
    by_test (text_eq all.sha256 d) checks.Sha256 (kinds.Sha256 d) (kinds.Sha256 all.sha256)
damage_same checks.Sha1 (kinds.Md5 d) all k = let no : ⊥ = cc in absurd no
damage_same checks.Sha1 (kinds.Sha256 d) all k = let no : ⊥ = cc in absurd no
damage_same checks.Md5 (kinds.Sha1 d) all k = let no : ⊥ = cc in absurd no
damage_same checks.Md5 (kinds.Sha256 d) all k = let no : ⊥ = cc in absurd no
damage_same checks.Sha256 (kinds.Sha1 d) all k = let no : ⊥ = cc in absurd no
damage_same checks.Sha256 (kinds.Md5 d) all k = let no : ⊥ = cc in absurd no
damage_same checks.NoCheck (kinds.Sha1 d) all k = let no : ⊥ = cc in absurd no
damage_same checks.NoCheck (kinds.Md5 d) all k = let no : ⊥ = cc in absurd no
damage_same checks.NoCheck (kinds.Sha256 d) all k = let no : ⊥ = cc in absurd no

pub sealed_damage : (check : Check) (wanted : Digest) (all : Digests) (got : Option Digest) → IsKind (DigestOf check wanted)
    → got ≡ differing (Some wanted) all → of_other check wanted got ≡ damage_by (DigestOf check wanted) all
sealed_damage check wanted all got kind is = ap (of_other check wanted) is ∙ sym (damage_same check wanted all kind)

pub kind_of : (list : List Check) (demand : Demand) → MayDemand list demand → IsKind demand
kind_of list AnyBytes may = tt
kind_of list (DigestOf check digest) may = may.0
kind_of list Undecided may = tt

-- ---- the answer to an artifact

abbrev pub answer_for : Option Damage → ℕ → Answer
answer_for None count = Stored count
answer_for (Some damage) count = Damaged damage

same_reading : (damage : Option Damage) (all : List ℕ) (count : ℕ) → count ≡ length all
    → reading_of Artifact (answer_for damage count) ≡ reading_of Artifact (unless_damaged damage all)
same_reading None all count size = rw size refl
same_reading (Some damage) all count size = refl

pub judged_reading : (held : Held) (list : List Check) (limit : ℕ) (url all : List ℕ) (count : ℕ) (demand : Demand)
    (damage : Option Damage) → count ≡ length all → demand ≡ demand_of held url list
    → damage ≡ damage_by demand (digests_of all) → judged (demand_of held url list) all ≡ answer_at held list limit url
    → reading_of Artifact (answer_for damage count) ≡ reading_of Artifact (answer_at held list limit url)
judged_reading held list limit url all count demand damage size is found law =
    same_reading damage all count size
    ∙ (ap (λ (d : Option Damage). reading_of Artifact (unless_damaged d all)) found
    ∙ (ap (λ (d : Demand). reading_of Artifact (judged d all)) is ∙ ap (reading_of Artifact) law))

large_answer : (limit : ℕ) (bytes : List ℕ) (answer : Answer) → limit < length bytes → within_limit limit bytes answer ≡ TooLarge
large_answer limit bytes answer past =
    let e : nat_lt limit (length bytes) ≡ true = grind (arith, nat_tests) in rw e refl

pub large_at : (held : Held) (list : List Check) (limit : ℕ) (url bytes : List ℕ) → held url ≡ Some bytes
    → limit < length bytes → answer_at held list limit url ≡ TooLarge
large_at held list limit url bytes is past =
    ap (of_bytes held list limit url) is ∙ large_answer limit bytes (checked held url bytes list) past

pub absent_at : (held : Held) (list : List Check) (limit : ℕ) (url : List ℕ) → held url ≡ None
    → answer_at held list limit url ≡ Absent
absent_at held list limit url is = ap (of_bytes held list limit url) is

pub artifact_reading : (w : List WorldRow) (plan : Plan) (key : FileKey) (got : Answer) → key.role ≡ Artifact
    → IsWorldsArtifact w plan key got → IsWorldsReading w plan key got
artifact_reading w plan key got is h = rw is h

pub world_reading : (w : List WorldRow) (plan : Plan) (key : FileKey) (got : Answer) → got ≡ answer_in plan w key
    → IsWorldsReading w plan key got
world_reading w plan key got is = ap (reading_of key.role) is

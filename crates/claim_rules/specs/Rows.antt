-- Worked rows: three roots whose POMs are needed, and one root in three repositories.
use Rattle.std.specs.Prelude.{ℕ, ◌≡◌, Bool, true, false, not, List, [], ◌∷◌, ◌++◌, codes, refl}
use Rattle.std.specs.List.{filter}
use Rattle.claim_rules.specs.Claims.{claim_of}
use Rattle.claim_rules.specs.Histories.{What, claim, arrive, broke, give_back, Entry, History, holder}
use Rattle.claim_rules.specs.Resolvers.{Standing, waiting, given, Resolver}
use Rattle.claim_rules.specs.Sessions.{is_known}
use Rattle.claim_rules.specs.declared.claim.Claim.{Claim}
use Rattle.claim_rules.specs.declared.claim.Claim.TheVariants.{Over, Stuck, TooMany, Claimed, NoneNow}
use Rattle.claim_rules.specs.declared.settings.Settings.{Settings}
use Rattle.claim_rules.specs.declared.why.Why.TheVariants.{Link, NotCached}
use Rattle.res_base.specs.Builders.{key_of}
use Rattle.res_base.specs.Known.{Known}
use Rattle.res_base.specs.declared.key.FileKey.{FileKey}
use Rattle.res_base.specs.declared.key.Role.TheVariants.{Pom}
use Rattle.res_base.specs.declared.reading.Reading.TheVariants.{Absent}

abbrev pom : ℕ → List ℕ → FileKey
pom repo path = key_of repo Pom path

abbrev by : ℕ → What → Entry
by seat what = record { seat = seat; what = what }

abbrev settings : Bool → ℕ → ℕ → ℕ → Settings
settings eager retries claims hint_claims =
    record {
      repos = 3;
      eager = eager;
      retries = retries;
      limits =
          record { claims = claims; hint_claims = hint_claims };
    }

abbrev until_known : List FileKey → Standing ℕ
until_known [] = given 0
until_known (key ∷ keys) = waiting (key ∷ keys)

-- rounds that wait for what is unknown of some keys
abbrev asking : List FileKey → Resolver ℕ
asking keys =
    record {
      rounds = λ known. until_known (filter (λ key. not (is_known known key)) keys);
      reads = λ known. keys;
      files = λ verdict. [];
    }

-- ---- three roots

abbrev a : FileKey
a = pom 0 (codes "x/a/1/a-1.pom")

abbrev b : FileKey
b = pom 0 (codes "x/b/1/b-1.pom")

abbrev c : FileKey
c = pom 0 (codes "x/c/1/c-1.pom")

abbrev answer : ℕ → ℕ → History → Claim
answer retries claims h = claim_of (settings false retries claims 0) (asking (c ∷ a ∷ b ∷ [])) h

abbrev two : History
two = by 0 (claim a) ∷ by 1 (claim b) ∷ []

abbrev three : History
three = two ++ by 2 (claim c) ∷ []

pub least_first : answer 0 9 [] ≡ Claimed a
least_first = refl

pub next_by_order : answer 0 9 two ≡ Claimed c
next_by_order = refl

pub third_is_too_many : answer 0 2 two ≡ TooMany
third_is_too_many = refl

pub fourth_waits : answer 0 9 three ≡ NoneNow
fourth_waits = refl

pub over_by_any_order :
    answer 0 9 (three ++ by 2 (arrive c Absent) ∷ by 0 (arrive a Absent) ∷ by 1 (arrive b Absent) ∷ []) ≡ Over
over_by_any_order = refl

pub broken_is_passed : answer 0 9 (three ++ by 0 (broke a Link) ∷ []) ≡ NoneNow
broken_is_passed = refl

pub broken_once_is_tried_again : answer 1 9 (three ++ by 0 (broke a Link) ∷ []) ≡ Claimed a
broken_once_is_tried_again = refl

pub lacking_is_not_tried_again : answer 1 9 (three ++ by 0 (broke a NotCached) ∷ []) ≡ NoneNow
lacking_is_not_tried_again = refl

pub all_broken :
    answer 0 9 (three ++ by 0 (broke a Link) ∷ by 1 (broke b NotCached) ∷ by 2 (arrive c Absent) ∷ []) ≡ Stuck a
all_broken = refl

pub given_back_is_free : answer 0 9 (two ++ by 0 (give_back a) ∷ []) ≡ Claimed a
given_back_is_free = refl

pub only_the_holder_ends : holder (two ++ by 1 (give_back a) ∷ []) a ≡ holder two a
only_the_holder_ends = refl

-- ---- one root, eagerly

abbrev first : FileKey
first = pom 0 (codes "x/a/1/a-1.pom")

abbrev second : FileKey
second = pom 1 (codes "x/a/1/a-1.pom")

abbrev third : FileKey
third = pom 2 (codes "x/a/1/a-1.pom")

abbrev eager_answer : ℕ → History → Claim
eager_answer hint_claims h = claim_of (settings true 0 9 hint_claims) (asking (first ∷ [])) h

abbrev one_claim : History
one_claim = by 0 (claim first) ∷ []

abbrev all_claims : History
all_claims = one_claim ++ by 1 (claim second) ∷ by 2 (claim third) ∷ []

pub need_before_hints : eager_answer 9 [] ≡ Claimed first
need_before_hints = refl

pub then_the_next_repository : eager_answer 9 one_claim ≡ Claimed second
then_the_next_repository = refl

pub no_room_for_hints : eager_answer 1 one_claim ≡ NoneNow
no_room_for_hints = refl

pub no_fourth_repository : eager_answer 9 all_claims ≡ NoneNow
no_fourth_repository = refl

pub hint_leaves_the_need : eager_answer 9 (all_claims ++ by 1 (arrive second Absent) ∷ []) ≡ NoneNow
hint_leaves_the_need = refl

pub over_without_the_hints : eager_answer 9 (all_claims ++ by 0 (arrive first Absent) ∷ []) ≡ Over
over_without_the_hints = refl

-- What keeps the cache faithful to a world.
use Rattle.std.proofs.Common.{ℕ, ◌≡◌, Bool, true, false, cond, List, Option, Some, None, refl, sym, ap, subst, ◌∙◌, length}
use Rattle.std.specs.Prelude.{nat_lt}
use Rattle.cache_images.specs.Sound.{IsUrlOf}
use Rattle.cache_layout.specs.Addresses.{IsAddress}
use Rattle.cache_layout.specs.Names.{name_of}
use Rattle.cache_store.specs.Contents.{HasContent, IsRecorded, PublishesBytes}
use Rattle.cache_store.specs.Kept.{IsAbsentIn}
use Rattle.cache_store.specs.Stands.{IsUnchanged, disk_of, parts_of}
use Rattle.cache_store.specs.declared.store.Store.{Store}
use Rattle.digest_check.specs.Digests.{digests_of}
use Rattle.digest_check.specs.KeyAnswers.{Held, answer_at, checked, of_bytes, unless_damaged}
use Rattle.disk_base.specs.Names.{Names}
use Rattle.file_answers.specs.Demands.{damage_by, demand_of, judged}
use Rattle.file_answers.specs.declared.demand.Demand.{Demand}
use Rattle.hex.specs.Hex.{IsBytes}
use Rattle.res_base.specs.Paths.{url_at}
use Rattle.res_base.specs.World.{at}
use Rattle.res_base.specs.declared.reading.Answer.TheVariants.{Absent, Bytes, TooLarge}
use Rattle.res_base.specs.declared.reading.Check.{Check}
use Rattle.res_base.specs.declared.reading.Damage.{Damage}
use Rattle.res_base.specs.declared.world.WorldRow.{WorldRow}
use Rattle.file_fetch.specs.Stores.{IsSealedAlone}
use Rattle.file_fetch.specs.Worlds.{IsWorldsFile}

-- ---- one URL of a name

abbrev pub AreApart : Type 0
AreApart = (address path other_address other_path : List ℕ) → IsBytes (url_at address path)
    → IsBytes (url_at other_address other_path) → IsAddress address → IsAddress other_address
    → name_of (url_at address path) ≡ name_of (url_at other_address other_path)
    → url_at address path ≡ url_at other_address other_path

one_url : (name url other : List ℕ) → AreApart → IsUrlOf name url → IsUrlOf name other → url ≡ other
one_url name url other apart a b =
    a.whole
    ∙ (apart a.address a.path b.address b.path (subst IsBytes a.whole a.bytes) (subst IsBytes b.whole b.bytes) a.reads
    b.reads (ap name_of (sym a.whole) ∙ (a.named ∙ (sym b.named ∙ ap name_of b.whole))) ∙ sym b.whole)

pub file_of : (w : List WorldRow) (name url bytes : List ℕ) (checks : List Check) → AreApart → IsUrlOf name url
    → at w url ≡ Some bytes → checked (at w) url bytes checks ≡ Bytes bytes → IsWorldsFile w name bytes checks
file_of w name url bytes checks apart named is accepted other also =
    let same : url ≡ other = one_url name url other apart named also in (
      subst (λ (u : List ℕ). at w u ≡ Some bytes) same is,
      subst (λ (u : List ℕ). checked (at w) u bytes checks ≡ Bytes bytes) same accepted,
    )

pub absent_of : (w : List WorldRow) (name url : List ℕ) → AreApart → IsUrlOf name url → at w url ≡ None
    → IsAbsentIn w name
absent_of w name url apart named is other also =
    subst (λ (u : List ℕ). at w u ≡ None) (one_url name url other apart named also) is

-- ---- answers that come from bytes

abbrev pub AreJudged : Type 0
AreJudged = (held : Held) (url bytes : List ℕ) (list : List Check)
    → judged (demand_of held url list) bytes ≡ checked held url bytes list

unless_same : (damage : Option Damage) (all bytes : List ℕ) → unless_damaged damage all ≡ Bytes bytes → all ≡ bytes
unless_same None all bytes e = cc
unless_same (Some damage) all bytes e = let no : ⊥ = cc in absurd no

unless_there : (damage : Option Damage) (all : List ℕ) → unless_damaged damage all ≡ Absent → ⊥
unless_there None all e = let no : ⊥ = cc in no
unless_there (Some damage) all e = let no : ⊥ = cc in no

pub record AnswersBytes (held : Held) (list : List Check) (url bytes : List ℕ) : Type 0 where
  pub is : held url ≡ Some bytes
  pub accepted : checked held url bytes list ≡ Bytes bytes

pub bytes_at : (held : Held) (list : List Check) (limit : ℕ) (url bytes : List ℕ) → AreJudged
    → answer_at held list limit url ≡ Bytes bytes → AnswersBytes held list url bytes
bytes_at held list limit url bytes law e = by (held url) refl e
  where
    of_some : (all : List ℕ) → held url ≡ Some all → checked held url all list ≡ Bytes bytes
        → AnswersBytes held list url bytes
    of_some all is k =
        let same : all ≡ bytes = unless_same (damage_by (demand_of held url list) (digests_of all)) all bytes
        (law held url all list ∙ k) in
        record {
          is = is ∙ ap Some same;
          accepted = subst (λ (b : List ℕ). checked held url b list ≡ Bytes bytes) same k;
        }

    within : (past : Bool) (all : List ℕ) → held url ≡ Some all → cond past TooLarge (checked held url all list) ≡ Bytes bytes
        → AnswersBytes held list url bytes
    within true all is k = let no : ⊥ = cc in absurd no
    within false all is k = of_some all is k

    by : (o : Option (List ℕ)) → held url ≡ o → of_bytes held list limit url o ≡ Bytes bytes → AnswersBytes held list url bytes
    by None is k = let no : ⊥ = cc in absurd no
    by (Some all) is k = within (nat_lt limit (length all)) all is k

pub absent_answer : (held : Held) (list : List Check) (limit : ℕ) (url : List ℕ) → AreJudged
    → answer_at held list limit url ≡ Absent → held url ≡ None
absent_answer held list limit url law e = by (held url) refl e
  where
    within : (past : Bool) (all : List ℕ) → cond past TooLarge (checked held url all list) ≡ Absent → ⊥
    within true all k = let no : ⊥ = cc in no
    within false all k =
        unless_there (damage_by (demand_of held url list) (digests_of all)) all (law held url all list ∙ k)

    by : (o : Option (List ℕ)) → held url ≡ o → of_bytes held list limit url o ≡ Absent → held url ≡ None
    by None is k = is
    by (Some all) is k = absurd (within (nat_lt limit (length all)) all k)

-- bytes that are as demanded
pub accepted_by : (held : Held) (list : List Check) (url all : List ℕ) (demand : Demand) → AreJudged
    → demand ≡ demand_of held url list → None ≡ damage_by demand (digests_of all)
    → checked held url all list ≡ Bytes all
accepted_by held list url all demand law is none =
    sym (law held url all list)
    ∙ (ap (λ (d : Demand). judged d all) (sym is) ∙ ap (λ (d : Option Damage). unless_damaged d all) (sym none))

-- ---- the store

module _ {D : Type 0} (told : D → Option Names) where
  pub publishes : (w : List WorldRow) (store : Store D) (number : ℕ) (name bytes : List ℕ) (checks : List Check) (moment : ℕ)
      → IsSealedAlone (parts_of store) number name → HasContent told (disk_of store) number bytes
      → IsRecorded told (disk_of store) name checks moment → IsWorldsFile w name bytes checks
      → PublishesBytes told w store number
  publishes w store number name bytes checks moment s content recorded file = record {
    name = name;
    bytes = bytes;
    checks = checks;
    moment = moment;
    sealed = (s.part, s.there, s.sealed);
    content = content;
    recorded = recorded;
    worlds = file;
  }

  pub same_content : (old new : Store D) (number : ℕ) (all : List ℕ) → IsUnchanged old new
      → HasContent told (disk_of old) number all → HasContent told (disk_of new) number all
  same_content old new number all same h = subst (λ (d : D). HasContent told d number all) (sym same.disk) h

-- What the cache has is the world's, where it is faithful to that world.
use Rattle.std.proofs.Common.{ℕ, ◌≡◌, ◌&&◌, Bool, true, false, cond, List, [], ◌∷◌, Option, Some, None, refl, sym, ap, subst, ◌∙◌, length, arith}
use Rattle.std.specs.Prelude.{nat_eq, nat_lt, option_and_then}
use Rattle.std.specs.Option.{option_eq}
use Rattle.std.proofs.lemmas.Bool.{and_parts, eqb-true}
use Rattle.answer_reading.specs.Readings.{reading_of}
use Rattle.cache_images.proofs.Shown.{read_image}
use Rattle.cache_images.specs.Places.{IsDataName, gone_name, record_name}
use Rattle.cache_images.specs.Sound.{IsUrlOf}
use Rattle.cache_layout.specs.Readings.{gone_in, record_in}
use Rattle.cache_layout.specs.declared.record.Found.{Found}
use Rattle.cache_layout.specs.declared.record.Found.TheVariants.{Broken, Gone, Whole}
use Rattle.cache_layout.specs.declared.record.Record.{Record}
use Rattle.cache_policy.specs.Decisions.{check_number, checks_eq}
use Rattle.cache_policy.specs.declared.Decision.TheVariants.{Use}
use Rattle.cache_reads.specs.Finds.{absence_found, data_found, found_of, measure_of, measured, same_measure}
use Rattle.digest_check.specs.KeyAnswers.{checked, of_bytes, within_limit}
use Rattle.disk_base.specs.Names.{Names, read_name}
use Rattle.pool_rules.specs.Plans.{limit_in, url_in}
use Rattle.pool_rules.specs.Worlds.{answer_in}
use Rattle.pool_rules.specs.declared.plan.Plan.{Plan}
use Rattle.res_base.specs.Names.{role_eq, text_eq}
use Rattle.res_base.specs.World.{at}
use Rattle.res_base.specs.declared.key.FileKey.{FileKey}
use Rattle.res_base.specs.declared.key.Role.{Role}
use Rattle.res_base.specs.declared.key.Role.TheVariants.{Pom, Listing, Artifact}
use Rattle.res_base.specs.declared.reading.Answer.TheVariants.{Absent, Bytes, Stored, TooLarge}
use Rattle.res_base.specs.declared.reading.Check.{Check}
use Rattle.res_base.specs.declared.reading.Check.TheVariants.{Sha1, Md5, Sha256, NoCheck}
use Rattle.res_base.specs.declared.world.WorldRow.{WorldRow}
use Rattle.file_fetch.proofs.Deciding.{used_same}
use Rattle.file_fetch.specs.Decided.{IsFoundIn, decided, used_of}
use Rattle.file_fetch.specs.Worlds.{IsFaithfulTo, IsWorldsReading}

-- ---- lists of checks

same_check : (a b : Check) → check_number a ≡ check_number b → a ≡ b
same_check Sha1 Sha1 e = refl
same_check Md5 Md5 e = refl
same_check Sha256 Sha256 e = refl
same_check NoCheck NoCheck e = refl
same_check Sha1 Md5 e = absurd (omega (arith, e))
same_check Sha1 Sha256 e = absurd (omega (arith, e))
same_check Sha1 NoCheck e = absurd (omega (arith, e))
same_check Md5 Sha1 e = absurd (omega (arith, e))
same_check Md5 Sha256 e = absurd (omega (arith, e))
same_check Md5 NoCheck e = absurd (omega (arith, e))
same_check Sha256 Sha1 e = absurd (omega (arith, e))
same_check Sha256 Md5 e = absurd (omega (arith, e))
same_check Sha256 NoCheck e = absurd (omega (arith, e))
same_check NoCheck Sha1 e = absurd (omega (arith, e))
same_check NoCheck Md5 e = absurd (omega (arith, e))
same_check NoCheck Sha256 e = absurd (omega (arith, e))

same_checks : (xs ys : List Check) → checks_eq xs ys ≡ true → xs ≡ ys
same_checks [] [] e = refl
same_checks [] (b ∷ ys) e = let no : ⊥ = cc in absurd no
same_checks (a ∷ xs) [] e = let no : ⊥ = cc in absurd no
same_checks (a ∷ xs) (b ∷ ys) e =
    let both = and_parts (nat_eq (check_number a) (check_number b)) (checks_eq xs ys) e in
    let first : a ≡ b = same_check a b (eqb-true (check_number a) (check_number b) both.0) in
    let rest : xs ≡ ys = same_checks xs ys both.1 in
    cc

-- data that is used has the plan's checks
used_checks : (plan : Plan) (key : FileKey) (entry : Record) → decided plan key (Whole entry) ≡ Use
    → entry.checks ≡ plan.checks
used_checks plan key entry e = same_checks entry.checks plan.checks (used_same plan key entry e)

-- ---- whole data

-- the bytes, and the line of their record
record HasData (data_bytes line : Option (List ℕ)) (entry : Record) : Type 0 where
  bytes : List ℕ
  is : data_bytes ≡ Some bytes
  text : List ℕ
  line_is : line ≡ Some text
  reads : record_in text ≡ Some entry
  size : entry.length ≡ length bytes

unfound : (absent : Option ℕ) (entry : Record) → absence_found absent ≡ Whole entry → ⊥
unfound None entry e = let no : ⊥ = cc in no
unfound (Some moment) entry e = let no : ⊥ = cc in no

same_size : (entry : Record) (bytes : List ℕ) → same_measure (measure_of entry) (measured entry.sha256 bytes) ≡ true
    → entry.length ≡ length bytes
same_size entry bytes e =
    let a = and_parts (text_eq (measure_of entry).sha1 (measured entry.sha256 bytes).sha1)
    (option_eq text_eq (measure_of entry).sha256 (measured entry.sha256 bytes).sha256
    && nat_eq (measure_of entry).length (measured entry.sha256 bytes).length) e in
    let b = and_parts (option_eq text_eq (measure_of entry).sha256 (measured entry.sha256 bytes).sha256)
    (nat_eq (measure_of entry).length (measured entry.sha256 bytes).length) a.1 in
    eqb-true entry.length (length bytes) b.1

entry_of : (bytes text : List ℕ) (o : Option Record) (entry : Record) → record_in text ≡ o
    → data_found o bytes ≡ Whole entry → HasData (Some bytes) (Some text) entry
entry_of bytes text None entry r e = let no : ⊥ = cc in absurd no
entry_of bytes text (Some one) entry r e = by (same_measure (measure_of one) (measured one.sha256 bytes)) refl e
  where
    by : (b : Bool) → same_measure (measure_of one) (measured one.sha256 bytes) ≡ b
        → cond b (Whole one) (Broken (Some (measure_of one)) (measured one.sha256 bytes)) ≡ Whole entry
        → HasData (Some bytes) (Some text) entry
    by true is h =
        let same : one ≡ entry = cc in
        record {
          bytes = bytes;
          is = refl;
          text = text;
          line_is = refl;
          reads = r ∙ ap Some same;
          size = subst (λ (it : Record). it.length ≡ length bytes) same (same_size one bytes is);
        }
    by false is h = let no : ⊥ = cc in absurd no

data_of : (o line absent : Option (List ℕ)) (entry : Record) → found_of o line absent ≡ Whole entry → HasData o line entry
data_of None line absent entry e = absurd (unfound (option_and_then gone_in absent) entry e)
data_of (Some bytes) None absent entry e = let no : ⊥ = cc in absurd no
data_of (Some bytes) (Some text) absent entry e = entry_of bytes text (record_in text) entry refl e

module _ (w : List WorldRow) (plan : Plan) (key : FileKey) where
  reading_used : (limit size : ℕ) (role : Role) (bytes : List ℕ) → size ≡ length bytes
      → reading_of role (used_of limit role size bytes) ≡ reading_of role (within_limit limit bytes (Bytes bytes))
  reading_used limit size role bytes e = rw e (by (nat_lt limit (length bytes)) role)
    where
      by : (past : Bool) (r : Role)
          → reading_of r (cond past TooLarge (cond (role_eq r Artifact) (Stored (length bytes)) (Bytes bytes)))
          ≡ reading_of r (cond past TooLarge (Bytes bytes))
      by true r = refl
      by false Pom = refl
      by false Listing = refl
      by false Artifact = refl

  -- a world that has these bytes, accepted by the plan's checks
  answered : (bytes : List ℕ) → at w (url_in plan key) ≡ Some bytes
      → checked (at w) (url_in plan key) bytes plan.checks ≡ Bytes bytes
      → answer_in plan w key ≡ within_limit (limit_in plan key) bytes (Bytes bytes)
  answered bytes is accepted =
      ap (of_bytes (at w) plan.checks (limit_in plan key) (url_in plan key)) is
      ∙ ap (within_limit (limit_in plan key) bytes) accepted

  pub record UsesWhole (told : Option Names) (name : List ℕ) (entry : Record) : Type 0 where
    pub names : Names
    pub tells : told ≡ Some names
    pub bytes : List ℕ
    pub reads : read_name names name ≡ Some bytes
    pub same : IsWorldsReading w plan key (used_of (limit_in plan key) key.role entry.length bytes)

  pub whole_used : (told : Option Names) (name : List ℕ) (found : Found) (entry : Record) → IsFaithfulTo w told
      → IsDataName name → IsUrlOf name (url_in plan key) → IsFoundIn told name found → found ≡ Whole entry
      → decided plan key found ≡ Use → UsesWhole told name entry
  whole_used told name found entry faith named url is whole used =
      let i = read_name faith.names in
      let has = data_of (i name) (i (record_name name)) (i (gone_name name)) entry
      (sym (is.is faith.names faith.tells) ∙ whole) in
      let file = (faith.faithful i (read_image faith.names) name named).0 has.bytes has.is (url_in plan key) url in
      let accepted = file.1 has.text entry has.line_is has.reads in
      let checks = used_checks plan key entry (subst (λ (f : Found). decided plan key f ≡ Use) whole used) in
      let by_plan : checked (at w) (url_in plan key) has.bytes plan.checks ≡ Bytes has.bytes =
      subst (λ (list : List Check). checked (at w) (url_in plan key) has.bytes list ≡ Bytes has.bytes) checks accepted in
      record {
        names = faith.names;
        tells = faith.tells;
        bytes = has.bytes;
        reads = has.is;
        same =
            reading_used (limit_in plan key) entry.length key.role has.bytes has.size
            ∙ ap (reading_of key.role) (sym (answered has.bytes file.0 by_plan));
      }

  -- ---- absence

  gone_line : (o line absent : Option (List ℕ)) (moment : ℕ) → found_of o line absent ≡ Gone moment
      → (text : List ℕ) × (absent ≡ Some text) × (gone_in text ≡ Some moment)
  gone_line (Some bytes) line absent moment e = absurd (no_data (option_and_then record_in line) e)
    where
      no_data : (r : Option Record) → data_found r bytes ≡ Gone moment → ⊥
      no_data None h = let no : ⊥ = cc in no
      no_data (Some one) h = by (same_measure (measure_of one) (measured one.sha256 bytes)) h
        where
          by : (b : Bool) → cond b (Whole one) (Broken (Some (measure_of one)) (measured one.sha256 bytes)) ≡ Gone moment → ⊥
          by true k = let no : ⊥ = cc in no
          by false k = let no : ⊥ = cc in no
  gone_line None line None moment e = let no : ⊥ = cc in absurd no
  gone_line None line (Some text) moment e = (text, refl, by (gone_in text) refl e)
    where
      by : (m : Option ℕ) → gone_in text ≡ m → absence_found m ≡ Gone moment → gone_in text ≡ Some moment
      by None is h = let no : ⊥ = cc in absurd no
      by (Some one) is h = let same : one ≡ moment = cc in is ∙ ap Some same

  pub gone_used : (told : Option Names) (name : List ℕ) (found : Found) (moment : ℕ) → IsFaithfulTo w told
      → IsDataName name → IsUrlOf name (url_in plan key) → IsFoundIn told name found → found ≡ Gone moment
      → IsWorldsReading w plan key Absent
  gone_used told name found moment faith named url is gone =
      let i = read_name faith.names in
      let line = gone_line (i name) (i (record_name name)) (i (gone_name name)) moment
      (sym (is.is faith.names faith.tells) ∙ gone) in
      let none : at w (url_in plan key) ≡ None =
      (faith.faithful i (read_image faith.names) name named).1 line.0 line.1 (url_in plan key) moment url line.2 in
      ap (reading_of key.role) (sym (ap (of_bytes (at w) plan.checks (limit_in plan key) (url_in plan key)) none))

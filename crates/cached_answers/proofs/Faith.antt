-- What is found in a faithful cache is what the world has.
use Rattle.std.proofs.Common.{◌≡◌, ◌≢◌, ℕ, zero, suc, Bool, true, false, cond, ◌&&◌, List, [], ◌∷◌, Option, Some, None, refl, sym, ◌∙◌, ap, subst, true≢false, arith, ltb-true}
use Rattle.std.specs.Prelude.{nat_lt, option_and_then}
use Rattle.std.specs.List.{list_all}
use Rattle.std.specs.Option.{option_map}
use Rattle.std.proofs.lemmas.Bool.{and_parts}
use Rattle.std.proofs.lemmas.Option.{same_Some}
use Rattle.answer_reading.specs.Readings.{reading_of}
use Rattle.cache_images.specs.Places.{IsDataName, gone_name, record_name}
use Rattle.cache_images.specs.Sound.{IsFaithful, IsUrlOf}
use Rattle.cache_layout.proofs.Escapes.{data_of}
use Rattle.cache_layout.specs.Addresses.{is_address}
use Rattle.cache_layout.specs.Readings.{gone_in, record_in}
use Rattle.cache_layout.specs.declared.record.Found.{Found}
use Rattle.cache_layout.specs.declared.record.Found.TheVariants.{Broken, Gone, Nothing, Whole}
use Rattle.cache_layout.specs.declared.record.Record.{Record}
use Rattle.cache_policy.specs.declared.Decision.TheVariants.{Use}
use Rattle.cache_reads.specs.Finds.{absence_found, data_found, found_of, found_in, measure_of, measured, same_measure}
use Rattle.cached_answers.proofs.Tables.{if_used_some, same_checks, unused_none, used_answer, used_checks}
use Rattle.cached_answers.specs.Caches.{address_at, answer_of, cached, decided, decided_at, found_at, has_name, if_used, name_at, used_at}
use Rattle.digest_check.specs.KeyAnswers.{checked, of_bytes, within_limit}
use Rattle.disk_base.specs.Images.{Image}
use Rattle.hex.specs.Hex.{IsBytes}
use Rattle.link_base.specs.Links.{Rows}
use Rattle.pool_rules.specs.Plans.{is_changing, limit_in, url_in}
use Rattle.pool_rules.specs.Worlds.{answer_in, whole_of}
use Rattle.pool_rules.specs.declared.plan.Plan.{Plan}
use Rattle.res_base.specs.World.{at}
use Rattle.res_base.specs.declared.key.FileKey.{FileKey}
use Rattle.res_base.specs.declared.reading.Answer.{Answer}
use Rattle.res_base.specs.declared.reading.Answer.TheVariants as answers
use Rattle.res_base.specs.declared.reading.Check.{Check}
use Rattle.res_base.specs.declared.reading.Reading.{Reading}

-- ---- bytes

bytes_from : (xs : List ℕ) → list_all (λ b. nat_lt b 256) xs ≡ true → IsBytes xs
bytes_from [] all i = omega arith
bytes_from (x ∷ xs) all zero = ltb-true x 256 (and_parts (nat_lt x 256) (list_all (λ b. nat_lt b 256) xs) all).0
bytes_from (x ∷ xs) all (suc i) = bytes_from xs (and_parts (nat_lt x 256) (list_all (λ b. nat_lt b 256) xs) all).1 i

-- ---- what was found

-- data that is whole, beside the line of its record
pub record IsWholeOf (entry : Record) (file line : Option (List ℕ)) : Type 0 where
  pub bytes : List ℕ
  pub text : List ℕ
  pub there : file ≡ Some bytes
  pub beside : line ≡ Some text
  pub reads : record_in text ≡ Some entry

entry_in : Record → Found → Record
entry_in other (Whole entry) = entry
entry_in other (Gone moment) = other
entry_in other Nothing = other
entry_in other (Broken wanted got) = other

same_entry : (a b : Record) → Whole a ≡ Whole b → a ≡ b
unfolding entry_in
same_entry a b e = ap (entry_in a) e

is_whole : Found → Bool
is_whole (Whole entry) = true
is_whole (Gone moment) = false
is_whole Nothing = false
is_whole (Broken wanted got) = false

absence_other : (o : Option ℕ) (entry : Record) → absence_found o ≡ Whole entry → ⊥
unfolding is_whole
absence_other None entry e = true≢false (sym (ap is_whole e))
absence_other (Some moment) entry e = true≢false (sym (ap is_whole e))

data_whole : (o : Option Record) (bytes : List ℕ) (entry : Record) → data_found o bytes ≡ Whole entry → o ≡ Some entry
unfolding is_whole
data_whole None bytes entry e = absurd (true≢false (sym (ap is_whole e)))
data_whole (Some one) bytes entry e = by (same_measure (measure_of one) (measured one.sha256 bytes)) e
  where
    by : (b : Bool) → cond b (Whole one) (Broken (Some (measure_of one)) (measured one.sha256 bytes)) ≡ Whole entry
        → Some one ≡ Some entry
    by true is = ap Some (same_entry one entry is)
    by false is = absurd (true≢false (sym (ap is_whole is)))

line_of : (line : Option (List ℕ)) (entry : Record) → option_and_then record_in line ≡ Some entry
    → (text : List ℕ) × (line ≡ Some text) × (record_in text ≡ Some entry)
line_of None entry e = cc
line_of (Some text) entry e = (text, refl, e)

whole_of_found : (file line absent : Option (List ℕ)) (entry : Record) → found_of file line absent ≡ Whole entry
    → IsWholeOf entry file line
whole_of_found None line absent entry e = absurd (absence_other (option_and_then gone_in absent) entry e)
whole_of_found (Some bytes) line absent entry e =
    let l = line_of line entry (data_whole (option_and_then record_in line) bytes entry e) in
    record { bytes = bytes; text = l.0; there = refl; beside = l.1; reads = l.2 }

-- an absence, with its line
pub record IsGoneOf (moment : ℕ) (gone : Option (List ℕ)) : Type 0 where
  pub text : List ℕ
  pub there : gone ≡ Some text
  pub reads : gone_in text ≡ Some moment

is_gone : Found → Bool
is_gone (Whole entry) = false
is_gone (Gone moment) = true
is_gone Nothing = false
is_gone (Broken wanted got) = false

moment_in : Found → Option ℕ
moment_in (Whole entry) = None
moment_in (Gone moment) = Some moment
moment_in Nothing = None
moment_in (Broken wanted got) = None

absence_gone : (o : Option ℕ) (moment : ℕ) → absence_found o ≡ Gone moment → o ≡ Some moment
unfolding moment_in
absence_gone None moment e = ap moment_in e
absence_gone (Some one) moment e = ap moment_in e

data_other : (o : Option Record) (bytes : List ℕ) (moment : ℕ) → data_found o bytes ≡ Gone moment → ⊥
unfolding is_gone
data_other None bytes moment e = true≢false (sym (ap is_gone e))
data_other (Some one) bytes moment e = by (same_measure (measure_of one) (measured one.sha256 bytes)) e
  where
    by : (b : Bool) → cond b (Whole one) (Broken (Some (measure_of one)) (measured one.sha256 bytes)) ≡ Gone moment → ⊥
    by true is = true≢false (sym (ap is_gone is))
    by false is = true≢false (sym (ap is_gone is))

text_of : (gone : Option (List ℕ)) (moment : ℕ) → option_and_then gone_in gone ≡ Some moment → IsGoneOf moment gone
text_of None moment e = cc
text_of (Some text) moment e = record { text = text; there = refl; reads = e }

gone_of_found : (file line absent : Option (List ℕ)) (moment : ℕ) → found_of file line absent ≡ Gone moment → IsGoneOf moment absent
gone_of_found None line absent moment e = text_of absent moment (absence_gone (option_and_then gone_in absent) moment e)
gone_of_found (Some bytes) line absent moment e = absurd (data_other (option_and_then record_in line) bytes moment e)

-- ---- what the world answers

module _ (plan : Plan) (i : Image) (w : Rows) (faithful : IsFaithful w i) (key : FileKey) (named : has_name plan key ≡ true) where
  abbrev name : List ℕ
  name = name_at plan key

  abbrev url : List ℕ
  url = url_in plan key

  is_url : IsUrlOf (name_at plan key) (url_in plan key)
  is_url =
      let parts = and_parts (is_address (address_at plan key)) (list_all (λ byte. nat_lt byte 256) (url_in plan key)) named in
      record {
        address = address_at plan key;
        path = key.path;
        whole = refl;
        reads = parts.0;
        bytes = bytes_from (url_in plan key) parts.1;
        named = refl;
      }

  is_data : IsDataName (name_at plan key)
  is_data = data_of (url_in plan key) (name_at plan key) refl

  data_true : (entry : Record) → found_at plan key i ≡ Whole entry → decided plan key (Whole entry) ≡ Use → (got : Answer)
      → answer_of plan key (Whole entry) (i (name_at plan key)) ≡ Some got → answer_in plan w key ≡ got
  data_true entry found used got is =
      let d = whole_of_found (i name) (i (record_name name)) (i (gone_name name)) entry found in
      let world = (faithful name is_data).0 d.bytes d.there url is_url in
      let same : entry.checks ≡ plan.checks = same_checks entry.checks plan.checks (used_checks plan.mode (is_changing key) entry plan.checks plan.moment plan.ttl used) in
      let accepts : checked (at w) url d.bytes plan.checks ≡ answers.Bytes d.bytes =
      subst (λ cs. checked (at w) url d.bytes cs ≡ answers.Bytes d.bytes) same (world.1 d.text entry d.beside d.reads) in
      ap (of_bytes (at w) plan.checks (limit_in plan key) url) world.0
      ∙ ap (within_limit (limit_in plan key) d.bytes) accepts
      ∙ same_Some (within_limit (limit_in plan key) d.bytes (answers.Bytes d.bytes)) got
      (ap (answer_of plan key (Whole entry)) (sym d.there) ∙ is)

  gone_true : (moment : ℕ) → found_at plan key i ≡ Gone moment → answer_in plan w key ≡ answers.Absent
  gone_true moment found =
      let g = gone_of_found (i name) (i (record_name name)) (i (gone_name name)) moment found in
      ap (of_bytes (at w) plan.checks (limit_in plan key) url) ((faithful name is_data).1 g.text g.there url moment is_url g.reads)

  found_true : (found : Found) → found_at plan key i ≡ found → decided plan key found ≡ Use → (got : Answer)
      → answer_of plan key found (i (name_at plan key)) ≡ Some got → answer_in plan w key ≡ got
  found_true (Whole entry) is used got e = data_true entry is used got e
  found_true (Gone moment) is used got e = gone_true moment is ∙ same_Some answers.Absent got e
  found_true Nothing is used got e = cc
  found_true (Broken wanted measure) is used got e = cc

  pub used_true : (got : Answer) → used_at plan key i ≡ Some got → answer_in plan w key ≡ got
  used_true got e =
      let used = if_used_some (decided_at plan key i) (answer_of plan key (found_at plan key i) (i name)) got e in
      found_true (found_at plan key i) refl used got
      (sym (used_answer (decided_at plan key i) (answer_of plan key (found_at plan key i) (i name)) used) ∙ e)

-- all that a faithful cache says
map_some : (f : Answer → Reading) (o : Option Answer) (reading : Reading) → option_map f o ≡ Some reading
    → (got : Answer) × (o ≡ Some got) × (Some (f got) ≡ Some reading)
map_some f None reading e = cc
map_some f (Some got) reading e = (got, refl, e)

pub cached_true : (plan : Plan) (i : Image) (w : Rows) → IsFaithful w i → (key : FileKey) (reading : Reading)
    → cached plan i key ≡ Some reading → whole_of plan w key ≡ Some reading
cached_true plan i w faithful key reading is = by (has_name plan key) refl is
  where
    by : (b : Bool) → has_name plan key ≡ b
        → cond b (option_map (reading_of key.role) (used_at plan key i)) None ≡ Some reading → whole_of plan w key ≡ Some reading
    by true named e =
        let m = map_some (reading_of key.role) (used_at plan key i) reading e in
        ap (λ a. Some (reading_of key.role a)) (used_true plan i w faithful key named m.0 m.1) ∙ m.2
    by false named e = cc

pub unsaid : (plan : Plan) (i : Image) (key : FileKey) → decided_at plan key i ≢ Use → cached plan i key ≡ None
unsaid plan i key never = by (has_name plan key)
  where
    by : (b : Bool) → cond b (option_map (reading_of key.role) (used_at plan key i)) None ≡ None
    by true =
        ap (option_map (reading_of key.role))
        (unused_none (decided_at plan key i) (answer_of plan key (found_at plan key i) (i (name_at plan key))) never)
    by false = refl

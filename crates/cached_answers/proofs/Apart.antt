-- What a cache says depends on its files alone, and offline on no moment.
use Rattle.std.proofs.Common.{◌≡◌, ℕ, Bool, true, false, cond, not, ◌||◌, List, ◌++◌, Option, None, refl, ◌∙◌, ap}
use Rattle.std.specs.Prelude.{codes, drop, nat_eq}
use Rattle.std.specs.List.{starts_with}
use Rattle.std.specs.Option.{option_map}
use Rattle.answer_reading.specs.Readings.{reading_of}
use Rattle.cache_images.specs.Places.{gone_name, record_name}
use Rattle.cache_layout.specs.Names.{escaped, name_of}
use Rattle.cache_layout.specs.declared.record.Found.{Found}
use Rattle.cache_layout.specs.declared.record.Found.TheVariants.{Broken, Gone, Nothing, Whole}
use Rattle.cache_policy.specs.Decisions.{checks_eq, decision}
use Rattle.cache_policy.specs.declared.Decision.{Decision}
use Rattle.cache_policy.specs.declared.Decision.TheVariants.{Ask}
use Rattle.cache_policy.specs.declared.Mode.{Mode}
use Rattle.cache_policy.specs.declared.Mode.TheVariants.{Offline}
use Rattle.cache_reads.specs.Finds.{found_of}
use Rattle.cached_answers.specs.Caches.{answer_of, cached, decided, found_at, has_name, if_used, name_at}
use Rattle.disk_base.specs.Images.{Image}
use Rattle.pool_rules.specs.Plans.{is_changing, url_in}
use Rattle.pool_rules.specs.declared.plan.Plan.{Plan}
use Rattle.res_base.specs.declared.key.FileKey.{FileKey}
use Rattle.res_base.specs.declared.reading.Answer.{Answer}
use Rattle.res_base.specs.declared.reading.Check.{Check}

abbrev is_part : List ℕ → Bool
is_part name = starts_with nat_eq name (codes "parts/")

-- no file of a key is among the parts
data_apart : (url : List ℕ) → is_part (name_of url) ≡ false
data_apart url = by (starts_with nat_eq url (codes "http://")) (starts_with nat_eq url (codes "file:/"))
  where
    by : (a b : Bool) → is_part (cond a (codes "http/" ++ escaped (drop 7 url)) (cond b (codes "file/" ++ escaped (drop 6 url)) (codes "here/" ++ escaped (drop 5 url)))) ≡ false
    by true b = refl
    by false true = refl
    by false false = refl

record_apart : (name : List ℕ) → is_part (record_name name) ≡ false
record_apart name = refl

gone_apart : (name : List ℕ) → is_part (gone_name name) ≡ false
gone_apart name = refl

-- what is used of data, the line of its record and that of its absence
used_by : Plan → FileKey → Option (List ℕ) → Option (List ℕ) → Option (List ℕ) → Option Answer
used_by plan key data_bytes line absent =
    if_used (decided plan key (found_of data_bytes line absent))
    (answer_of plan key (found_of data_bytes line absent) data_bytes)

pub said_apart : (plan : Plan) (i j : Image) → ((name : List ℕ) → starts_with nat_eq name (codes "parts/") ≡ false → j name ≡ i name)
    → (key : FileKey) → cached plan j key ≡ cached plan i key
unfolding used_by
said_apart plan i j same key =
    let name = name_at plan key in
    let says : Option (List ℕ) → Option (List ℕ) → Option (List ℕ) → Option _ =
    λ d l a. cond (has_name plan key) (option_map (reading_of key.role) (used_by plan key d l a)) None in
    ap (λ d. says d (j (record_name name)) (j (gone_name name))) (same name (data_apart (url_in plan key)))
    ∙ ap (λ l. says (i name) l (j (gone_name name))) (same (record_name name) (record_apart name))
    ∙ ap (λ a. says (i name) (i (record_name name)) a) (same (gone_name name) (gone_apart name))

-- ---- offline

decides_same : (changing : Bool) (found : Found) (checks : List Check) (moment later ttl : ℕ)
    → decision Offline changing found checks later ttl ≡ decision Offline changing found checks moment ttl
decides_same changing (Whole entry) checks moment later ttl = by (checks_eq entry.checks checks) refl
  where
    by : (b : Bool) → checks_eq entry.checks checks ≡ b
        → decision Offline changing (Whole entry) checks later ttl ≡ decision Offline changing (Whole entry) checks moment ttl
    by true is = rw is refl
    by false is = rw is refl
decides_same changing (Gone since) checks moment later ttl = refl
decides_same changing Nothing checks moment later ttl = refl
decides_same changing (Broken wanted got) checks moment later ttl = refl

no_ask : (changing : Bool) (found : Found) (checks : List Check) (moment ttl : ℕ)
    → decision Offline changing found checks moment ttl ≡ Ask → ⊥
no_ask changing (Whole entry) checks moment ttl e = by (checks_eq entry.checks checks) refl
  where
    by : (b : Bool) → checks_eq entry.checks checks ≡ b → ⊥
    by true is = let h = rw is at e in let no : ⊥ = cc in no
    by false is = let h = rw is at e in let no : ⊥ = cc in no
no_ask changing (Gone since) checks moment ttl e = let no : ⊥ = cc in no
no_ask changing Nothing checks moment ttl e = let no : ⊥ = cc in no
no_ask changing (Broken wanted got) checks moment ttl e = let no : ⊥ = cc in no

pub asks_nobody : (mode : Mode) → mode ≡ Offline → (changing : Bool) (found : Found) (checks : List Check) (moment ttl : ℕ)
    → decision mode changing found checks moment ttl ≡ Ask → ⊥
asks_nobody mode off changing found checks moment ttl is = no_ask changing found checks moment ttl (rw off at is)

decides_later : (mode : Mode) → mode ≡ Offline → (changing : Bool) (found : Found) (checks : List Check) (moment later ttl : ℕ)
    → decision mode changing found checks later ttl ≡ decision mode changing found checks moment ttl
decides_later mode off changing found checks moment later ttl = rw off (decides_same changing found checks moment later ttl)

pub said_offline : (plan : Plan) (later : ℕ) (i : Image) (key : FileKey) → plan.mode ≡ Offline
    → cached (record plan { moment = later }) i key ≡ cached plan i key
said_offline plan later i key off =
    ap (λ (d : Decision). cond (has_name plan key) (option_map (reading_of key.role) (if_used d (answer_of plan key (found_at plan key i) (i (name_at plan key))))) None)
    (decides_later plan.mode off (is_changing key) (found_at plan key i) plan.checks plan.moment later plan.ttl)

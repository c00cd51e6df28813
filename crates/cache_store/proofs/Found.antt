-- What is found under a name.
use Rattle.std.proofs.Common.{ℕ, ◌≡◌, ◌&&◌, Bool, true, false, cond, List, [], Option, Some, None, IsSome, length, refl, sym, ap, ◌∙◌, subst, true≢false}
use Rattle.std.specs.Prelude.{IfSome, is_some, option_and_then}
use Rattle.std.specs.Option.{option_eq, option_map}
use Rattle.std.proofs.lemmas.Bool.{eq-eqb}
use Rattle.sha1.specs.Sha1.{sha1}
use Rattle.sha2.specs.Sha256.{sha256}
use Rattle.disk_base.proofs.Composed.{told_read}
use Rattle.disk_base.specs.Images.{Image}
use Rattle.disk_base.specs.Names.{IsBoundIn, Names, bytes_of, read_name}
use Rattle.disk_base.specs.Runs.{Ran}
use Rattle.disk_base.specs.declared.contents.Content.{Content}
use Rattle.res_base.specs.Names.{text_eq}
use Rattle.cache_images.proofs.Texts.{eq_self}
use Rattle.cache_images.specs.Places.{IsDataName, gone_name, record_name}
use Rattle.cache_images.specs.Sound.{HasRecord, IsSound, Measures}
use Rattle.cache_layout.specs.Readings.{gone_in, record_in}
use Rattle.cache_layout.specs.declared.record.Found.{Found}
use Rattle.cache_layout.specs.declared.record.Found.TheVariants.{Whole}
use Rattle.cache_layout.specs.declared.record.Record.{Record}
use Rattle.cache_store.specs.Bound.{has_data}
use Rattle.cache_reads.specs.Finds.{absence_found, data_found, found_in, found_of, is_broken, measure_of, measured, same_measure, second_of}

-- ---- over a sound image nothing is broken
and_true : (a b : Bool) → a ≡ true → b ≡ true → (a && b) ≡ true
and_true a b e f = rw (e, f) refl

same_text : (a b : List ℕ) → a ≡ b → text_eq a b ≡ true
same_text a b e = subst (λ (u : List ℕ). text_eq a u ≡ true) e (eq_self a)

same_second : (d : Option (List ℕ)) (bytes : List ℕ) → IfSome d (λ digest. digest ≡ sha256 bytes)
    → option_eq text_eq d (second_of (is_some d) bytes) ≡ true
same_second None bytes h = refl
same_second (Some digest) bytes h = same_text digest (sha256 bytes) h

measures_same : (entry : Record) (bytes : List ℕ) → Measures entry bytes
    → same_measure (measure_of entry) (measured entry.sha256 bytes) ≡ true
measures_same entry bytes m =
    and_true (text_eq entry.sha1 (sha1 bytes)) _ (same_text entry.sha1 (sha1 bytes) m.first)
    (and_true (option_eq text_eq entry.sha256 (second_of (is_some entry.sha256) bytes)) _
    (same_second entry.sha256 bytes m.second) (eq-eqb entry.length (length bytes) m.size))

whole_found : (b : Bool) (entry : Record) (other : Found) → b ≡ true → is_broken (cond b (Whole entry) other) ≡ false
whole_found true entry other e = refl
whole_found false entry other e = absurd (true≢false (sym e))

fits_found : (r : Option Record) (bytes : List ℕ) (entry : Record) → r ≡ Some entry → Measures entry bytes
    → is_broken (data_found r bytes) ≡ false
fits_found None bytes entry e m = absurd (cc)
fits_found (Some other) bytes entry e m =
    let same : entry ≡ other = cc in
    let measures = subst (λ (r : Record). Measures r bytes) same m in
    whole_found (same_measure (measure_of other) (measured other.sha256 bytes)) other _ (measures_same other bytes measures)

line_found : (l : Option (List ℕ)) (bytes : List ℕ) → HasRecord l bytes
    → is_broken (data_found (option_and_then record_in l) bytes) ≡ false
line_found None bytes h = absurd h
line_found (Some text) bytes h = fits_found (record_in text) bytes h.entry h.reads h.measures

absence_whole : (m : Option ℕ) → is_broken (absence_found m) ≡ false
absence_whole None = refl
absence_whole (Some moment) = refl

sound_case : (o l g : Option (List ℕ)) → ((bytes : List ℕ) → o ≡ Some bytes → HasRecord l bytes)
    → is_broken (found_of o l g) ≡ false
sound_case None l g has = absence_whole (option_and_then gone_in g)
sound_case (Some bytes) l g has = line_found l bytes (has bytes refl)

pub sound_found : (i : Image) (name : List ℕ) → IsDataName name → IsSound i → is_broken (found_in i name) ≡ false
sound_found i name named sound =
    sound_case (i name) (i (record_name name)) (i (gone_name name)) (sound name named).0

-- ---- a name under which data is found is bound
no_data : (m : Option ℕ) → has_data (absence_found m) ≡ true → ⊥
no_data None e = true≢false (sym e)
no_data (Some moment) e = true≢false (sym e)

data_case : (o l g : Option (List ℕ)) → has_data (found_of o l g) ≡ true → is_some o ≡ true
data_case None l g e = absurd (no_data (option_and_then gone_in g) e)
data_case (Some bytes) l g e = refl

some_bound : (o : Option Content) → is_some (option_map bytes_of o) ≡ true → IsSome o
some_bound None e = absurd (true≢false (sym e))
some_bound (Some c) e = refl

pub found_bound : {D : Type 0} (told : D → Option Names) (moment : D → ℕ) (since : D → ℕ → Image → Type 0) (old new : D)
    (name : List ℕ) (found : Found) → Ran told moment since [] old new
    → ((s : Names) → told old ≡ Some s → found ≡ found_in (read_name s) name) → has_data found ≡ true
    → IsBoundIn (told new) name
found_bound told moment since old new name found ran is has = record {
  bound = λ s f.
      let same = is s (sym (told_read told moment since old new ran) ∙ f) in
      some_bound (s name).present
      (data_case (read_name s name) (read_name s (record_name name)) (read_name s (gone_name name))
      (ap has_data (sym same) ∙ has));
}

-- A record that is written over another one, for a file that was read.
use Rattle.std.proofs.Common.{ℕ, ◌≡◌, ◌<◌, ◌≤◌, ◌++◌, ◌&&◌, Bool, true, false, cond, List, [], ◌∷◌, Option, Some, None, length, take, refl, sym, ap, ◌∙◌, subst, inl, inr, ⊎_elim, leb, arith, append-nil, length-append}
use Rattle.std.specs.Prelude.{option_and_then}
use Rattle.std.specs.Option.{option_map, option_eq}
use Rattle.std.proofs.lemmas.Bool.{eqb-true}
use Rattle.std.proofs.lemmas.Bool.Decides.{leb_tells}
use Rattle.std.proofs.lemmas.List.{take_all}
use Rattle.sha1.specs.Sha1.{sha1}
use Rattle.sha2.specs.Sha256.{sha256}
use Rattle.disk_base.proofs.Composed.{keeps}
use Rattle.disk_base.specs.Images.{Image, MayShow, Shows}
use Rattle.disk_base.specs.Names.{Names, after, bytes_of, read_name, run, settled, told_after}
use Rattle.disk_base.specs.Runs.{Done as AllDone, Ran}
use Rattle.disk_base.specs.declared.contents.Content.{Content}
use Rattle.disk_base.specs.declared.steps.DiskStep.TheVariants.{SyncNames}
use Rattle.digest_check.specs.KeyAnswers.{checked}
use Rattle.res_base.specs.Names.{text_eq}
use Rattle.res_base.specs.World.{at}
use Rattle.res_base.specs.declared.reading.Answer.TheVariants as answers
use Rattle.res_base.specs.declared.reading.Check.{Check}
use Rattle.res_base.specs.declared.world.WorldRow.{WorldRow}
use Rattle.cache_images.proofs.Along.{good_along}
use Rattle.cache_images.proofs.Frames.{run_kept, kept_present}
use Rattle.cache_images.proofs.Good.{from_images}
use Rattle.cache_images.proofs.Sealing.{put_leaves}
use Rattle.cache_images.proofs.Shown.{read_shown, settled_shows}
use Rattle.cache_images.proofs.Texts.{eq_true, is_record_part, part_not_data, part_not_record, record_not_data}
use Rattle.cache_images.specs.Along.{AllGood}
use Rattle.cache_images.specs.Leaves.{IsFirmly}
use Rattle.cache_images.specs.Places.{IsDataName, record_name, record_part_name}
use Rattle.cache_images.specs.Sequences.{upgrade_steps}
use Rattle.cache_images.specs.Sound.{AnyLine, HasItsRecord, IsGoneIn, IsWorlds, Measures, RecordFits}
use Rattle.cache_layout.specs.Readings.{gone_in, record_in}
use Rattle.cache_layout.specs.declared.record.Found.TheVariants.{Broken, Whole}
use Rattle.cache_layout.specs.declared.record.Record.{Record}
use Rattle.cache_store.proofs.Images.{upgrade_stay}
use Rattle.cache_store.proofs.Stood.{held}
use Rattle.cache_reads.specs.Finds.{absence_found, data_found, found_of, measure_of, measured, same_measure}
use Rattle.cache_store.specs.Kept.{AnyFile, KeepsImages}
use Rattle.cache_store.specs.Parts.{Parts, part_at}
use Rattle.cache_reads.specs.Pieces.{bytes_or_none}
use Rattle.cache_store.specs.Stands.{HoldsParts}
use Rattle.cache_reads.specs.Upgrades.{upgraded, whole_upgraded, with_second}
use Rattle.cache_store.specs.declared.part.Part.{Part}
use Rattle.cache_reads.specs.declared.planning.Upgraded.TheVariants.{Done}

-- a new record comes of whole data beside a record without a SHA-256
pub record Plans (o l : Option (List ℕ)) (newer : Record) : Type 0 where
  pub bytes : List ℕ
  pub text : List ℕ
  pub entry : Record
  pub has_data : o ≡ Some bytes
  pub has_line : l ≡ Some text
  pub reads : record_in text ≡ Some entry
  pub size : entry.length ≡ length bytes
  pub first : entry.sha1 ≡ sha1 bytes
  pub is : newer ≡ with_second (sha256 bytes) entry

both : (a b : Bool) → (a && b) ≡ true → (a ≡ true) × (b ≡ true)
both true b e = (refl, e)
both false b e = absurd (cc)

done_one : (a b : Record) → Done a ≡ Done b → b ≡ a
done_one a b e = cc

whole_case : (d : Option (List ℕ)) (entry newer : Record) (bytes : List ℕ) → whole_upgraded d entry bytes ≡ Done newer
    → newer ≡ with_second (sha256 bytes) entry
whole_case None entry newer bytes e = done_one (with_second (sha256 bytes) entry) newer e
whole_case (Some x) entry newer bytes e = absurd (cc)

not_absence : (m : Option ℕ) (newer : Record) → upgraded (absence_found m) [] ≡ Done newer → ⊥
not_absence None newer e = (cc)
not_absence (Some m) newer e = (cc)

module _ (bytes text : List ℕ) (newer : Record) where
  measure_case : (entry : Record) (b : Bool) → same_measure (measure_of entry) (measured entry.sha256 bytes) ≡ b
      → upgraded (cond b (Whole entry) (Broken (Some (measure_of entry)) (measured entry.sha256 bytes))) bytes ≡ Done newer
      → record_in text ≡ Some entry → Plans (Some bytes) (Some text) newer
  measure_case entry true e f reads =
      let one = both (text_eq entry.sha1 (sha1 bytes)) _ e in
      let two = both (option_eq text_eq entry.sha256 (measured entry.sha256 bytes).sha256) _ one.1 in
      record {
        bytes = bytes;
        text = text;
        entry = entry;
        has_data = refl;
        has_line = refl;
        reads = reads;
        size = eqb-true entry.length (length bytes) two.1;
        first = eq_true entry.sha1 (sha1 bytes) one.0;
        is = whole_case entry.sha256 entry newer bytes f;
      }
  measure_case entry false e f reads = absurd (cc)

  record_case : (r : Option Record) → record_in text ≡ r → upgraded (data_found r bytes) bytes ≡ Done newer
      → Plans (Some bytes) (Some text) newer
  record_case None e f = absurd (cc)
  record_case (Some entry) e f =
      measure_case entry (same_measure (measure_of entry) (measured entry.sha256 bytes)) refl f e

pub plans_from : (o l g : Option (List ℕ)) (newer : Record)
    → upgraded (found_of o l g) (bytes_or_none o) ≡ Done newer → Plans o l newer
plans_from None l g newer e = absurd (not_absence (option_and_then gone_in g) newer e)
plans_from (Some bytes) None g newer e = absurd (cc)
plans_from (Some bytes) (Some text) g newer e = record_case bytes text newer (record_in text) refl e

-- ---- what a name shows whose contents all have one length
one_of : (a b : List ℕ) → Some a ≡ Some b → a ≡ b
one_of a b e = cc

one_record : (a b : Record) → Some a ≡ Some b → a ≡ b
one_record a b e = cc

two_lengths : (xs : List ℕ) (m : ℕ) → length (xs ++ []) ≡ m → length (xs ++ 0 ∷ []) ≡ m → ⊥
two_lengths xs m e f =
    let a = length-append xs [] in
    let b = length-append xs (0 ∷ []) in
    omega (arith, a, b, e, f)

never_both : (a b : ℕ) → a ≤ b → b < a → ⊥
never_both a b e f = omega (arith, e, f)

module _ (c : Content) (m : ℕ) (d : List ℕ) (sizes : (u : List ℕ) → Shows (Some c) (Some u) → length u ≡ m)
    (h : Shows (Some c) (Some d)) where
  abbrev short : List ℕ
  short = take c.firm c.bytes

  firm_case : length c.bytes ≤ c.firm → d ≡ c.bytes
  firm_case le =
      let none : h.0 ≡ [] = h.2 le in
      one_of d (short ++ h.0) h.1
      ∙ (ap (λ (l : List ℕ). short ++ l) none ∙ (append-nil short ∙ take_all c.firm c.bytes le))

  loose_case : c.firm < length c.bytes → d ≡ c.bytes
  loose_case lt =
      absurd (two_lengths short m (sizes (short ++ []) ([], refl, λ le. refl))
      (sizes (short ++ 0 ∷ []) (0 ∷ [], refl, λ le. absurd (never_both (length c.bytes) c.firm le lt))))

  shown_is : d ≡ c.bytes
  shown_is =
      ⊎_elim (λ (k : (leb (length c.bytes) c.firm ≡ true) × (length c.bytes ≤ c.firm)). firm_case k.1)
      (λ (k : (leb (length c.bytes) c.firm ≡ false) × (c.firm < length c.bytes)). loose_case k.1)
      (leb_tells (length c.bytes) c.firm)

shown_of : (o : Option Content) (m : ℕ) (bytes d : List ℕ) → option_map bytes_of o ≡ Some bytes
    → ((u : List ℕ) → Shows o (Some u) → length u ≡ m) → Shows o (Some d) → d ≡ bytes
shown_of None m bytes d e sizes h = absurd (cc)
shown_of (Some c) m bytes d e sizes h = shown_is c m d sizes h ∙ one_of c.bytes bytes e

module _ (s : Names) (n line : List ℕ) (named : IsDataName n) (newer : Record)
    (plans : Plans (read_name s n) (read_name s (record_name n)) newer) (reads : record_in line ≡ Some newer) where
  shows_line : MayShow (s (record_name n)) (Some plans.text)
  shows_line =
      subst (λ (o : Option (List ℕ)). MayShow (s (record_name n)) o) plans.has_line
      (read_shown (s (record_name n)) (s (record_name n)).present refl)

  -- the record that stands measures each content that the file may show
  entry_measures : AllGood HasItsRecord AnyLine s → (d : List ℕ) → MayShow (s n) (Some d) → Measures plans.entry d
  entry_measures all d h =
      let fits : RecordFits plans.text d = (from_images HasItsRecord AnyLine s all n named).file d (Some plans.text) h shows_line in
      let same : fits.entry ≡ plans.entry = one_record fits.entry plans.entry (sym fits.reads ∙ plans.reads) in
      subst (λ (e : Record). Measures e d) same fits.measures

  pub sound_newer : AllGood HasItsRecord AnyLine s → (d : List ℕ) → MayShow (settled (s n)) (Some d) → RecordFits line d
  sound_newer all d (inl h) =
      let is : d ≡ plans.bytes = shown_of (s n).present plans.entry.length plans.bytes d plans.has_data
      (λ u k. sym (entry_measures all u (inl k)).size) h in
      let made = with_second (sha256 plans.bytes) plans.entry in
      let measures : Measures made plans.bytes = record { size = plans.size; first = plans.first; second = refl } in
      subst (λ (u : List ℕ). RecordFits line u) (sym is)
      record { entry = made; reads = reads ∙ ap Some plans.is; measures = measures }
  sound_newer all d (inr h) = absurd h

  pub worlds_newer : (w : List WorldRow) → AllGood (IsWorlds w) (IsGoneIn w) s → (d : List ℕ)
      → MayShow (settled (s n)) (Some d) → IsWorlds w n d (Some line)
  worlds_newer w all d h url is =
      let had = (from_images (IsWorlds w) (IsGoneIn w) s all n named).file d (Some plans.text)
      (settled_shows (s n) (Some d) h) shows_line url is in
      let checks : (text : List ℕ) (entry : Record) → Some line ≡ Some text → record_in text ≡ Some entry
      → checked (at w) url d entry.checks ≡ answers.Bytes d = λ text entry e f.
      let same : newer ≡ entry = one_record newer entry (sym reads ∙ (ap record_in (one_of line text e) ∙ f)) in
      let list : plans.entry.checks ≡ entry.checks = ap (λ (r : Record). r.checks) (sym plans.is ∙ same) in
      subst (λ (cs : List Check). checked (at w) url d cs ≡ answers.Bytes d) list (had.1 plans.text plans.entry refl plans.reads) in
      (had.0, checks)

module _ {D : Type 0} (told : D → Option Names) where
  abbrev pub PlansIn : D → List ℕ → Record → Type 0
  PlansIn disk n newer = (s : Names) → told disk ≡ Some s → Plans (read_name s n) (read_name s (record_name n)) newer

  pub images_upgraded : (moment : D → ℕ) (since : D → ℕ → Image → Type 0) (old new : D) (k : ℕ) (n line : List ℕ)
      (newer : Record) → IsDataName n → PlansIn old n newer → record_in line ≡ Some newer
      → Ran told moment since (upgrade_steps k n line) old new → KeepsImages told moment since AnyFile old new
  images_upgraded moment since old new k n line newer named plans reads ran =
      let steps = upgrade_steps k n line in
      record {
        sound = keeps _ told moment since steps old new ran
            (λ s f all. (good_along HasItsRecord AnyLine).upgrades s k n line named
            (sound_newer s n line named newer (plans s f) reads all) all);
        faithful = λ w. keeps _ told moment since steps old new ran
            (λ s f all. (good_along (IsWorlds w) (IsGoneIn w)).upgrades s k n line named
            (worlds_newer s n line named newer (plans s f) reads w all) all);
        stay = upgrade_stay told moment since old new k n line ran;
      }

  -- the record under the name, and the file as it reads
  pub upgraded_as : (old new : D) (k : ℕ) (n line : List ℕ) → AllDone told (upgrade_steps k n line) old new
      → (s : Names) → told new ≡ Some s → IsFirmly (s (record_name n)) line
  upgraded_as old new k n line done =
      held told (upgrade_steps k n line) old new (λ s. IsFirmly (s (record_name n)) line) done
      (λ s f. put_leaves (after SyncNames s) (record_part_name k) (record_name n) line (part_not_record (record_part_name k) n (is_record_part k)))

  pub reads_same : (old new : D) (k : ℕ) (n line : List ℕ) → IsDataName n → AllDone told (upgrade_steps k n line) old new
      → (s after : Names) → told old ≡ Some s → told new ≡ Some after → read_name after n ≡ read_name s n
  reads_same old new k n line named done s after e f =
      let steps = upgrade_steps k n line in
      let p = part_not_data (record_part_name k) n (is_record_part k) named in
      let kept = run_kept steps s n (tt, (p, (p, (p, ((p, record_not_data n n named), (tt, tt)))))) in
      let ends : run steps s ≡ after = some_names (run steps s) after (sym (ap (told_after steps) e) ∙ (sym done.names ∙ f)) in
      let same = kept_present (run steps s n) (s n) kept in
      subst (λ (r : Names). read_name r n ≡ read_name s n) ends (ap (option_map bytes_of) same)
    where
      some_names : (a b : Names) → Some a ≡ Some b → a ≡ b
      some_names a b h = cc

  -- no part is sealed for a file that is there
  pub none_for : (s : Names) (parts : Parts) (n : List ℕ) (bytes : List ℕ) → HoldsParts s parts
      → read_name s n ≡ Some bytes → (j : ℕ) (q : Part) → part_at parts j ≡ Some q → q.sealed ≡ Some n → ⊥
  none_for s parts n bytes holds e j q here sealed =
      let absent = ((holds j q here).sealed n sealed).absent in
      let shown : MayShow (s n) (Some bytes) =
      subst (λ (o : Option (List ℕ)). MayShow (s n) o) e (read_shown (s n) (s n).present refl) in
      let none : Some bytes ≡ None = absent (Some bytes) shown in
      cc

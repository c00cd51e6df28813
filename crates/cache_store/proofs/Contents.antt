-- What the disk has of open parts, and of the record of a sealed one, after a call.
use Rattle.std.proofs.Common.{ℕ, ◌≡◌, ◌≢◌, ◌⊎◌, ◌<◌, ◌++◌, eqb, Bool, true, false, List, [], ◌∷◌, Option, Some, None, refl, sym, ap, ◌∙◌, subst, inl, inr}
use Rattle.std.specs.Option.{option_map}
use Rattle.std.proofs.lemmas.Bool.Decides.{eqb_tells}
use Rattle.cache_images.proofs.Frames.{MissAll, kept_present, run_kept}
use Rattle.cache_images.proofs.Sealing.{put_leaves, rest_misses, seal_firm, seal_misses}
use Rattle.cache_images.proofs.Shown.{put_self, read_shown}
use Rattle.cache_images.proofs.Texts.{is_record_part, part_not_record}
use Rattle.cache_images.specs.Leaves.{IsFirmly, IsSealed}
use Rattle.cache_images.specs.Places.{IsDataName, gone_name, part_name, record_name, record_part_name}
use Rattle.cache_images.specs.Sequences.{clear_steps, gone_steps, publish_steps, seal_steps, take_steps, upgrade_steps}
use Rattle.cache_images.specs.Sound.{IsUrlOf}
use Rattle.cache_layout.specs.Readings.{record_in}
use Rattle.cache_layout.specs.declared.record.Record.{Record}
use Rattle.digest_check.specs.KeyAnswers.{checked}
use Rattle.disk_base.specs.Names.{Names, after, bound_anew, bytes_of, empty, longer, read_name, run, with_now}
use Rattle.disk_base.specs.Runs.{Done}
use Rattle.disk_base.specs.declared.contents.Bindings.{Bindings}
use Rattle.disk_base.specs.declared.contents.Content.{Content}
use Rattle.disk_base.specs.declared.steps.DiskStep.{DiskStep}
use Rattle.disk_base.specs.declared.steps.DiskStep.TheVariants.{Append, Remove, Start, Sync}
use Rattle.res_base.specs.World.{at}
use Rattle.res_base.specs.declared.reading.Answer.TheVariants as answers
use Rattle.res_base.specs.declared.reading.Check.{Check}
use Rattle.res_base.specs.declared.world.WorldRow.{WorldRow}
use Rattle.cache_store.proofs.Published.{published_as}
use Rattle.cache_store.proofs.Slots.{some_one}
use Rattle.cache_store.proofs.Stood.{file_not_part, gone_not_part, held, parts_differ, record_not_part, record_part_not_part, told_from}
use Rattle.cache_store.specs.Contents.{HasContent, IsKept, IsRecorded, OthersRead, PartsRead, PublishesBytes}
use Rattle.cache_store.specs.Parts.{Parts, part_at}
use Rattle.cache_store.specs.Stands.{HoldsParts, PublishesFor}
use Rattle.cache_store.specs.declared.part.Part.{Part}
use Rattle.cache_store.specs.declared.store.Store.{Store}

one_text : (a b : List ℕ) → Some a ≡ Some b → a ≡ b
one_text a b e = cc

one_record : (a b : Record) → Some a ≡ Some b → a ≡ b
one_record a b e = cc

-- a name of which no call speaks
reads_kept : (xs : List DiskStep) (s : Names) (m : List ℕ) → MissAll xs m → read_name (run xs s) m ≡ read_name s m
reads_kept xs s m miss = ap (option_map bytes_of) (kept_present (run xs s m) (s m) (run_kept xs s m miss))

-- a name has one text, whatever a crash leaves
pub firmly_one : (b : Bindings) (x y : List ℕ) → IsFirmly b x → IsFirmly b y → x ≡ y
firmly_one b x y f g =
    let o = option_map bytes_of b.present in
    let shown = read_shown b b.present refl in
    one_text x y (sym (f o shown) ∙ g o shown)

-- a sealed part reads as the bytes that it is sealed with
pub sealed_bytes : (s : Names) (k : ℕ) (m bytes : List ℕ) (sealed : IsSealed s k m) → read_name s (part_name k) ≡ Some bytes
    → sealed.bytes ≡ bytes
sealed_bytes s k m bytes sealed has = one_text sealed.bytes bytes (sym (ap (option_map bytes_of) sealed.firm) ∙ has)

longer_reads : (o : Option Content) (piece bytes : List ℕ) → option_map bytes_of o ≡ Some bytes
    → option_map bytes_of (option_map (longer piece) o) ≡ Some (bytes ++ piece)
longer_reads None piece bytes e = absurd (cc)
longer_reads (Some c) piece bytes e = ap (λ (u : List ℕ). Some (u ++ piece)) (one_text c.bytes bytes e)

appended_reads : (s : Names) (p piece bytes : List ℕ) → read_name s p ≡ Some bytes
    → read_name (run (Append p piece ∷ []) s) p ≡ Some (bytes ++ piece)
appended_reads s p piece bytes has =
    ap (λ (b : Bindings). option_map bytes_of b.present) (put_self p (with_now (longer piece) (s p)) s)
    ∙ longer_reads (s p).present piece bytes has

-- ---- a seal
module _ (there : Bool) (s : Names) (k : ℕ) (name line : List ℕ) (named : IsDataName name) where
  firm_reads : (o : Option Content) (bytes : List ℕ) → (s (part_name k)).present ≡ o → option_map bytes_of o ≡ Some bytes
      → read_name (run (seal_steps there k name line) s) (part_name k) ≡ Some bytes
  firm_reads None bytes e f = absurd (cc)
  firm_reads (Some c) bytes e f = ap (option_map bytes_of) (seal_firm there s k name line c named e) ∙ f

  seal_reads : (j : ℕ) (bytes : List ℕ) → j < 4096 → k < 4096 → read_name s (part_name j) ≡ Some bytes
      → read_name (run (seal_steps there k name line) s) (part_name j) ≡ Some bytes
  seal_reads j bytes lj lk has = by (eqb_tells j k)
    where
      by : ((eqb j k ≡ true) × (j ≡ k)) ⊎ ((eqb j k ≡ false) × (j ≢ k))
          → read_name (run (seal_steps there k name line) s) (part_name j) ≡ Some bytes
      by (inl h) =
          let own : read_name s (part_name k) ≡ Some bytes =
          subst (λ (i : ℕ). read_name s (part_name i) ≡ Some bytes) h.1 has in
          subst (λ (i : ℕ). read_name (run (seal_steps there k name line) s) (part_name i) ≡ Some bytes) (sym h.1)
          (firm_reads (s (part_name k)).present bytes refl own)
      by (inr h) =
          reads_kept (seal_steps there k name line) s (part_name j)
          (seal_misses there k name line (part_name j) (parts_differ j k lj lk h.1) (file_not_part name named j)
          (gone_not_part name named j) (record_part_not_part name named j k) (record_not_part name named j)) ∙ has

seal_records : (there : Bool) (s : Names) (k : ℕ) (name line : List ℕ)
    → IsFirmly (run (seal_steps there k name line) s (record_name name)) line
seal_records true s k name line =
    put_leaves (run (take_steps name (gone_name name)) (after (Sync (part_name k)) s)) (record_part_name k)
    (record_name name) line (part_not_record (record_part_name k) name (is_record_part k))
seal_records false s k name line =
    put_leaves (after (Sync (part_name k)) s) (record_part_name k) (record_name name) line
    (part_not_record (record_part_name k) name (is_record_part k))

take_misses : (there : Bool) (name : List ℕ) (named : IsDataName name) (j : ℕ)
    → MissAll (clear_steps there name (gone_name name)) (part_name j)
take_misses true name named j = (file_not_part name named j, (gone_not_part name named j, (tt, tt)))
take_misses false name named j = tt

module _ {D : Type 0} (told : D → Option Names) where
  others_read : (xs : List DiskStep) (k : ℕ) (old new : D) → Done told xs old new
      → ((j : ℕ) → j < 4096 → j ≢ k → MissAll xs (part_name j)) → OthersRead told k old new
  others_read xs k old new done miss j bytes lt other has =
      held told xs old new (λ s. read_name s (part_name j) ≡ Some bytes) done
      (λ s f. reads_kept xs s (part_name j) (miss j lt other) ∙ has s f)

  parts_read : (xs : List DiskStep) (old new : D) → Done told xs old new → ((j : ℕ) → MissAll xs (part_name j))
      → PartsRead told old new
  parts_read xs old new done miss j bytes lt has =
      held told xs old new (λ s. read_name s (part_name j) ≡ Some bytes) done
      (λ s f. reads_kept xs s (part_name j) (miss j) ∙ has s f)

  pub started_content : (k : ℕ) (old new : D) → Done told (Start (part_name k) ∷ []) old new → HasContent told new k []
  started_content k old new done =
      let p = part_name k in
      held told (Start p ∷ []) old new (λ s. read_name s p ≡ Some []) done
      (λ s f. ap (λ (b : Bindings). option_map bytes_of b.present) (put_self p (bound_anew (Some empty) (s p)) s))

  pub appended_content : (k : ℕ) (piece : List ℕ) (old new : D) → Done told (Append (part_name k) piece ∷ []) old new
      → (bytes : List ℕ) → HasContent told old k bytes → HasContent told new k (bytes ++ piece)
  appended_content k piece old new done bytes has =
      let p = part_name k in
      held told (Append p piece ∷ []) old new (λ s. read_name s p ≡ Some (bytes ++ piece)) done
      (λ s f. appended_reads s p piece bytes (has s f))

  pub start_reads : (k : ℕ) (old new : D) → k < 4096 → Done told (Start (part_name k) ∷ []) old new
      → OthersRead told k old new
  start_reads k old new lk done =
      others_read (Start (part_name k) ∷ []) k old new done (λ j lj other. (parts_differ j k lj lk other, tt))

  pub append_reads : (k : ℕ) (piece : List ℕ) (old new : D) → k < 4096
      → Done told (Append (part_name k) piece ∷ []) old new → OthersRead told k old new
  append_reads k piece old new lk done =
      others_read (Append (part_name k) piece ∷ []) k old new done (λ j lj other. (parts_differ j k lj lk other, tt))

  pub remove_reads : (k : ℕ) (old new : D) → k < 4096 → Done told (Remove (part_name k) ∷ []) old new
      → OthersRead told k old new
  remove_reads k old new lk done =
      others_read (Remove (part_name k) ∷ []) k old new done (λ j lj other. (parts_differ j k lj lk other, tt))

  pub removed_content : (k : ℕ) (old new : D) → Done told (Remove (part_name k) ∷ []) old new
      → (s : Names) → told new ≡ Some s → read_name s (part_name k) ≡ None
  removed_content k old new done =
      let p = part_name k in
      held told (Remove p ∷ []) old new (λ s. read_name s p ≡ None) done
      (λ s f. ap (λ (b : Bindings). option_map bytes_of b.present) (put_self p (bound_anew None (s p)) s))

  pub publish_reads : (k : ℕ) (name : List ℕ) (old new : D) → ((s : Names) → told old ≡ Some s → IsDataName name)
      → k < 4096 → Done told (publish_steps (part_name k) name) old new → OthersRead told k old new
  publish_reads k name old new named lk done j bytes lj other has =
      let steps = publish_steps (part_name k) name in
      held told steps old new (λ s. read_name s (part_name j) ≡ Some bytes) done
      (λ s f. reads_kept steps s (part_name j)
      ((parts_differ j k lj lk other, file_not_part name (named s f) j), (tt, tt)) ∙ has s f)

  pub sealed_reads : (there : Bool) (k : ℕ) (name line : List ℕ) (old new : D) → IsDataName name → k < 4096
      → Done told (seal_steps there k name line) old new → PartsRead told old new
  sealed_reads there k name line old new named lk done j bytes lj has =
      held told (seal_steps there k name line) old new (λ s. read_name s (part_name j) ≡ Some bytes) done
      (λ s f. seal_reads there s k name line named j bytes lj lk (has s f))

  pub seal_recorded : (there : Bool) (k : ℕ) (name line : List ℕ) (old new : D)
      → Done told (seal_steps there k name line) old new
      → (s : Names) → told new ≡ Some s → IsFirmly (s (record_name name)) line
  seal_recorded there k name line old new done =
      held told (seal_steps there k name line) old new (λ s. IsFirmly (s (record_name name)) line) done
      (λ s f. seal_records there s k name line)

  pub take_reads : (there : Bool) (name : List ℕ) (old new : D) → IsDataName name
      → Done told (clear_steps there name (gone_name name)) old new → PartsRead told old new
  take_reads there name old new named done =
      parts_read (clear_steps there name (gone_name name)) old new done (take_misses there name named)

  pub gone_reads : (there : Bool) (k : ℕ) (name line : List ℕ) (old new : D) → IsDataName name
      → Done told (gone_steps there k name line) old new → PartsRead told old new
  gone_reads there k name line old new named done =
      parts_read (gone_steps there k name line) old new done
      (λ j. rest_misses there name (gone_name name) (record_part_name k) (gone_name name) line (part_name j)
      (file_not_part name named j) (gone_not_part name named j) (record_part_not_part name named j k)
      (gone_not_part name named j))

  pub upgrade_reads : (k : ℕ) (name line : List ℕ) (old new : D) → IsDataName name
      → Done told (upgrade_steps k name line) old new → PartsRead told old new
  upgrade_reads k name line old new named done =
      parts_read (upgrade_steps k name line) old new done
      (λ j. let r = record_part_not_part name named j k in (tt, (r, (r, (r, ((r, record_not_part name named j), (tt, tt)))))))

  pub same_reads : (old new : D) → told new ≡ told old → PartsRead told old new
  same_reads old new same j bytes lt has s f = has s (sym same ∙ f)

  pub trans_reads : (a b c : D) → PartsRead told a b → PartsRead told b c → PartsRead told a c
  trans_reads a b c p q j bytes lt has = q j bytes lt (p j bytes lt has)

  -- ---- a part that is published
  abbrev SealedAs : Parts → ℕ → List ℕ → Type 0
  SealedAs parts k m = (part : Part) × (part_at parts k ≡ Some part) × (part.sealed ≡ Some m)

  module _ (old new : D) (parts : Parts) (k : ℕ) (name : List ℕ) (p : Part) (here : part_at parts k ≡ Some p)
      (sealed : p.sealed ≡ Some name) (holds : (s : Names) → told old ≡ Some s → HoldsParts s parts)
      (done : Done told (publish_steps (part_name k) name) old new) where
    pub kept_as : (m bytes : List ℕ) → SealedAs parts k m → HasContent told old k bytes → IsKept told new m bytes
    kept_as m bytes is has s e =
        let from = told_from (publish_steps (part_name k) name) (told old) (told new) s done.names e in
        let stood = (holds from.0 from.1 k is.0 is.1).sealed m is.2 in
        let both = published_as told old new parts k name p here sealed done from.0 s is.0 m stood from.1 e is.1 is.2 in
        subst (λ (u : List ℕ). IsFirmly (s m) u) (sealed_bytes from.0 k m bytes stood (has from.0 from.1)) both.0

    pub recorded_as : (m : List ℕ) (checks : List Check) (moment : ℕ) → SealedAs parts k m
        → IsRecorded told old m checks moment → IsRecorded told new m checks moment
    recorded_as m checks moment is recorded s e =
        let from = told_from (publish_steps (part_name k) name) (told old) (told new) s done.names e in
        let stood = (holds from.0 from.1 k is.0 is.1).sealed m is.2 in
        let had = recorded from.0 from.1 in
        let both = published_as told old new parts k name p here sealed done from.0 s is.0 m stood from.1 e is.1 is.2 in
        let one = firmly_one (from.0 (record_name m)) stood.line had.0 stood.recorded had.1 in
        (had.0, subst (λ (u : List ℕ). IsFirmly (s (record_name m)) u) one both.1, had.2)

  some_name : (a b : List ℕ) → Some a ≡ Some b → a ≡ b
  some_name a b e = cc

  -- what is published for the world, by its bytes
  pub publishes_for : (w : List WorldRow) (store : Store D) (k : ℕ) → PublishesBytes told w store k
      → PublishesFor told w store k
  publishes_for w store k is s part name sealed e here f url at_url =
      let same_part : is.sealed.0 ≡ part = some_one is.sealed.0 part (sym is.sealed.1 ∙ here) in
      let one : is.name ≡ name =
      some_name is.name name (sym is.sealed.2 ∙ (ap (λ (q : Part). q.sealed) same_part ∙ f)) in
      let have = is.worlds url (subst (λ (n : List ℕ). IsUrlOf n url) (sym one) at_url) in
      let same : is.bytes ≡ sealed.bytes = sym (sealed_bytes s k name is.bytes sealed (is.content s e)) in
      let had = is.recorded s e in
      let firm = subst (λ (n : List ℕ). IsFirmly (s (record_name n)) had.0) one had.1 in
      let line : had.0 ≡ sealed.line = firmly_one (s (record_name name)) had.0 sealed.line firm sealed.recorded in
      let checks : (text : List ℕ) (entry : Record) → Some sealed.line ≡ Some text → record_in text ≡ Some entry
      → checked (at w) url sealed.bytes entry.checks ≡ answers.Bytes sealed.bytes = λ text entry g h.
      let reads : record_in had.0 ≡ Some entry = ap record_in (line ∙ one_text sealed.line text g) ∙ h in
      let found : (had.2).entry ≡ entry = one_record (had.2).entry entry (sym (had.2).reads ∙ reads) in
      let listed : is.checks ≡ entry.checks = sym (had.2).listed ∙ ap (λ (r : Record). r.checks) found in
      subst (λ (u : List ℕ). checked (at w) url u entry.checks ≡ answers.Bytes u) same
      (subst (λ (cs : List Check). checked (at w) url is.bytes cs ≡ answers.Bytes is.bytes) listed have.1) in
      (have.0 ∙ ap Some same, checks)

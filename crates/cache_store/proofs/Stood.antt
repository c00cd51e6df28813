-- What a store has after a run of calls on its disk.
use Rattle.std.proofs.Common.{ℕ, ◌≡◌, ◌≢◌, ◌⊎◌, ◌<◌, ◌++◌, ◌+◌, Bool, true, false, List, [], ◌∷◌, Option, Some, None, IsSome, length, set, refl, sym, ap, ◌∙◌, subst, inl, inr, arith, length-append}
use Rattle.std.specs.Option.{option_map}
use Rattle.digest_check.specs.Fed.{IsFed}
use Rattle.digest_check.specs.declared.sums.Sums.{Sums}
use Rattle.disk_base.specs.Names.{IsBoundIn, Names, bound_anew, bytes_of, empty, longer, run, told_after, whole, with_now}
use Rattle.disk_base.specs.Runs.{Done}
use Rattle.disk_base.specs.declared.contents.Bindings.{Bindings}
use Rattle.disk_base.specs.declared.contents.Content.{Content}
use Rattle.disk_base.specs.declared.steps.DiskStep.{DiskStep}
use Rattle.disk_base.specs.declared.steps.DiskStep.TheVariants.{Append, Remove, Start}
use Rattle.cache_images.proofs.Frames.{MissAll, kept_present, kept_settled, run_kept}
use Rattle.cache_images.proofs.Sealing.{rest_misses, seal_firm, seal_leaves, seal_misses, sealed_kept}
use Rattle.cache_images.proofs.Shown.{put_self}
use Rattle.cache_images.proofs.Texts.{gone_not_data, is_part, is_record_part, part_not_data, part_not_gone, part_not_record, parts_apart, parts_not_record_parts, record_not_data, record_not_gone, records_apart}
use Rattle.cache_images.specs.Leaves.{IsAbsent, IsSealed}
use Rattle.cache_images.specs.Places.{IsDataName, gone_name, part_name, record_name, record_part_name}
use Rattle.cache_images.specs.Sequences.{clear_steps, gone_steps, publish_steps, seal_steps, upgrade_steps}
use Rattle.cache_images.specs.Sound.{RecordFits}
use Rattle.cache_store.proofs.Slots.{set_cases, some_one, still_sealed, unsealed_part}
use Rattle.cache_store.specs.Parts.{AreUnsealed, HasBytes, Parts, part_at, sealed_as}
use Rattle.cache_store.specs.Stands.{FilesSettled, HoldsPart, HoldsParts}
use Rattle.cache_store.specs.declared.part.Part.{Part}

-- what a disk tells after some calls, it tells of what it told before
pub told_from : (xs : List DiskStep) (o n : Option Names) (s : Names) → n ≡ told_after xs o → n ≡ Some s
    → (r : Names) × (o ≡ Some r) × (s ≡ run xs r)
told_from xs None n s e f = absurd (cc)
told_from xs (Some r) n s e f = (r, refl, cc)

pub held : {D : Type 0} (told : D → Option Names) (xs : List DiskStep) (old new : D) (P : Names → Type 0)
    → Done told xs old new → ((s : Names) → told old ≡ Some s → P (run xs s)) → (s : Names) → told new ≡ Some s → P s
held told xs old new P done all s e =
    let f = told_from xs (told old) (told new) s done.names e in
    subst P (sym f.2) (all f.0 f.1)

-- the calls speak of no name that a part, sealed for these names, stands for
pub record Spares (xs : List DiskStep) (number : ℕ) (part : Part) : Type 0 where
  pub own : MissAll xs (part_name number)
  pub files : (m : List ℕ) → IsDataName m → part.sealed ≡ Some m → MissAll xs m × MissAll xs (record_name m)

pub part_kept : (xs : List DiskStep) (s : Names) (j : ℕ) (part : Part) → Spares xs j part → HoldsPart s j part
    → HoldsPart (run xs s) j part
part_kept xs s j part spares holds = record {
  content = holds.content;
  bound = kept_present (run xs s (part_name j)) (s (part_name j)) (run_kept xs s (part_name j) spares.own) ∙ holds.bound;
  has = holds.has;
  sealed = λ m e.
      let sealed = holds.sealed m e in
      let both = spares.files m sealed.named e in
      sealed_kept xs s j m spares.own both.0 both.1 sealed;
}

-- ---- a part that is no longer sealed for a name
pub unsealed_holds : (s : Names) (name : List ℕ) (old new : Parts) → AreUnsealed name old new → HoldsParts s old
    → HoldsParts s new
unsealed_holds s name old new are holds j q e =
    let was = unsealed_part name old new are j q e in
    let h = holds j was.0 was.1 in
    subst (λ (r : Part). HoldsPart s j r) (sym was.2) record {
      content = h.content;
      bound = h.bound;
      has = record { fed = h.has.fed; size = h.has.size };
      sealed = λ m f. h.sealed m (still_sealed name (was.0).sealed m f).0;
    }

-- ---- one part that is set, and the others
module _ (xs : List DiskStep) (s : Names) (parts : Parts) (k : ℕ) where
  pub set_holds : (x : Part) → k < length parts → HoldsParts s parts → HoldsPart (run xs s) k x
      → ((j : ℕ) (q : Part) → j ≢ k → part_at parts j ≡ Some q → Spares xs j q)
      → HoldsParts (run xs s) (set parts k (Some x))
  set_holds x le holds mine spares j q here = go (set_cases parts k (Some x) j q le here)
    where
      go : ((j ≡ k) × (Some x ≡ Some q)) ⊎ ((j ≢ k) × (part_at parts j ≡ Some q)) → HoldsPart (run xs s) j q
      go (inl a) =
          let same = some_one x q a.1 in
          subst (λ (r : Part). HoldsPart (run xs s) j r) same
          (subst (λ (i : ℕ). HoldsPart (run xs s) i x) (sym a.0) mine)
      go (inr a) = part_kept xs s j q (spares j q a.0 a.1) (holds j q a.1)

  pub cleared_holds : k < length parts → HoldsParts s parts
      → ((j : ℕ) (q : Part) → j ≢ k → part_at parts j ≡ Some q → Spares xs j q)
      → HoldsParts (run xs s) (set parts k None)
  cleared_holds le holds spares j q here = go (set_cases parts k None j q le here)
    where
      go : ((j ≡ k) × (None ≡ Some q)) ⊎ ((j ≢ k) × (part_at parts j ≡ Some q)) → HoldsPart (run xs s) j q
      go (inl a) = absurd (let f = a.1 in cc)
      go (inr a) = part_kept xs s j q (spares j q a.0 a.1) (holds j q a.1)

pub all_holds : (xs : List DiskStep) (s : Names) (parts : Parts) → HoldsParts s parts
    → ((j : ℕ) (q : Part) → part_at parts j ≡ Some q → Spares xs j q) → HoldsParts (run xs s) parts
all_holds xs s parts holds spares j q here = part_kept xs s j q (spares j q here) (holds j q here)

-- ---- which calls spare a part
pub parts_differ : (j k : ℕ) → j < 4096 → k < 4096 → j ≢ k → part_name k ≢ part_name j
parts_differ j k lj lk other e = parts_apart j k (omega arith) (omega arith) other (sym e)

-- calls on another part alone
pub start_spares : (j k : ℕ) (q : Part) → j < 4096 → k < 4096 → j ≢ k → Spares (Start (part_name k) ∷ []) j q
start_spares j k q lj lk other = record {
  own = (parts_differ j k lj lk other, tt);
  files = λ m named e. ((part_not_data (part_name k) m (is_part k) named, tt), (part_not_record (part_name k) m (is_part k), tt));
}

pub append_spares : (j k : ℕ) (q : Part) (bytes : List ℕ) → j < 4096 → k < 4096 → j ≢ k
    → Spares (Append (part_name k) bytes ∷ []) j q
append_spares j k q bytes lj lk other = record {
  own = (parts_differ j k lj lk other, tt);
  files = λ m named e. ((part_not_data (part_name k) m (is_part k) named, tt), (part_not_record (part_name k) m (is_part k), tt));
}

pub remove_spares : (j k : ℕ) (q : Part) → j < 4096 → k < 4096 → j ≢ k → Spares (Remove (part_name k) ∷ []) j q
remove_spares j k q lj lk other = record {
  own = (parts_differ j k lj lk other, tt);
  files = λ m named e. ((part_not_data (part_name k) m (is_part k) named, tt), (part_not_record (part_name k) m (is_part k), tt));
}

abbrev NotFor : List ℕ → Part → Type 0
NotFor name q = (m : List ℕ) → q.sealed ≡ Some m → name ≢ m

-- calls on a file for which the part isn't sealed
pub publish_spares : (j k : ℕ) (q : Part) (name : List ℕ) → IsDataName name → j < 4096 → k < 4096 → j ≢ k
    → NotFor name q → Spares (publish_steps (part_name k) name) j q
publish_spares j k q name named lj lk other not_for = record {
  own = ((parts_differ j k lj lk other, λ e. part_not_data (part_name j) name (is_part j) named (sym e)), (tt, tt));
  files = λ m is f. (
    ((part_not_data (part_name k) m (is_part k) is, not_for m f), (tt, tt)),
    ((part_not_record (part_name k) m (is_part k), λ e. record_not_data m name named (sym e)), (tt, tt)),
  );
}

module _ (name : List ℕ) (named : IsDataName name) where
  pub file_not_part : (j : ℕ) → name ≢ part_name j
  file_not_part j e = part_not_data (part_name j) name (is_part j) named (sym e)

  pub gone_not_part : (j : ℕ) → gone_name name ≢ part_name j
  gone_not_part j e = part_not_gone (part_name j) name (is_part j) (sym e)

  pub record_not_part : (j : ℕ) → record_name name ≢ part_name j
  record_not_part j e = part_not_record (part_name j) name (is_part j) (sym e)

  pub record_part_not_part : (j k : ℕ) → record_part_name k ≢ part_name j
  record_part_not_part j k e = parts_not_record_parts j k (sym e)

  gone_not_record : (m : List ℕ) → gone_name name ≢ record_name m
  gone_not_record m e = record_not_gone m name (sym e)

  file_not_record : (m : List ℕ) → name ≢ record_name m
  file_not_record m e = record_not_data m name named (sym e)

  pub seal_spares : (there : Bool) (j k : ℕ) (q : Part) (line : List ℕ) → j < 4096 → k < 4096 → j ≢ k → NotFor name q
      → Spares (seal_steps there k name line) j q
  seal_spares there j k q line lj lk other not_for = record {
    own = seal_misses there k name line (part_name j) (parts_differ j k lj lk other) (file_not_part j) (gone_not_part j)
        (record_part_not_part j k) (record_not_part j);
    files = λ m is f. (
      seal_misses there k name line m (part_not_data (part_name k) m (is_part k) is) (not_for m f) (gone_not_data name m is)
          (part_not_data (record_part_name k) m (is_record_part k) is) (record_not_data name m is),
      seal_misses there k name line (record_name m) (part_not_record (part_name k) m (is_part k)) (file_not_record m)
          (gone_not_record m) (part_not_record (record_part_name k) m (is_record_part k)) (records_apart name m (not_for m f)),
    );
  }

  pub take_spares : (there : Bool) (j : ℕ) (q : Part) → NotFor name q
      → Spares (clear_steps there name (gone_name name)) j q
  take_spares true j q not_for = record {
    own = (file_not_part j, (gone_not_part j, (tt, tt)));
    files = λ m is f. (
      (not_for m f, (gone_not_data name m is, (tt, tt))),
      (file_not_record m, (gone_not_record m, (tt, tt))),
    );
  }
  take_spares false j q not_for = record { own = tt; files = λ m is f. (tt, tt) }

  pub gone_spares : (there : Bool) (j k : ℕ) (q : Part) (line : List ℕ) → NotFor name q
      → Spares (gone_steps there k name line) j q
  gone_spares there j k q line not_for =
      let from = record_part_name k in
      let gone = gone_name name in
      record {
        own = rest_misses there name gone from gone line (part_name j) (file_not_part j) (gone_not_part j)
            (record_part_not_part j k) (gone_not_part j);
        files = λ m is f. (
          rest_misses there name gone from gone line m (not_for m f) (gone_not_data name m is)
              (part_not_data from m (is_record_part k) is) (gone_not_data name m is),
          rest_misses there name gone from gone line (record_name m) (file_not_record m) (gone_not_record m)
              (part_not_record from m (is_record_part k)) (gone_not_record m),
        );
      }

  -- another record for a file for which the part isn't sealed
  pub upgrade_spares : (j k : ℕ) (q : Part) (line : List ℕ) → NotFor name q
      → Spares (upgrade_steps k name line) j q
  upgrade_spares j k q line not_for =
      let r = record_part_not_part j k in
      record {
        own = (tt, (r, (r, (r, ((r, record_not_part j), (tt, tt))))));
        files = λ m is f.
            let p = part_not_data (record_part_name k) m (is_record_part k) is in
            let e = part_not_record (record_part_name k) m (is_record_part k) in (
              (tt, (p, (p, (p, ((p, record_not_data name m is), (tt, tt)))))),
              (tt, (e, (e, (e, ((e, records_apart name m (not_for m f)), (tt, tt)))))),
            );
      }

-- ---- files that can't come back
pub settled_kept : (xs : List DiskStep) (s : Names) → ((n : List ℕ) → IsDataName n → MissAll xs n × MissAll xs (gone_name n))
    → FilesSettled s → FilesSettled (run xs s)
settled_kept xs s misses settled n named =
    let both = misses n named in
    let had = settled n named in (
      kept_settled (run xs s n) (s n) (run_kept xs s n both.0) had.0,
      kept_settled (run xs s (gone_name n)) (s (gone_name n)) (run_kept xs s (gone_name n) both.1) had.1,
    )

-- calls on a part alone
pub part_misses : (k : ℕ) (n : List ℕ) → IsDataName n → (part_name k ≢ n) × (part_name k ≢ gone_name n)
part_misses k n named = (part_not_data (part_name k) n (is_part k) named, part_not_gone (part_name k) n (is_part k))

pub seal_settles : (there : Bool) (k : ℕ) (name line : List ℕ) (s : Names) → FilesSettled (run (seal_steps there k name line) s)
seal_settles true k name line s n named = (refl, refl)
seal_settles false k name line s n named = (refl, refl)

pub gone_settles : (there : Bool) (k : ℕ) (name line : List ℕ) (s : Names) → FilesSettled (run (gone_steps there k name line) s)
gone_settles true k name line s n named = (refl, refl)
gone_settles false k name line s n named = (refl, refl)

pub clear_settles : (there : Bool) (name gone : List ℕ) (s : Names) → FilesSettled s
    → FilesSettled (run (clear_steps there name gone) s)
clear_settles true name gone s settled n named = (refl, refl)
clear_settles false name gone s settled n named = settled n named

pub publish_settles : (part name : List ℕ) (s : Names) → FilesSettled (run (publish_steps part name) s)
publish_settles part name s n named = (refl, refl)

pub upgrade_settles : (k : ℕ) (name line : List ℕ) (s : Names) → FilesSettled (run (upgrade_steps k name line) s)
upgrade_settles k name line s n named = (refl, refl)

-- ---- the part that the calls speak of
abbrev pub fresh : Sums → Part
fresh sums = record { sums = sums; length = 0; sealed = None }

never_none : (m : List ℕ) → None ≡ Some m → ⊥
never_none m e = (cc)

pub started_holds : (s : Names) (k : ℕ) (sums : Sums) → IsFed sums [] → HoldsPart (run (Start (part_name k) ∷ []) s) k (fresh sums)
started_holds s k sums fed = record {
  content = empty;
  bound = ap (λ (b : Bindings). b.present) (put_self (part_name k) (bound_anew (Some empty) (s (part_name k))) s);
  has = record { fed = fed; size = refl };
  sealed = λ m e. absurd (never_none m e);
}

-- a part that took a piece
pub record Longer (p q : Part) (piece : List ℕ) : Type 0 where
  pub open_now : q.sealed ≡ None
  pub size : q.length ≡ p.length + length piece
  pub fed : (bytes : List ℕ) → IsFed p.sums bytes → IsFed q.sums (bytes ++ piece)

pub longer_has : (p q : Part) (piece bytes : List ℕ) → Longer p q piece → HasBytes p bytes → HasBytes q (bytes ++ piece)
longer_has p q piece bytes is has = record {
  fed = is.fed bytes has.fed;
  size = is.size ∙ (ap (λ (n : ℕ). n + length piece) has.size ∙ sym (length-append bytes piece));
}

pub appended_holds : (s : Names) (k : ℕ) (piece : List ℕ) (p q : Part) → Longer p q piece → HoldsPart s k p
    → HoldsPart (run (Append (part_name k) piece ∷ []) s) k q
appended_holds s k piece p q is h = record {
  content = longer piece h.content;
  bound = ap (λ (b : Bindings). b.present) (put_self (part_name k) (with_now (longer piece) (s (part_name k))) s)
      ∙ ap (option_map (longer piece)) h.bound;
  has = longer_has p q piece (bytes_of h.content) is h.has;
  sealed = λ m e. absurd (never_none m (sym is.open_now ∙ e));
}

some_name : (a b : List ℕ) → Some a ≡ Some b → a ≡ b
some_name a b h = cc

pub sealed_holds : (there : Bool) (s : Names) (k : ℕ) (name line : List ℕ) (p : Part) → IsDataName name
    → (there ≡ false → IsAbsent (s name)) → ((bytes : List ℕ) → HasBytes p bytes → RecordFits line bytes)
    → HoldsPart s k p → HoldsPart (run (seal_steps there k name line) s) k (sealed_as name p)
sealed_holds there s k name line p named absent fits h =
    let steps = seal_steps there k name line in
    let is = seal_leaves there s k name line h.content named absent h.bound (fits (bytes_of h.content) h.has) in
    record {
      content = whole (bytes_of h.content);
      bound = seal_firm there s k name line h.content named h.bound;
      has = record { fed = h.has.fed; size = h.has.size };
      sealed = λ m e. subst (λ (u : List ℕ). IsSealed (run steps s) k u) (some_name name m e) is;
    }

-- the part's name is bound
pub part_bound : {D : Type 0} (told : D → Option Names) (disk : D) (parts : Parts) (k : ℕ) (p : Part) (from : List ℕ)
    → ((s : Names) → told disk ≡ Some s → HoldsParts s parts) → part_at parts k ≡ Some p → from ≡ part_name k
    → IsBoundIn (told disk) from
part_bound told disk parts k p from holds at e = record {
  bound = λ s f.
      let is = holds s f k p at in
      subst (λ (u : List ℕ). IsSome (s u).present) (sym e) (subst (λ (o : Option Content). IsSome o) (sym is.bound) refl);
}

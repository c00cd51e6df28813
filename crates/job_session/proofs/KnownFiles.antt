-- The files of a verdict, where all of them are known.
use Rattle.std.proofs.Common.{◌≡◌, Bool, true, false, ◌&&◌, ℕ, zero, suc, Option, None, Some, List, [], ◌∷◌, refl, sym, ap, true≢false, arith}
use Rattle.std.specs.Prelude.{IsSome, slice_get}
use Rattle.std.specs.List.{filter_map, list_all}
use Rattle.std.specs.Option.{is_some}
use Rattle.artifact_files.specs.Files.{artifact_keys}
use Rattle.claim_rules.specs.Sessions.{is_known}
use Rattle.class_path.specs.Files.{AreAllKnown, row_for, row_of}
use Rattle.res_base.specs.Known.{Grows, Known}
use Rattle.res_base.specs.declared.key.FileKey.{FileKey}
use Rattle.res_base.specs.declared.reading.Reading.{Reading}
use Rattle.resolution.specs.declared.verdict.Verdict.{Verdict}
use Rattle.resolution.specs.declared.verdict.Verdict.TheVariants.{Clashes, Failed, Settled, Unsettled}
use Rattle.round_core.specs.Reads.{files_if as keys_if}
use Rattle.job_session.specs.Answers.{files_if}

both : (a b : Bool) → (a && b) ≡ true → (a ≡ true) × (b ≡ true)
both true b e = (refl, e)
both false b e = absurd (true≢false (sym e))

first_known : (known : Known) (key : FileKey) (keys : List FileKey) → list_all (is_known known) (key ∷ keys) ≡ true
    → (is_known known key ≡ true) × (list_all (is_known known) keys ≡ true)
first_known known key keys all = both (is_known known key) (list_all (is_known known) keys) all

some_known : (found : Option Reading) → is_some found ≡ true → IsSome found
some_known None e = absurd (true≢false (sym e))
some_known (Some reading) e = refl

pub all_known : (known : Known) (keys : List FileKey) → list_all (is_known known) keys ≡ true → AreAllKnown known keys
all_known known [] all k d within = absurd (omega (arith, within))
all_known known (key ∷ keys) all zero d within = some_known (known key) (first_known known key keys all).0
all_known known (key ∷ keys) all (suc k) d within =
    all_known known keys (first_known known key keys all).1 k d (omega (arith, within))

known_same : (known whole : Known) (key : FileKey) → Grows known whole → is_known known key ≡ true → known key ≡ whole key
known_same known whole key more known_key = by (known key) refl known_key
  where
    by : (found : Option Reading) → known key ≡ found → is_some found ≡ true → found ≡ whole key
    by None is e = absurd (true≢false (sym e))
    by (Some reading) is e = sym (more key reading is)

rows_same : (known whole : Known) (addresses : List (List ℕ)) → Grows known whole → (keys : List FileKey)
    → list_all (is_known known) keys ≡ true
    → filter_map (row_for known addresses) keys ≡ filter_map (row_for whole addresses) keys
rows_same known whole addresses more [] all = refl
rows_same known whole addresses more (key ∷ keys) all =
    let parts = first_known known key keys all in
    let one : row_for known addresses key ≡ row_for whole addresses key =
    ap (row_of key (slice_get addresses key.repo)) (known_same known whole key more parts.0) in
    rw (one, rows_same known whole addresses more keys parts.1) refl

pub files_same : (b : Bool) (verdict : Verdict) (known whole : Known) (addresses : List (List ℕ)) → Grows known whole
    → list_all (is_known known) (keys_if b verdict) ≡ true
    → files_if b verdict known addresses ≡ files_if b verdict whole addresses
files_same false verdict known whole addresses more all = refl
files_same true (Settled settled) known whole addresses more all =
    rows_same known whole addresses more (artifact_keys settled) all
files_same true (Clashes rows) known whole addresses more all = refl
files_same true (Failed rows) known whole addresses more all = refl
files_same true (Unsettled rounds) known whole addresses more all = refl

-- What follows from how a call ends.
use Rattle.std.proofs.Common.{◌≡◌, ◌⊎◌, ◌≤◌, ℕ, List, length, Err, inl, inr, ⊎_elim, arith, sym, ◌∙◌, ap, subst, refl}
use Rattle.cli_words.specs.Words.{job_in}
use Rattle.command_lines.specs.Refusals.{said_of}
use Rattle.command_lines.specs.declared.refusals.Refusal.TheVariants as refusals
use Rattle.job_session.specs.Answers.{files_of}
use Rattle.line_streams.specs.Outcomes.{Streams, IsTold, IsCut, IsCutErr, IsForOut, whole, cut_out, cut_err, Ends, says, no_memory}
use Rattle.line_streams.specs.Said.{err_of, status_of}
use Rattle.line_streams.specs.declared.said.Said.{Said}
use Rattle.pool_rules.specs.Counts.{Counts}
use Rattle.res_base.specs.Known.{known_of}
use Rattle.res_base.specs.declared.key.FileKey.{FileKey}
use Rattle.word_values.specs.declared.job.Job.{Job}
use Rattle.word_values.specs.declared.refusals.WordKind.{WordKind}
use Rattle.word_values.specs.declared.refusals.WordsErr.TheVariants.{BadWords}
use Rattle.coursier_run.specs.Justified.{IsJustified, refused, done}
use Rattle.coursier_run.specs.Promises.{AnswersRefusal, BlamesDisk, BlamesLink, FailedFor, LacksFile, NeedsMany, PrintsVerdict, RefusesWords}
use Rattle.link_base.specs.Links.{Rows}
use Rattle.coursier_run.proofs.Reasons.{Reason, Stays, refuses, prints, blames, misses, many, disk, is_answer, reason}

cut_status : (rose : Type 0) (status : ℕ) → IsCut rose status → (status ≡ 5) ⊎ (status ≡ 6)
cut_status rose status (inl five) = inl five
cut_status rose status (inr six) = inr six.0

cut_rose : (rose : Type 0) (status : ℕ) → IsCut rose status → status ≡ 6 → rose
cut_rose rose status (inl five) six = absurd (omega arith)
cut_rose rose status (inr cut) six = cut.1

told_as : (s : Streams) (said other : Said) (status n : ℕ) → IsTold s said status → said ≡ other → status ≡ n → IsTold s other n
told_as s said other status n told is at = subst (λ m. IsTold s other m) at (subst (λ x. IsTold s x status) is told)

module _ (stays : Stays) (World : Rows → Type 0) (words : List (List ℕ)) (before now : Counts) (s : Streams)
    (out_rose err_rose : Type 0) (status : ℕ) where
  abbrev pub Ended : Type 0
  Ended = Ends (IsJustified World words before now) s out_rose err_rose status

  -- what was told in whole, or that it was cut
  abbrev pub Whole : Type 0
  Whole = (said : Said) × (Reason World words before now said) × (IsTold s said status)

  pub whole_or_cut : Ended → Whole ⊎ ((status ≡ 5) ⊎ (status ≡ 6))
  whole_or_cut (no_memory lacking) = inr (cut_status err_rose status lacking.cut)
  whole_or_cut (says said j (whole told)) = inl (said, reason stays World words before now said j, told)
  whole_or_cut (says said j (cut_out is cut parts)) = inr (cut_status (out_rose ⊎ err_rose) status cut)
  whole_or_cut (says said j (cut_err is cut parts)) = inr (cut_status err_rose status cut)

  below : (said : Said) → Reason World words before now said → status ≡ status_of said → status ≤ 8
  below said (refuses kind place read is) at = omega (arith, at, ap status_of is)
  below said (prints job known v read over is worlds) at =
      ⊎_elim (λ zero. omega (arith, at, ap status_of is, zero)) (λ one. omega (arith, at, ap status_of is, one)) (is_answer job v (files_of job v (known_of known)) (length known))
  below said (blames job key read online rose needs is) at = omega (arith, at, ap status_of is)
  below said (misses job key read offline needs is) at = omega (arith, at, ap status_of is)
  below said (many job read more is) at = omega (arith, at, ap status_of is)
  below said (disk call rose last is) at = omega (arith, at, ap status_of is)

  pub has_status : Ended → status ≤ 8
  has_status ends = ⊎_elim (λ w. below w.0 w.1 w.2.status_is) (λ cut. ⊎_elim (λ e. omega (arith, e)) (λ e. omega (arith, e)) cut) (whole_or_cut ends)

  -- with a status that is neither that of a failed stream nor that of want of memory, something was told in whole
  told : Ended → (n : ℕ) → status ≡ n → (n ≡ 5 → ⊥) → (n ≡ 6 → ⊥) → Whole
  told ends n at five six = ⊎_elim (λ w. w) (λ cut. ⊎_elim (λ e. absurd (five (sym at ∙ e))) (λ e. absurd (six (sym at ∙ e))) cut) (whole_or_cut ends)

  answer_at : (said : Said) → Reason World words before now said → IsTold s said status → status ≤ 1 → PrintsVerdict World words s status
  answer_at said (refuses kind place read is) t le = absurd (omega (arith, t.status_is, ap status_of is, le))
  answer_at said (prints job known v read over is worlds) t le =
      record {
        job = job;
        read = read;
        known = known;
        verdict = v;
        over = over;
        told = told_as s said _ status status t is refl;
        worlds = worlds;
      }
  answer_at said (blames job key read online rose needs is) t le = absurd (omega (arith, t.status_is, ap status_of is, le))
  answer_at said (misses job key read offline needs is) t le = absurd (omega (arith, t.status_is, ap status_of is, le))
  answer_at said (many job read more is) t le = absurd (omega (arith, t.status_is, ap status_of is, le))
  answer_at said (disk call rose last is) t le = absurd (omega (arith, t.status_is, ap status_of is, le))

  pub prints_verdict : Ended → status ≤ 1 → PrintsVerdict World words s status
  prints_verdict ends le =
      let w = told ends status refl (λ e. omega (arith, e, le)) (λ e. omega (arith, e, le)) in
      answer_at w.0 w.1 w.2 le

  refuses_at : (said : Said) → Reason World words before now said → IsTold s said status → status ≡ 2 → RefusesWords words s
  refuses_at said (refuses kind place read is) t at = record { kind = kind; place = place; read = read; told = told_as s said _ status 2 t is at }
  refuses_at said (prints job known v read over is worlds) t at =
      absurd (⊎_elim (λ e. omega (arith, t.status_is, ap status_of is, e, at)) (λ e. omega (arith, t.status_is, ap status_of is, e, at)) (is_answer job v (files_of job v (known_of known)) (length known)))
  refuses_at said (blames job key read online rose needs is) t at = absurd (omega (arith, t.status_is, ap status_of is, at))
  refuses_at said (misses job key read offline needs is) t at = absurd (omega (arith, t.status_is, ap status_of is, at))
  refuses_at said (many job read more is) t at = absurd (omega (arith, t.status_is, ap status_of is, at))
  refuses_at said (disk call rose last is) t at = absurd (omega (arith, t.status_is, ap status_of is, at))

  pub refuses_words : Ended → status ≡ 2 → RefusesWords words s
  refuses_words ends at = let w = told ends 2 at (λ e. omega (arith, e)) (λ e. omega (arith, e)) in refuses_at w.0 w.1 w.2 at

  blames_at : (said : Said) → Reason World words before now said → IsTold s said status → status ≡ 3 → BlamesLink World (FailedFor before now) words s
  blames_at said (refuses kind place read is) t at = absurd (omega (arith, t.status_is, ap status_of is, at))
  blames_at said (prints job known v read over is worlds) t at =
      absurd (⊎_elim (λ e. omega (arith, t.status_is, ap status_of is, e, at)) (λ e. omega (arith, t.status_is, ap status_of is, e, at)) (is_answer job v (files_of job v (known_of known)) (length known)))
  blames_at said (blames job key read online rose needs is) t at =
      record { job = job; read = read; key = key; online = online; failed = rose; needed = needs; told = told_as s said _ status 3 t is at }
  blames_at said (misses job key read offline needs is) t at = absurd (omega (arith, t.status_is, ap status_of is, at))
  blames_at said (many job read more is) t at = absurd (omega (arith, t.status_is, ap status_of is, at))
  blames_at said (disk call rose last is) t at = absurd (omega (arith, t.status_is, ap status_of is, at))

  pub blames_link : Ended → status ≡ 3 → BlamesLink World (FailedFor before now) words s
  blames_link ends at = let w = told ends 3 at (λ e. omega (arith, e)) (λ e. omega (arith, e)) in blames_at w.0 w.1 w.2 at

  disk_at : (said : Said) → Reason World words before now said → IsTold s said status → status ≡ 4 → BlamesDisk before.disk_faults now.disk_faults now.disk_last s
  disk_at said (refuses kind place read is) t at = absurd (omega (arith, t.status_is, ap status_of is, at))
  disk_at said (prints job known v read over is worlds) t at =
      absurd (⊎_elim (λ e. omega (arith, t.status_is, ap status_of is, e, at)) (λ e. omega (arith, t.status_is, ap status_of is, e, at)) (is_answer job v (files_of job v (known_of known)) (length known)))
  disk_at said (blames job key read online rose needs is) t at = absurd (omega (arith, t.status_is, ap status_of is, at))
  disk_at said (misses job key read offline needs is) t at = absurd (omega (arith, t.status_is, ap status_of is, at))
  disk_at said (many job read more is) t at = absurd (omega (arith, t.status_is, ap status_of is, at))
  disk_at said (disk call rose last is) t at = record { call = call; rose = rose; failed = last; told = told_as s said _ status 4 t is at }

  pub blames_disk : Ended → status ≡ 4 → BlamesDisk before.disk_faults now.disk_faults now.disk_last s
  blames_disk ends at = let w = told ends 4 at (λ e. omega (arith, e)) (λ e. omega (arith, e)) in disk_at w.0 w.1 w.2 at

  lacks_at : (said : Said) → Reason World words before now said → IsTold s said status → status ≡ 7 → LacksFile World words s
  lacks_at said (refuses kind place read is) t at = absurd (omega (arith, t.status_is, ap status_of is, at))
  lacks_at said (prints job known v read over is worlds) t at =
      absurd (⊎_elim (λ e. omega (arith, t.status_is, ap status_of is, e, at)) (λ e. omega (arith, t.status_is, ap status_of is, e, at)) (is_answer job v (files_of job v (known_of known)) (length known)))
  lacks_at said (blames job key read online rose needs is) t at = absurd (omega (arith, t.status_is, ap status_of is, at))
  lacks_at said (misses job key read offline needs is) t at =
      record { job = job; read = read; key = key; offline = offline; needed = needs; told = told_as s said _ status 7 t is at }
  lacks_at said (many job read more is) t at = absurd (omega (arith, t.status_is, ap status_of is, at))
  lacks_at said (disk call rose last is) t at = absurd (omega (arith, t.status_is, ap status_of is, at))

  pub lacks_file : Ended → status ≡ 7 → LacksFile World words s
  lacks_file ends at = let w = told ends 7 at (λ e. omega (arith, e)) (λ e. omega (arith, e)) in lacks_at w.0 w.1 w.2 at

  many_at : (said : Said) → Reason World words before now said → IsTold s said status → status ≡ 8 → NeedsMany World words s
  many_at said (refuses kind place read is) t at = absurd (omega (arith, t.status_is, ap status_of is, at))
  many_at said (prints job known v read over is worlds) t at =
      absurd (⊎_elim (λ e. omega (arith, t.status_is, ap status_of is, e, at)) (λ e. omega (arith, t.status_is, ap status_of is, e, at)) (is_answer job v (files_of job v (known_of known)) (length known)))
  many_at said (blames job key read online rose needs is) t at = absurd (omega (arith, t.status_is, ap status_of is, at))
  many_at said (misses job key read offline needs is) t at = absurd (omega (arith, t.status_is, ap status_of is, at))
  many_at said (many job read more is) t at = record { job = job; read = read; more = more; told = told_as s said _ status 8 t is at }
  many_at said (disk call rose last is) t at = absurd (omega (arith, t.status_is, ap status_of is, at))

  pub needs_many : Ended → status ≡ 8 → NeedsMany World words s
  needs_many ends at = let w = told ends 8 at (λ e. omega (arith, e)) (λ e. omega (arith, e)) in many_at w.0 w.1 w.2 at

  pub stream_rose : Ended → status ≡ 6 → out_rose ⊎ err_rose
  stream_rose (no_memory lacking) six = inr (cut_rose err_rose status lacking.cut six)
  stream_rose (says said j (whole t)) six = absurd (by (reason stays World words before now said j) t.status_is)
    where
      by : Reason World words before now said → status ≡ status_of said → ⊥
      by (refuses kind place read is) at = omega (arith, at, ap status_of is, six)
      by (prints job known v read over is worlds) at =
          ⊎_elim (λ e. omega (arith, at, ap status_of is, e, six)) (λ e. omega (arith, at, ap status_of is, e, six)) (is_answer job v (files_of job v (known_of known)) (length known))
      by (blames job key read online rose needs is) at = omega (arith, at, ap status_of is, six)
      by (misses job key read offline needs is) at = omega (arith, at, ap status_of is, six)
      by (many job read more is) at = omega (arith, at, ap status_of is, six)
      by (disk call rose last is) at = omega (arith, at, ap status_of is, six)
  stream_rose (says said j (cut_out is cut parts)) six = cut_rose (out_rose ⊎ err_rose) status cut six
  stream_rose (says said j (cut_err is cut parts)) six = inr (cut_rose err_rose status cut six)

  -- refused words are told, or there was no memory, or `err` failed
  refusal_said : (kind : WordKind) (place : ℕ) → job_in words ≡ Err (BadWords kind place) → (said : Said)
      → IsJustified World words before now said → said ≡ said_of (refusals.Words kind place)
  refusal_said kind place bad said (refused k p read is) = cc
  refusal_said kind place bad said (done job read d) = absurd cc

  pub answers_refusal : Ended → AnswersRefusal err_rose words s status
  answers_refusal (no_memory lacking) kind place bad = inr (lacking.cut, inr lacking.line)
  answers_refusal (says said j (whole t)) kind place bad =
      inl (told_as s said (said_of (refusals.Words kind place)) status status t (refusal_said kind place bad said j) refl)
  answers_refusal (says said j (cut_out is cut parts)) kind place bad = absurd (subst IsForOut (refusal_said kind place bad said j) is)
  answers_refusal (says said j (cut_err is cut parts)) kind place bad =
      inr (cut, inl (subst (λ x. IsCutErr s (err_of x)) (refusal_said kind place bad said j) parts))

-- from what rose to what rose with it
pub blames_wider : (World : Rows → Type 0) (R R' : Job → FileKey → Type 0) (words : List (List ℕ)) (s : Streams)
    → ((job : Job) (key : FileKey) → R job key → R' job key)
    → BlamesLink World R words s → BlamesLink World R' words s
blames_wider World R R' words s f b =
    record {
      job = b.job;
      read = b.read;
      key = b.key;
      online = b.online;
      failed = λ own. f b.job b.key (b.failed own);
      needed = b.needed;
      told = b.told;
    }

-- Sessions over fewer worlds, and those of a repository that is made up.
use Rattle.std.proofs.Common.{◌≡◌, ℕ, Option, Some, Result, Ok, Err, subst, sym}
use Rattle.std.specs.Prelude.{IfOk}
use Rattle.job_session.specs.Answers.{IsSession}
use Rattle.job_session.specs.Asks.{AsksWithin}
use Rattle.line_streams.specs.declared.said.Said.{Said}
use Rattle.link_base.specs.Links.{Rows}
use Rattle.pool_rules.specs.Counts.{Counts}
use Rattle.sample_world.specs.World.{sample_rows}
use Rattle.word_values.specs.declared.job.Job.{Job}
use Rattle.coursier_run.specs.Justified.{IsSampleOf, IsSampled}

pub if_ok : {A E : Type 0} {P Q : A → Type 0} (result : Result A E) → ((x : A) → P x → Q x) → IfOk result P → IfOk result Q
if_ok (Ok x) f h = f x h
if_ok (Err e) f h = tt

pub ok_at : {A E : Type 0} (P : A → Type 0) (result : Result A E) (x : A) → result ≡ Ok x → IfOk result P → P x
ok_at P result x is h = subst (λ r. IfOk r P) is h

pub ok_same : {A E : Type 0} (result : Result A E) (x y : A) → result ≡ Ok x → result ≡ Ok y → x ≡ y
ok_same result x y e f = cc

pub session_wider : (V W : Rows → Type 0) (job : Job) (moment : ℕ) (before now : Counts) (said : Said)
    → ((w : Rows) → W w → V w) → IsSession V job moment before now said → IsSession W job moment before now said
session_wider V W job moment before now said fewer session =
    record {
      fit = session.fit;
      desk = session.desk;
      finish = session.finish;
      worked = session.worked;
      says = session.says;
      known = λ w here. session.known w (fewer w here);
    }

pub asks_wider : (V W : Rows → Type 0) (job : Job) (rose : Type 0) (before now : ℕ) → ((w : Rows) → W w → V w)
    → AsksWithin V job rose before now → AsksWithin W job rose before now
asks_wider V W job rose before now fewer asks =
    record {
      silent = asks.silent;
      retried = λ w here. asks.retried w (fewer w here);
      calm = λ quiet w here. asks.calm quiet w (fewer w here);
    }

pub sampled_by : (World : Rows → Type 0) (job : Job) (seed count : ℕ) (begun now : Counts) (said : Said)
    → job.sample ≡ Some (seed, count) → now.disk_faults ≡ 0 → World (sample_rows seed count)
    → IsSession World job 0 begun now said → IsSampled job said
sampled_by World job seed count begun now said is calm here session =
    record {
      begun = begun;
      now = now;
      calm = calm;
      session = session_wider World (IsSampleOf job.sample) job 0 begun now said
          (λ w made.
          let it : w ≡ sample_rows seed count = subst (λ (o : Option (ℕ × ℕ)). IsSampleOf o w) is made in
          subst (λ (x : Rows). World x) (sym it) here)
          session;
    }

-- How a session begins and ends.
use Rattle.std.proofs.Common.{◌≡◌, ◌<◌, inl, inr, ℕ, Bool, true, false, ◌&&◌, Option, None, Some, List, [], ◌∷◌, Result, Ok, Err, refl, sym, ◌∙◌, ap, subst, true≢false, arith}
use Rattle.std.specs.Prelude.{IfOk}
use Rattle.std.specs.List.{list_all}
use Rattle.arrival_core.specs.Cores.{State}
use Rattle.arrival_core.specs.Resolving.{resolver_of, standing_of}
use Rattle.arrival_core.proofs.Keeping.{its_end}
use Rattle.cache_layout.specs.Addresses.{IsAddress, is_address}
use Rattle.claim_rules.specs.Claims.{IsAnswer, IsStuck, claim_of}
use Rattle.claim_rules.specs.Histories.{History, known_in}
use Rattle.claim_rules.specs.Least.{least}
use Rattle.claim_rules.specs.Sessions.{is_known, is_over, is_over_at, needs}
use Rattle.claim_rules.specs.declared.claim.Claim.{Claim}
use Rattle.claim_rules.specs.declared.settings.Settings.{Settings}
use Rattle.disk_base.specs.Images.{Image}
use Rattle.disk_base.specs.Names.{Names}
use Rattle.disk_base.specs.Runs.{Keeps}
use Rattle.line_streams.specs.declared.said.Said.{Said}
use Rattle.link_base.specs.Links.{Rows}
use Rattle.pool_rules.specs.Boards.{Desk, IsReady}
use Rattle.pool_rules.specs.Counts.{Counts}
use Rattle.pool_rules.specs.Ends.{IsFinish, IsWorked}
use Rattle.pool_rules.specs.Worlds.{StaysTrue, whole_of}
use Rattle.pool_rules.specs.declared.finish.Finish.{Finish}
use Rattle.pool_rules.specs.declared.finish.Finish.TheVariants as finishes
use Rattle.pool_rules.specs.declared.plan.Plan.{Plan}
use Rattle.res_base.specs.Known.{Grows, Known}
use Rattle.res_base.specs.Members.{Among}
use Rattle.res_base.specs.declared.key.FileKey.{FileKey}
use Rattle.resolution.specs.declared.ask.Ask.{Ask}
use Rattle.resolution.specs.declared.progress.Progress.{Progress}
use Rattle.resolution.specs.declared.progress.Progress.TheVariants.{Over, Waiting}
use Rattle.resolution.specs.declared.verdict.Verdict.{Verdict}
use Rattle.round_core.specs.Reads.{files_if as keys_if}
use Rattle.round_core.specs.Rounds.{rounds_of}
use Rattle.word_values.specs.Fits.{IsFit}
use Rattle.word_values.specs.declared.job.Job.{Job}
use Rattle.job_session.specs.Answers.{IsOver, IsSaidAt, IsSession, MaySay, WantsKnown}
use Rattle.job_session.specs.Beginnings.{IsFreshCore, fresh_desk, plan_for}

pub if_ok : {A E : Type 0} {P Q : A → Type 0} (result : Result A E) → ((x : A) → P x → Q x) → IfOk result P → IfOk result Q
if_ok (Ok x) f h = f x h
if_ok (Err e) f h = tt

-- a disk that was not touched
pub keeps_same : {D : Type 0} (told : D → Option Names) (moment : D → ℕ) (since : D → ℕ → Image → Type 0) (P : Image → Type 0)
    (disk : D) → Keeps told moment since P disk disk
keeps_same told moment since P disk = record { later = omega arith; now = λ all. all; each = λ all t i le has. inl has }

-- ---- the beginning

abbrev desk_with : Settings → History → Bool → Plan → Desk
desk_with s h b p = record { settings = s; history = h; caught_up = b; plan = p; ended = None }

desk_by : (s t : Settings) (h k : History) (b c : Bool) (p q : Plan) → s ≡ t → h ≡ k → b ≡ c → p ≡ q
    → desk_with s h b p ≡ desk_with t k c q
desk_by s t h k b c p q e f g i =
    ap (λ (x : Settings). desk_with x h b p) e ∙ ap (λ (x : History). desk_with t x b p) f
    ∙ ap (λ (x : Bool). desk_with t k x p) g ∙ ap (λ (x : Plan). desk_with t k c x) i

pub fresh_is : (job : Job) (moment : ℕ) (core : State) (plan : Plan) → IsFreshCore job core → plan ≡ plan_for job moment
    → desk_with core.settings core.history core.caught_up plan ≡ fresh_desk job moment
fresh_is job moment core plan fresh is = desk_by _ _ _ _ _ _ _ _ fresh.settings fresh.history fresh.caught_up is

both : (a b : Bool) → (a && b) ≡ true → (a ≡ true) × (b ≡ true)
both true b e = (refl, e)
both false b e = absurd (true≢false (sym e))

all_read : (addresses : List (List ℕ)) → list_all is_address addresses ≡ true → (address : List ℕ)
    → Among address addresses → IsAddress address
all_read [] all address member = absurd member
all_read (one ∷ addresses) all address (inl is) =
    subst (λ (x : List ℕ). is_address x ≡ true) (sym is) (both (is_address one) (list_all is_address addresses) all).0
all_read (one ∷ addresses) all address (inr member) =
    all_read addresses (both (is_address one) (list_all is_address addresses) all).1 address member

pub ready_for : (job : Job) (moment : ℕ) → IsFit job → IsReady (fresh_desk job moment)
ready_for job moment fit =
    record {
      going = refl;
      landed = refl;
      planned = record { count = sym fit.repos; read = all_read job.addresses fit.addresses };
    }

-- ---- the end

over_of : (ask : Ask) (known : Known) (progress : Progress) → rounds_of known ask ≡ progress
    → is_over_at (standing_of progress) (keys_if ask.files) known ≡ true → IsOver ask known
over_of ask known (Waiting round choices keys) is e = absurd (true≢false (sym e))
over_of ask known (Over verdict) is e = record { verdict = verdict; over = is; files = e }

-- the rounds have one verdict
pub over_is : (ask : Ask) (known : Known) (over : IsOver ask known) (verdict : Verdict) → rounds_of known ask ≡ Over verdict
    → over.verdict ≡ verdict
over_is ask known over verdict is = let d : Over over.verdict ≡ Over verdict = sym over.over ∙ is in cc

pub wants_same : (job : Job) (ask : Ask) (v verdict : Verdict) (known other : Known) → ask ≡ job.ask → v ≡ verdict
    → known ≡ other → list_all (is_known known) (keys_if ask.files v) ≡ true → WantsKnown job verdict other
wants_same job ask v verdict known other e f g all =
    subst (λ (k : Known). WantsKnown job verdict k) g
    (subst (λ (x : Verdict). WantsKnown job x known) f
    (subst (λ (a : Ask). list_all (is_known known) (keys_if a.files v) ≡ true) e all))

pub is_over_so : (ask : Ask) (known : Known) → is_over (resolver_of ask) known ≡ true → IsOver ask known
is_over_so ask known e = over_of ask known (rounds_of known ask) refl (sym (its_end ask known) ∙ e)

claim_same : {s t : Settings} {a b : Ask} {h k : History} {answer : Claim} → t ≡ s → b ≡ a → k ≡ h
    → claim_of t (resolver_of a) k ≡ answer → claim_of s (resolver_of b) h ≡ answer
claim_same {s} {t} {a} {b} {h} {k} {answer} e f g is =
    ap (λ (x : Ask). claim_of s (resolver_of x) h) f ∙ ap (λ (x : History). claim_of s (resolver_of a) x) (sym g)
    ∙ ap (λ (x : Settings). claim_of x (resolver_of a) k) (sym e) ∙ is

pub may_say : ((s : Settings) (ask : Ask) (h : History) → IsAnswer s (resolver_of ask) h (claim_of s (resolver_of ask) h))
    → ((keys : List FileKey) (key : FileKey) → least keys ≡ Some key → Among key keys)
    → ((ask : Ask) (known : Known) (key : FileKey) → Among key (needs (resolver_of ask) known) → key.repo < ask.repos)
    → (job : Job) (core : State) (desk : Desk) (before now : Counts) (finish : Finish) → IsFit job → core.ask ≡ job.ask
    → desk.settings ≡ core.settings → desk.history ≡ core.history → desk.caught_up ≡ core.caught_up
    → IsFinish (resolver_of job.ask) desk before now finish → MaySay job core finish
may_say says among listed job core desk before now finishes.Over fit asks settings history up ends =
    (sym up ∙ ends.2, claim_same settings asks history ends.0)
may_say says among listed job core desk before now (finishes.Stuck key why) fit asks settings history up ends =
    let stuck : IsStuck desk.settings (resolver_of job.ask) desk.history key =
    subst (λ answer. IsAnswer desk.settings (resolver_of job.ask) desk.history answer) ends.0
    (says desk.settings job.ask desk.history) in
    subst (λ n. key.repo < n) fit.repos
    (listed job.ask (known_in desk.history) key (among (needs (resolver_of job.ask) (known_in desk.history)) key stuck.first))
may_say says among listed job core desk before now finishes.TooMany fit asks settings history up ends = tt
may_say says among listed job core desk before now (finishes.Disk call) fit asks settings history up ends = tt
may_say says among listed job core desk before now finishes.Memory fit asks settings history up ends = tt

pub none_known : (all : Known) → Grows (known_in []) all
none_known all key reading e = absurd cc

pub session_of : (World : Rows → Type 0) (job : Job) (moment : ℕ) (ask : Ask) (old new : Desk) (before now : Counts)
    (finish : Finish) (said : Said) → IsFit job → ask ≡ job.ask → old ≡ fresh_desk job moment
    → IsWorked (resolver_of ask) old new before now finish
    → ((w : Rows) → World w → StaysTrue (whole_of old.plan w) old.history new.history)
    → IsSaidAt job new.history finish said → IsSession World job moment before now said
session_of World job moment ask old new before now finish said fit is fresh worked stays says =
    record {
      fit = fit;
      desk = new;
      finish = finish;
      worked =
          subst (λ (d : Desk). IsWorked (resolver_of job.ask) d new before now finish) fresh
          (subst (λ (a : Ask). IsWorked (resolver_of a) old new before now finish) is worked);
      says = says;
      known = λ w here.
          subst (λ (d : Desk). StaysTrue (whole_of d.plan w) d.history new.history) fresh (stays w here)
          (none_known (whole_of (plan_for job moment) w));
    }

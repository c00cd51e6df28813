-- The rounds of an ask are lawful.
use Rattle.std.proofs.Common.{◌≡◌, ℕ, ◌<◌, arith, List, [], length, None, refl, sym, ap, subst}
use Rattle.std.specs.Prelude.{Contains}
use Rattle.arrival_core.proofs.Members.{agree_from, from_contains, to_contains}
use Rattle.arrival_core.specs.Resolving.{resolver_of, standing_of}
use Rattle.claim_rules.specs.Resolvers.{IsLawful, waiting, awaited}
use Rattle.pom_build.specs.Reads.{Agree}
use Rattle.res_base.specs.Known.{Grows, Known}
use Rattle.res_base.specs.Members.{Among}
use Rattle.res_base.specs.declared.key.FileKey.{FileKey}
use Rattle.resolution.specs.declared.ask.Ask.{Ask}
use Rattle.resolution.specs.declared.choices.Choices.{Choices}
use Rattle.resolution.specs.declared.progress.Progress.{Progress}
use Rattle.resolution.specs.declared.progress.Progress.TheVariants.{Waiting, Over}
use Rattle.round_core.specs.Reads.{needs_in, reads_of}
use Rattle.round_core.specs.Rounds.{rounds_of}

pub awaits : (p : Progress) → awaited (standing_of p) ≡ needs_in p
awaits (Waiting round choices needs) = refl
awaits (Over verdict) = refl

module _ (ask : Ask)
    (rounds : (known other : Known) → Agree known other (reads_of known ask) → rounds_of other ask ≡ rounds_of known ask)
    (looks : (known other : Known) → Agree known other (reads_of known ask) → reads_of other ask ≡ reads_of known ask)
    (grow : (before after : Known) (key : FileKey) → Grows before after → Contains (reads_of before ask) key → Contains (reads_of after ask) key)
    (open_key : (known : Known) (key : FileKey) → Contains (reads_of known ask) key → known key ≡ None → Contains (needs_in (rounds_of known ask)) key)
    (unknown_key : (known : Known) (key : FileKey) → Contains (needs_in (rounds_of known ask)) key → known key ≡ None)
    (read_key : (known : Known) (key : FileKey) → Contains (needs_in (rounds_of known ask)) key → Contains (reads_of known ask) key)
    (some_keys : (known : Known) (round : ℕ) (choices : Choices) (needs : List FileKey) → rounds_of known ask ≡ Waiting round choices needs → 0 < length needs) where
  waits_for : (known : Known) (key : FileKey) → Among key (awaited (standing_of (rounds_of known ask))) → Contains (needs_in (rounds_of known ask)) key
  waits_for known key m = to_contains (needs_in (rounds_of known ask)) key (subst (λ keys. Among key keys) (awaits (rounds_of known ask)) m)

  never_nothing : (known : Known) (p : Progress) → rounds_of known ask ≡ p → standing_of p ≡ waiting [] → ⊥
  never_nothing known (Waiting round choices needs) is e =
      let none : needs ≡ [] = ap awaited e in
      absurd (omega (arith, some_keys known round choices needs is, ap length none))
  never_nothing known (Over verdict) is e = cc

  pub lawful : IsLawful (resolver_of ask)
  unfolding resolver_of
  lawful =
      record {
        fixed = λ one other same. ap standing_of (rounds one other (agree_from one other (reads_of one ask) same));
        fixed_reads = λ one other same. looks one other (agree_from one other (reads_of one ask) same);
        opens = λ known key m none.
            subst (λ keys. Among key keys) (sym (awaits (rounds_of known ask)))
            (from_contains (needs_in (rounds_of known ask)) key (open_key known key (to_contains (reads_of known ask) key m) none));
        unknown = λ known key m. unknown_key known key (waits_for known key m);
        read = λ known key m. from_contains (reads_of known ask) key (read_key known key (waits_for known key m));
        grows = λ before after g key m. from_contains (reads_of after ask) key (grow before after key g (to_contains (reads_of before ask) key m));
        some = λ known e. never_nothing known (rounds_of known ask) refl e;
      }

use Rattle.std.proofs.Common.{get_or, sym, ◌∙◌, ap, subst, arith}
use Rattle.std.proofs.lemmas.Bool.{false≢true}
use Rattle.pom_grammar.specs.Characters.{is_high}
use Rattle.pom_grammar.specs.Machine.{in_run}
use Rattle.pom_text.specs.Scans.{Breaks, Partial}
use Rattle.pom_text.proofs.Runs.{partial_more, partial_runs, partial_stops, partial_ends}
use Rattle.pom_text.proofs.scans.char_end.Goals as goal

pub returns-in-None-clause-err : goal.returns-in-None-clause-err
returns-in-None-clause-err c = λ kind.
    subst (Breaks c.args.encoding c.args.bytes.now kind c.args.at) (sym c.bad_text.ensures)
    (partial_stops c.args.encoding c.args.bytes.now c.ascii_ends_runs.ensures kind c.args.at
    c.loop-i.i c.loop-i.tail c.loop-i-test.true (c.loop-i.invariant.0 kind)
    (λ f. ap (λ k. is_high (get_or c.args.bytes.now k 0)) (c.loop-i.invariant.1 f) ∙ c.requires.high)
    (sym c.in-None.ensures))

pub returns-then-is_whole-clause-ok : goal.returns-then-is_whole-clause-ok
returns-then-is_whole-clause-ok c = λ kind.
    partial_runs c.args.encoding c.args.bytes.now kind c.args.at _ c.in-Some.next
    (partial_more c.args.encoding c.args.bytes.now c.ascii_ends_runs.ensures kind c.args.at
    c.loop-i.i c.loop-i.tail c.in-Some.next c.loop-i-test.true (c.loop-i.invariant.0 kind)
    (λ f. ap (λ k. is_high (get_or c.args.bytes.now k 0)) (c.loop-i.invariant.1 f) ∙ c.requires.high)
    (sym c.in-Some.ensures))
    (sym c.is_whole.ensures ∙ c.if-is_whole.true)

pub loop-i-preserved : goal.loop-i-preserved
loop-i-preserved c = (
  λ kind. partial_more c.args.encoding c.args.bytes.now c.ascii_ends_runs.ensures kind c.args.at
      c.loop-i.i c.loop-i.tail c.in-Some.next c.loop-i-test.true (c.loop-i.invariant.0 kind)
      (λ f. ap (λ k. is_high (get_or c.args.bytes.now k 0)) (c.loop-i.invariant.1 f) ∙ c.requires.high)
      (sym c.in-Some.ensures),
  λ f. absurd (false≢true (sym (sym c.is_whole.ensures ∙ c.if-is_whole.false) ∙ f)),
)

pub returns-clause-err : goal.returns-clause-err
returns-clause-err c = λ kind.
    subst (Breaks c.args.encoding c.args.bytes.now kind c.args.at) (sym c.bad_text-2.ensures)
    (partial_ends c.args.encoding c.args.bytes.now kind c.args.at _ c.loop-i.tail (omega arith)
    (subst (λ k. Partial c.args.encoding c.args.bytes.now kind c.args.at k c.loop-i.tail) (omega arith)
    (c.loop-i.invariant.0 kind)))

pub returns-then-is_whole-clause-past_ascii : goal.returns-then-is_whole-clause-past_ascii
returns-then-is_whole-clause-past_ascii c =
    (partial_more c.args.encoding c.args.bytes.now c.ascii_ends_runs.ensures in_run c.args.at
    c.loop-i.i c.loop-i.tail c.in-Some.next c.loop-i-test.true (c.loop-i.invariant.0 in_run)
    (λ f. ap (λ k. is_high (get_or c.args.bytes.now k 0)) (c.loop-i.invariant.1 f) ∙ c.requires.high)
    (sym c.in-Some.ensures)).high

use Rattle.std.proofs.Common.{◌∙◌}
use Rattle.pom_text.proofs.TextFacts.{slice_text, rest_text, run_expands}
use Rattle.pom_text.proofs.references.add_run.Goals as goal

pub add_plain-requires : goal.add_plain-requires
add_plain-requires c =
    slice_text c.args.encoding c.args.run.now c.loop-i.i c.ampersand-next.result c.ampersand-next.ensures.forth
    c.ampersand-next.ensures.within c.ampersand-next.ensures.is_ampersand c.loop-i.invariant.1

pub loop-i-preserved-then-i-run : goal.loop-i-preserved-then-i-run
loop-i-preserved-then-i-run c =
    let prefix =
    slice_text c.args.encoding c.args.run.now c.loop-i.i c.ampersand-next.result c.ampersand-next.ensures.forth
    c.ampersand-next.ensures.within c.ampersand-next.ensures.is_ampersand c.loop-i.invariant.1 in (
      c.in_ok-i.ensures.past,
      c.in_ok-i.ensures.is_text c.args.encoding
          (rest_text c.args.encoding c.args.run.now c.loop-i.i c.ampersand-next.result c.ampersand-next.ensures.forth
          prefix c.loop-i.invariant.1),
      c.loop-i.invariant.2
          ∙ run_expands c.args.encoding c.args.run.now c.loop-i.text c.add_plain.new.text c.loop-i.i
          c.ampersand-next.result c.ampersand-next.ensures.forth c.ampersand-next.ensures.plain
          c.in_ok-add_plain.ensures
          ∙ c.in_ok-i.ensures.ok c.args.encoding,
    )

pub loop-i-preserved : goal.loop-i-preserved
loop-i-preserved c =
    let prefix =
    slice_text c.args.encoding c.args.run.now c.loop-i.i c.ampersand-next.result c.ampersand-next.ensures.forth
    c.ampersand-next.ensures.within c.ampersand-next.ensures.is_ampersand c.loop-i.invariant.1 in (
      c.ampersand-next.ensures.within,
      rest_text c.args.encoding c.args.run.now c.loop-i.i c.ampersand-next.result c.ampersand-next.ensures.forth prefix
          c.loop-i.invariant.1,
      c.loop-i.invariant.2
          ∙ run_expands c.args.encoding c.args.run.now c.loop-i.text c.add_plain.new.text c.loop-i.i
          c.ampersand-next.result c.ampersand-next.ensures.forth c.ampersand-next.ensures.plain
          c.in_ok-add_plain.ensures,
    )

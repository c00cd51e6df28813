use Rattle.std.proofs.Common.{ap}
use Rattle.pom_grammar.specs.Encodings.{utf8_of}
use Rattle.pom_grammar.specs.Machine.{with_text}
use Rattle.pom_text.specs.Views.{frame_view}
use Rattle.pom_text.proofs.MarkupFacts.{text_nests}
use Rattle.pom_text.proofs.markup.add_cdata.Goals as goal

pub returns : goal.returns
returns c =
    text_nests c.args.stack.root c.args.stack.frames c.push.new.self c.args.frame c.add_plain.new.text
    (with_text (frame_view c.args.frame) (utf8_of c.args.encoding c.args.bytes.now)) c.in_ok-push.ensures.ok
    (ap (λ t. frame_view
    (record {
      raw = c.args.frame.raw;
      label = c.args.frame.label;
      text = t;
      children =
          c.args.frame.children;
    })) c.in_ok-add_plain.ensures)

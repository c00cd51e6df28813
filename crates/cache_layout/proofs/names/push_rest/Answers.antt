use Rattle.std.proofs.Common.{◌≡◌, ◌++◌, [], ◌∷◌, ap, sym, take, get_or, ◌∙◌}
use Rattle.std.specs.Prelude.{string_bytes}
use Rattle.std.proofs.lemmas.List.{append-nil, append_assoc, take_all}
use Rattle.cache_layout.specs.Names.{escaped, escaped_byte}
use Rattle.cache_layout.proofs.Escapes.{escaped_more}
use Rattle.cache_layout.proofs.names.push_rest.Goals as goal

pub loop-byte-init : goal.loop-byte-init
loop-byte-init c = sym (append-nil (string_bytes c.args.name.now))

pub loop-byte-preserved : goal.loop-byte-preserved
loop-byte-preserved c =
    let text = c.args.text.now in
    let i = c.loop-byte.byte-index in
    let byte = get_or text i 0 in
    let before = string_bytes c.args.name.now in
    c.in_ok-push_escaped.ensures ∙ ap (λ t. t ++ escaped_byte byte) c.loop-byte.invariant
    ∙ append_assoc before (escaped (take i text)) (escaped_byte byte)
    ∙ ap (λ t. before ++ t) (sym (escaped_more text i c.loop-byte-test.true))

pub returns : goal.returns
returns c = c.loop-byte.invariant
    ∙ ap (λ t. string_bytes c.args.name.now ++ escaped t) (take_all c.loop-byte.byte-index c.args.text.now c.loop-byte-test.false)

use Rattle.std.proofs.Common.{◌≡◌, ◌∙◌, codes, true, false, sym, inl, inr, Ok, Err}
use Rattle.hex.proofs.HexLemmas.{decode_of-same}
use Rattle.case_words.proofs.HexWords.{dash-Decides, decode_of-hex_word, hex_word-dash, only_from}
use Rattle.case_words.proofs.hex_word.decoded.Goals as goal

pub returns-then-eq : goal.returns-then-eq
returns-then-eq c = λ bytes own e.
    c.new.ensures.items ∙ sym (hex_word-dash bytes (e ∙ (dash-Decides c.args.word.now).0 (sym c.eq.ensures ∙ c.if-eq.true)))

pub returns-in_err-decode : goal.returns-in_err-decode
returns-in_err-decode c = λ bytes own e.
    let other : c.args.word.now ≡ codes "-" → ⊥ = λ dash.
    let h : true ≡ false = sym ((dash-Decides c.args.word.now).1 dash) ∙ sym c.eq.ensures ∙ c.if-eq.false in cc in
    let value = decode_of-hex_word bytes c.args.word.now own e other in
    elim c.in_err-decode.ensures.err [
      | inl memory ↦ only_from _ _ c.from_residual.result memory c.from_residual.ensures.1
      | inr fault ↦ let h : Ok bytes ≡ Err c.in_err-decode.field-0.0 = sym value ∙ fault in cc
    ]

pub returns : goal.returns
returns c = λ bytes own e.
    let other : c.args.word.now ≡ codes "-" → ⊥ = λ dash.
    let h : true ≡ false = sym ((dash-Decides c.args.word.now).1 dash) ∙ sym c.eq.ensures ∙ c.if-eq.false in cc in
    decode_of-same c.args.word.now c.in_ok-decode.field-0.items bytes c.in_ok-decode.ensures.ok (decode_of-hex_word bytes c.args.word.now own e other)

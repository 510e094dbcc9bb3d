-- An encoding is one value, so it is what was read.
use Rattle.std.proofs.Common.{[], sym, ◌∙◌, append-nil}
use Rattle.der_core.specs.Any.{plain_ref}
use Rattle.der_core.proofs.Encoded.{encoded_from}
use Rattle.der_core.proofs.any.Any.encode_from.Goals as goal

pub returns-in_err-read_value : goal.returns-in_err-read_value
returns-in_err-read_value g c =
    let value = g.met.T.Encode.one_value c.args.value.now c.in_ok-bytes.ensures.1 in
    let is = c.new-cursor.ensures ∙ c.deref.ensures.value ∙ c.in_ok-bytes.ensures.0 in
    absurd (c.in_err-read_value.ensures.none (g.T.Encode.encoding c.args.value.now) [] value (is ∙ sym (append-nil (g.T.Encode.encoding c.args.value.now))))

pub returns : goal.returns
returns g c =
    let value = g.met.T.Encode.one_value c.args.value.now c.in_ok-bytes.ensures.1 in
    let is = c.new-cursor.ensures ∙ c.deref.ensures.value ∙ c.in_ok-bytes.ensures.0 in
    encoded_from (g.T.Encode.encoding c.args.value.now) _ c.read_value.new.self (plain_ref c.in_ok-read_value.field-0) c.ref_to_owned.result
    c.in_ok-bytes.ensures.1 value is c.in_ok-read_value.ensures.value c.in_ok-read_value.field-0.tag.valid c.in_ok-read_value.ensures.fits
    c.ref_to_owned.ensures

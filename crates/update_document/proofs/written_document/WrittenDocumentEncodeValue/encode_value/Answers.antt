-- The entries, the bundles, and then the reason.
use Rattle.std.proofs.Common.{◌++◌, option_map, Err, ap, ◌∙◌}
use Rattle.std.proofs.lemmas.Result.{err_from_is_err_and}
use Rattle.std.specs.List.{flat_map}
use Rattle.der_core.specs.Der.{encode}
use Rattle.der_core.specs.SequenceLaws.{rest_fits}
use Rattle.der_core.specs.Writing.{wrote_refused, wrote_then}
use Rattle.der_small.specs.Utf8.{text_ref}
use Rattle.update_document.specs.Spelling.{reason_der}
use Rattle.update_document.proofs.written_document.WrittenDocumentEncodeValue.encode_value.Goals as goal

pub returns-in_err-encode-clause-wrote : goal.returns-in_err-encode-clause-wrote
returns-in_err-encode-clause-wrote g c =
    let p = err_from_is_err_and c.from_residual-in_err-encode.result c.from_residual-in_err-encode.ensures.1 in
    wrote_refused (encode 48 (flat_map g.B.Encode.encoding c.args.self.now.bundles.now) ++ reason_der (option_map text_ref c.args.self.now.reason))
    c.in_err-encode.ensures.wrote (p.1 ∙ ap Err p.2) c.in_ok-value_len.ensures.1

pub returns-in_err-encode-2-clause-wrote : goal.returns-in_err-encode-2-clause-wrote
returns-in_err-encode-2-clause-wrote g c =
    let p = err_from_is_err_and c.from_residual-in_err-encode-2.result c.from_residual-in_err-encode-2.ensures.1 in
    let behind = rest_fits (g.L.Encode.encoding c.args.self.now.entries.now)
    (encode 48 (flat_map g.B.Encode.encoding c.args.self.now.bundles.now) ++ reason_der (option_map text_ref c.args.self.now.reason))
    c.in_ok-value_len.ensures.1 in
    wrote_then c.in_ok-encode.ensures.wrote c.encode.ensures.count
    (wrote_refused (reason_der (option_map text_ref c.args.self.now.reason)) c.in_err-encode-2.ensures.wrote (p.1 ∙ ap Err p.2) behind)
    c.in_ok-value_len.ensures.1

pub returns-clause-wrote : goal.returns-clause-wrote
returns-clause-wrote g c =
    let behind = rest_fits (g.L.Encode.encoding c.args.self.now.entries.now)
    (encode 48 (flat_map g.B.Encode.encoding c.args.self.now.bundles.now) ++ reason_der (option_map text_ref c.args.self.now.reason))
    c.in_ok-value_len.ensures.1 in
    wrote_then c.in_ok-encode.ensures.wrote c.encode.ensures.count
    (wrote_then c.in_ok-encode-2.ensures.wrote c.encode-2.ensures.count c.encode_reason.ensures.wrote behind) c.in_ok-value_len.ensures.1

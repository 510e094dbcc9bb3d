-- The text of the id, the private key, and then the public key.
use Rattle.std.proofs.Common.{◌++◌, Err, ap, ◌∙◌}
use Rattle.std.proofs.lemmas.Result.{err_from_is_err_and}
use Rattle.der_core.specs.Der.{encode}
use Rattle.der_core.specs.SequenceLaws.{rest_fits}
use Rattle.der_core.specs.Writing.{wrote_refused, wrote_then}
use Rattle.spiffe_id.specs.SpiffeId.{id_text}
use Rattle.spki.proofs.Owned.{public_key_seen}
use Rattle.spki.specs.PlainPublicKey.{public_key_der}
use Rattle.pkcs8.specs.PlainPrivateKey.{private_key_der}
use Rattle.identity_update.specs.Checked.{checked_entry}
use Rattle.identity_update.proofs.Seen.{private_key_seen}
use Rattle.identity_update.proofs.entry.CheckedEntryEncodeValue.encode_value.Goals as goal

pub returns-in_err-encode-clause-wrote : goal.returns-in_err-encode-clause-wrote
returns-in_err-encode-clause-wrote g c =
    let e = checked_entry c.args.self.now in
    let p = err_from_is_err_and c.from_residual-in_err-encode.result c.from_residual-in_err-encode.ensures.1 in
    wrote_refused (private_key_der e.private_key ++ public_key_der e.public_key) c.in_err-encode.ensures.wrote (p.1 ∙ ap Err p.2) c.in_ok-value_len.ensures.1

pub returns-in_err-encode-2-clause-wrote : goal.returns-in_err-encode-2-clause-wrote
returns-in_err-encode-2-clause-wrote g c =
    let e = checked_entry c.args.self.now in
    let p = err_from_is_err_and c.from_residual-in_err-encode-2.result c.from_residual-in_err-encode-2.ensures.1 in
    let behind = rest_fits (encode 12 (id_text e.id)) (private_key_der e.private_key ++ public_key_der e.public_key) c.in_ok-value_len.ensures.1 in
    let private = rw (private_key_seen c.args.self.now.private_key) at c.in_err-encode-2.ensures.wrote in
    wrote_then c.in_ok-encode.ensures.wrote c.encode.ensures.count
    (wrote_refused (public_key_der e.public_key) private (p.1 ∙ ap Err p.2) behind) c.in_ok-value_len.ensures.1

pub returns-clause-wrote : goal.returns-clause-wrote
returns-clause-wrote g c =
    let e = checked_entry c.args.self.now in
    let behind = rest_fits (encode 12 (id_text e.id)) (private_key_der e.private_key ++ public_key_der e.public_key) c.in_ok-value_len.ensures.1 in
    let private = rw (private_key_seen c.args.self.now.private_key) at c.in_ok-encode-2.ensures.wrote in
    let public = rw (public_key_seen c.args.self.now.public_key) at c.encode-3.ensures.wrote in
    wrote_then c.in_ok-encode.ensures.wrote c.encode.ensures.count
    (wrote_then private c.encode-2.ensures.count public behind) c.in_ok-value_len.ensures.1

-- The version, the algorithm, the private key, and what stands behind it.
use Rattle.std.proofs.Common.{◌≤◌, [], ◌∷◌, ◌++◌, Err, ap, ◌∙◌, arith}
use Rattle.std.proofs.lemmas.Result.{err_from_is_err_and}
use Rattle.der_core.specs.Der.{encode}
use Rattle.der_core.specs.Writing.{wrote_then}
use Rattle.spki.specs.Algorithm.{algorithm_encoding}
use Rattle.pkcs8.specs.PrivateKey.{after_key_written}
use Rattle.pkcs8.specs.Version.{version_byte, version_of}
use Rattle.pkcs8.proofs.Writing.{behind_fits, refused_before}
use Rattle.pkcs8.proofs.private_key_info.PrivateKeyInfoEncodeValue.encode_value.Goals as goal

pub returns-in_err-encode-clause-wrote : goal.returns-in_err-encode-clause-wrote
returns-in_err-encode-clause-wrote g c =
    let p = err_from_is_err_and c.from_residual-in_err-encode.result c.from_residual-in_err-encode.ensures.1 in
    refused_before ((algorithm_encoding g.Params.Encode.encoding c.args.self.now.algorithm)
    ∷ (encode g.Key.FixedTag.tag (g.Key.EncodeValue.content c.args.self.now.private_key))
    ∷ (after_key_written g.Attrs.EncodeValue.content g.PubKey.BitStringLike.bits c.args.self.now.attributes c.args.self.now.public_key) ∷ [])
    (rw c.version.ensures at c.in_err-encode.ensures.wrote) (p.1 ∙ ap Err p.2) c.in_ok-value_len.ensures.1

pub returns-in_err-encode-2-clause-wrote : goal.returns-in_err-encode-2-clause-wrote
returns-in_err-encode-2-clause-wrote g c =
    let p = err_from_is_err_and c.from_residual-in_err-encode-2.result c.from_residual-in_err-encode-2.ensures.1 in
    refused_before ((encode g.Key.FixedTag.tag (g.Key.EncodeValue.content c.args.self.now.private_key))
    ∷ (after_key_written g.Attrs.EncodeValue.content g.PubKey.BitStringLike.bits c.args.self.now.attributes c.args.self.now.public_key) ∷ [])
    (wrote_then (rw c.version.ensures at c.in_ok-encode.ensures.wrote) c.encode.ensures.count c.in_err-encode-2.ensures.wrote
    (behind_fits ((encode 2 (version_byte (version_of c.args.self.now.public_key) ∷ []))
    ++ (algorithm_encoding g.Params.Encode.encoding c.args.self.now.algorithm))
    ((encode g.Key.FixedTag.tag (g.Key.EncodeValue.content c.args.self.now.private_key))
    ∷ (after_key_written g.Attrs.EncodeValue.content g.PubKey.BitStringLike.bits c.args.self.now.attributes c.args.self.now.public_key) ∷ [])
    c.in_ok-value_len.ensures.1)) (p.1 ∙ ap Err p.2) c.in_ok-value_len.ensures.1

pub returns-in_err-encode-3-clause-wrote : goal.returns-in_err-encode-3-clause-wrote
returns-in_err-encode-3-clause-wrote g c =
    let p = err_from_is_err_and c.from_residual-in_err-encode-3.result c.from_residual-in_err-encode-3.ensures.1 in
    let two : g.W.Writer.refusals c.args.writer.now ≤ g.W.Writer.refusals c.encode-2.new.writer =
    omega (arith, c.encode.ensures.count, c.encode-2.ensures.count) in
    refused_before ((after_key_written g.Attrs.EncodeValue.content g.PubKey.BitStringLike.bits c.args.self.now.attributes c.args.self.now.public_key) ∷ [])
    (wrote_then (wrote_then (rw c.version.ensures at c.in_ok-encode.ensures.wrote) c.encode.ensures.count c.in_ok-encode-2.ensures.wrote
    (behind_fits ((encode 2 (version_byte (version_of c.args.self.now.public_key) ∷ []))
    ++ (algorithm_encoding g.Params.Encode.encoding c.args.self.now.algorithm))
    ((encode g.Key.FixedTag.tag (g.Key.EncodeValue.content c.args.self.now.private_key))
    ∷ (after_key_written g.Attrs.EncodeValue.content g.PubKey.BitStringLike.bits c.args.self.now.attributes c.args.self.now.public_key) ∷ [])
    c.in_ok-value_len.ensures.1)) two c.in_err-encode-3.ensures.wrote
    (behind_fits ((encode 2 (version_byte (version_of c.args.self.now.public_key) ∷ []))
    ++ (algorithm_encoding g.Params.Encode.encoding c.args.self.now.algorithm)
    ++ (encode g.Key.FixedTag.tag (g.Key.EncodeValue.content c.args.self.now.private_key)))
    ((after_key_written g.Attrs.EncodeValue.content g.PubKey.BitStringLike.bits c.args.self.now.attributes c.args.self.now.public_key) ∷ [])
    c.in_ok-value_len.ensures.1)) (p.1 ∙ ap Err p.2) c.in_ok-value_len.ensures.1

pub returns-clause-wrote : goal.returns-clause-wrote
returns-clause-wrote g c =
    let two : g.W.Writer.refusals c.args.writer.now ≤ g.W.Writer.refusals c.encode-2.new.writer =
    omega (arith, c.encode.ensures.count, c.encode-2.ensures.count) in
    let three : g.W.Writer.refusals c.args.writer.now ≤ g.W.Writer.refusals c.encode-3.new.writer =
    omega (arith, c.encode.ensures.count, c.encode-2.ensures.count, c.encode-3.ensures.count) in
    wrote_then (wrote_then (wrote_then (rw c.version.ensures at c.in_ok-encode.ensures.wrote) c.encode.ensures.count c.in_ok-encode-2.ensures.wrote
    (behind_fits ((encode 2 (version_byte (version_of c.args.self.now.public_key) ∷ []))
    ++ (algorithm_encoding g.Params.Encode.encoding c.args.self.now.algorithm))
    ((encode g.Key.FixedTag.tag (g.Key.EncodeValue.content c.args.self.now.private_key))
    ∷ (after_key_written g.Attrs.EncodeValue.content g.PubKey.BitStringLike.bits c.args.self.now.attributes c.args.self.now.public_key) ∷ [])
    c.in_ok-value_len.ensures.1)) two c.in_ok-encode-3.ensures.wrote
    (behind_fits ((encode 2 (version_byte (version_of c.args.self.now.public_key) ∷ []))
    ++ (algorithm_encoding g.Params.Encode.encoding c.args.self.now.algorithm)
    ++ (encode g.Key.FixedTag.tag (g.Key.EncodeValue.content c.args.self.now.private_key)))
    ((after_key_written g.Attrs.EncodeValue.content g.PubKey.BitStringLike.bits c.args.self.now.attributes c.args.self.now.public_key) ∷ [])
    c.in_ok-value_len.ensures.1)) three c.encode_tail.ensures.wrote c.in_ok-value_len.ensures.1

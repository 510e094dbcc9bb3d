-- The attributes, and then the public key where there is one.
use Rattle.std.proofs.Common.{Err, ap, ◌∙◌}
use Rattle.std.proofs.lemmas.Result.{err_from_is_err_and}
use Rattle.der_core.specs.Writing.{wrote_refused, wrote_then}
use Rattle.pkcs8.specs.PrivateKey.{optional_field, public_key_tag}
use Rattle.pkcs8.proofs.tail.encode_tail.Goals as goal

pub returns-in_err-encode_tagged-in-Some-clause-wrote : goal.returns-in_err-encode_tagged-in-Some-clause-wrote
returns-in_err-encode_tagged-in-Some-clause-wrote g c =
    let p = err_from_is_err_and c.from_residual.result c.from_residual.ensures.1 in
    rw c.in-Some.is (wrote_refused (optional_field public_key_tag g.PubKey.BitStringLike.bits c.args.public_key.now)
    (rw c.from_valid.ensures at c.in_err-encode_tagged-in-Some.ensures.wrote) (p.1 ∙ ap Err p.2) (rw c.in-Some.is at c.requires))

pub returns-in_ok-encode_tagged-in-Some-clause-wrote : goal.returns-in_ok-encode_tagged-in-Some-clause-wrote
returns-in_ok-encode_tagged-in-Some-clause-wrote g c =
    rw c.in-Some.is (wrote_then (rw c.from_valid.ensures at c.in_ok-encode_tagged-in-Some.ensures.wrote) c.encode_tagged.ensures.count
    c.encode_public_key-in-Some.ensures.wrote (rw c.in-Some.is at c.requires))

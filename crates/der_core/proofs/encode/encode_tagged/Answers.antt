use Rattle.std.proofs.Common.{◌≡◌, ◌++◌, ◌≤◌, ◌^◌, [], ◌∷◌, take, length, Err, ap, ◌∙◌, arith}
use Rattle.std.proofs.lemmas.Result.{err_from_is_err_and}
use Rattle.der_core.specs.Der.{length_bytes}
use Rattle.der_core.specs.Writing.{wrote_long, wrote_nothing}
use Rattle.der_core.proofs.Writing.{too_long, wrote_value, small_len}
use Rattle.der_core.proofs.encode.encode_tagged.Goals as goal

pub returns-in_err-n-clause-wrote : goal.returns-in_err-n-clause-wrote
returns-in_err-n-clause-wrote g c =
    let p = err_from_is_err_and c.from_residual.result c.from_residual.ensures.1 in
    let long : 2 ^ 32 ≤ length (g.T.EncodeValue.content c.args.value.now) = c.in_err-n.ensures.1 in
    wrote_long (p.1 ∙ ap Err (p.2 ∙ c.in_err-n.ensures.0)) (too_long c.args.tag.byte (g.T.EncodeValue.content c.args.value.now) (omega arith))

pub returns-in_err-with_header-clause-wrote : goal.returns-in_err-with_header-clause-wrote
returns-in_err-with_header-clause-wrote g c =
    let p = err_from_is_err_and c.from_residual-in_err-with_header.result c.from_residual-in_err-with_header.ensures.1 in
    let long : 4294967290 ≤ c.in_ok-n.n = c.in_err-with_header.ensures.1 in
    let n : c.in_ok-n.n ≡ length (g.T.EncodeValue.content c.args.value.now) = c.in_ok-n.ensures.0 in
    wrote_long (p.1 ∙ ap Err (p.2 ∙ c.in_err-with_header.ensures.0)) (too_long c.args.tag.byte (g.T.EncodeValue.content c.args.value.now) (omega arith))

pub returns-in_err-write-clause-wrote : goal.returns-in_err-write-clause-wrote
returns-in_err-write-clause-wrote g c =
    let p = err_from_is_err_and c.from_residual-in_err-write.result c.from_residual-in_err-write.ensures.1 in
    wrote_nothing c.in_err-write.ensures.refused c.in_err-write.ensures.told (p.1 ∙ ap Err p.2)
    (small_len c.args.tag.byte (g.T.EncodeValue.content c.args.value.now) c.in_ok-n.n c.in_ok-n.ensures.0 c.in_ok-with_header.ensures.1)

pub returns-clause-wrote : goal.returns-clause-wrote
returns-clause-wrote g c =
    let content = g.T.EncodeValue.content c.args.value.now in
    let n : c.in_ok-n.n ≡ length (g.T.EncodeValue.content c.args.value.now) = c.in_ok-n.ensures.0 in
    let fits = small_len c.args.tag.byte (g.T.EncodeValue.content c.args.value.now) c.in_ok-n.n n c.in_ok-with_header.ensures.1 in
    let header : take c.header-len.result.1 c.header-len.result.0 ≡ c.args.tag.byte ∷ []
    ++ length_bytes (length (g.T.EncodeValue.content c.args.value.now)) = grind (arith, c.header-len.ensures.bytes, c.byte.ensures, c.get.ensures, n) in
    wrote_value _ _ _ _ _ _ c.args.tag.byte _ (take c.header-len.result.1 c.header-len.result.0) _ header c.in_ok-write.ensures.told c.write.ensures.count
    fits c.encode_value.ensures.wrote

-- The scheme, the trust domain, and then the path.
use Rattle.std.proofs.Common.{◌≡◌, ◌++◌, ◌<◌, ◌^◌, ℕ, List, length, codes, Err, ap, sym, subst, ◌∙◌}
use Rattle.std.proofs.lemmas.Result.{err_from_is_err_and}
use Rattle.der_core.specs.SequenceLaws.{rest_fits}
use Rattle.der_core.specs.Writing.{wrote_behind, wrote_nothing, wrote_slice}
use Rattle.identity_update.proofs.entry.IdTextEncodeValue.encode_value.Goals as goal

pub returns-in_err-write-clause-wrote : goal.returns-in_err-write-clause-wrote
returns-in_err-write-clause-wrote g c =
    let p = err_from_is_err_and c.from_residual-in_err-write.result c.from_residual-in_err-write.ensures.1 in
    wrote_nothing c.in_err-write.ensures.refused c.in_err-write.ensures.told (p.1 ∙ ap Err p.2) c.in_ok-value_len.ensures.1

pub returns-in_err-write-2-clause-wrote : goal.returns-in_err-write-2-clause-wrote
returns-in_err-write-2-clause-wrote g c =
    let p = err_from_is_err_and c.from_residual-in_err-write-2.result c.from_residual-in_err-write-2.ensures.1 in
    let rest : List ℕ = c.args.self.now.0.now.trust_domain ++ c.args.self.now.0.now.path in
    let behind = rest_fits (codes "spiffe://") rest c.in_ok-value_len.ensures.1 in
    let first = rw c.as_bytes.ensures.value at c.in_ok-write.ensures.told in
    wrote_behind {b = rest} (codes "spiffe://") first c.write.ensures.count
    (wrote_nothing {bytes = rest} c.in_err-write-2.ensures.refused c.in_err-write-2.ensures.told (p.1 ∙ ap Err p.2) behind) c.in_ok-value_len.ensures.1

pub returns-clause-wrote : goal.returns-clause-wrote
returns-clause-wrote g c =
    let domain : List ℕ = c.args.self.now.0.now.trust_domain in
    let path : List ℕ = c.args.self.now.0.now.path in
    let behind = rest_fits (codes "spiffe://") (domain ++ path) c.in_ok-value_len.ensures.1 in
    let first = rw c.as_bytes.ensures.value at c.in_ok-write.ensures.told in
    let second = rw (c.as_bytes-2.ensures.value ∙ c.trust_domain_name.ensures.name) at c.in_ok-write-2.ensures.told in
    let path_is : c.as_bytes-3.result.now ≡ path = c.as_bytes-3.ensures.value ∙ c.path.ensures.path in
    let short : length c.as_bytes-3.result.now < 2 ^ 32 = subst (λ (x : List ℕ). length x < 2 ^ 32) (sym path_is) (rest_fits domain path behind) in
    let third = rw path_is at (wrote_slice {HasTold = g.W.Writer.HasTold} {refusals = g.W.Writer.refusals} {last_refusal = g.W.Writer.last_refusal}
    {old = c.write-2.new.self} {new = c.write-3.new.self} c.as_bytes-3.result.now c.write-3.ensures.told c.write-3.ensures.refused short) in
    wrote_behind {b = domain ++ path} (codes "spiffe://") first c.write.ensures.count
    (wrote_behind {b = path} domain second c.write-2.ensures.count third behind) c.in_ok-value_len.ensures.1

use Rattle.spiffe_id.proofs.LowerCase.{lower_utf8}
use Rattle.spiffe_id.proofs.trust_domain.lower_case.Goals as goal

pub unwrap-requires : goal.unwrap-requires
unwrap-requires c = c.from_utf8.ensures.succeeds (rw (c.in_ok-bytes.ensures, c.as_bytes.ensures.value) (lower_utf8 c.args.name.now c.requires))

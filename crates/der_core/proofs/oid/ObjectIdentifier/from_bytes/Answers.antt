use Rattle.std.proofs.Common.{arith}
use Rattle.der_core.specs.Oid.{IsOidContent}
use Rattle.der_core.proofs.Oids.{holds_oid}
use Rattle.der_core.proofs.oid.ObjectIdentifier.from_bytes.Goals as goal

pub invariant_of-result : goal.invariant_of-result
invariant_of-result c =
    let content : IsOidContent c.args.bytes.now = grind (arith, c.if-not-is_content.ensures, c.is_content.ensures) in
    record { holds = holds_oid c.copy_from_slice.new.self c.args.bytes.now c.copy_from_slice.ensures.after content }

use Rattle.std.proofs.Common.{Some, sym, ap, ◌∙◌}
use Rattle.spiffe_bundle.proofs.jwt_authority.JwtAuthority.from_value.Goals as goal

pub invariant_of-result : goal.invariant_of-result
invariant_of-result c = record {
  value = _;
  reads = c.in_ok-jwk_json.ensures.reads c.requires.nests;
  named = sym c.in-Some.ensures ∙ ap Some (sym c.in_ok-kid.ensures.ok);
  compact = c.in_ok-jwk_json.ensures.text;
}

use Rattle.std.proofs.Common.{nat_eq, string_bytes, sym, ◌∙◌}
use Rattle.std.specs.Cmp.Derive.Mapped.{pointwise-map}
use Rattle.std.specs.Cmp.Lexicographic.{pointwise}
use Rattle.spiffe_token.proofs.claims.same_texts.Goals as goal

pub returns : goal.returns
returns c = c.eq.ensures ∙ sym (pointwise-map string_bytes (pointwise nat_eq) c.args.a.now c.args.b.now)

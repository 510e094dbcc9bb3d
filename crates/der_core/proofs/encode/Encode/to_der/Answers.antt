use Rattle.std.proofs.Common.{[], ap, ◌∙◌}
use Rattle.der_core.proofs.encode.Encode.to_der.Goals as goal

pub returns : goal.returns
returns g c = (c.in_ok-encode.ensures.wrote.ok.1 [] (ap (λ v. v.items) c.behind-writer.ensures.kept ∙ c.new.ensures.items), c.in_ok-encode.ensures.wrote.ok.0)

use Rattle.der_core.proofs.encode.AnyEncode.encoded_len.Goals as goal

pub returns : goal.returns
returns g c = c.tagged_len.ensures g.T.FixedTag.tag

use Rattle.der_core.proofs.any.AnyEncode.encoded_len.Goals as goal

pub returns : goal.returns
returns c = c.tagged_len.ensures c.args.self.now.tag.byte

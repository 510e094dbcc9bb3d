use Rattle.pkcs8.specs.PrivateKey.{public_key_tag}
use Rattle.pkcs8.proofs.tail.public_key_len.Goals as goal

pub returns-in-Some : goal.returns-in-Some
returns-in-Some g c = rw (c.in-Some.is, ← c.as_bit_string.ensures) (c.tagged_len.ensures public_key_tag)

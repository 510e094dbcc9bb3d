-- The content of a private key, over what its parts read as and are written as.
use Rattle.std.specs.Prelude.{ℕ, List}
use Rattle.der_core.specs.Der.{encode}
use Rattle.der_core.specs.Tags.{sequence_tag}
use Rattle.spki.specs.declared.algorithm.AlgorithmIdentifier.{AlgorithmIdentifier}
use Rattle.pkcs8.specs.PrivateKey.{KeyParts, PartReads, PartTexts, PrivateKeyFields, fields_written}
use Rattle.pkcs8.specs.declared.private_key_info.PrivateKeyInfo.{PrivateKeyInfo}

abbrev pub parts_of : {P K B T : Type 0} → PrivateKeyInfo P K B T → KeyParts (AlgorithmIdentifier P) K B T
parts_of v = record { algorithm = v.algorithm; private_key = v.private_key; attributes = v.attributes; public_key = v.public_key }

abbrev pub PrivateKeyContent : {P K B T : Type 0} → PartReads (AlgorithmIdentifier P) K B T → List ℕ → PrivateKeyInfo P K B T → Type 0
PrivateKeyContent reads bytes v = PrivateKeyFields reads bytes (parts_of v)

abbrev pub private_key_content : {P K B T : Type 0} → PartTexts (AlgorithmIdentifier P) K B T → PrivateKeyInfo P K B T → List ℕ
private_key_content texts v = fields_written texts (parts_of v)

-- What is written of the whole.
abbrev pub private_key_encoding : {P K B T : Type 0} → PartTexts (AlgorithmIdentifier P) K B T → PrivateKeyInfo P K B T → List ℕ
private_key_encoding texts v = encode sequence_tag (private_key_content texts v)

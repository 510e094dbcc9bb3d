-- What an update document writes, as plain data, before any rule is tried.
use Rattle.std.specs.Prelude.{◌≡◌, ℕ, List}
use Rattle.std.specs.Str.{IsUtf8}
use Rattle.der_core.specs.Decode.{ReadsTagged}
use Rattle.der_core.specs.Sequence.{ThreeFields, TwoFields}
use Rattle.spki.specs.PlainPublicKey.{PlainPublicKey, ReadsPublicKey}
use Rattle.pkcs8.specs.PlainPrivateKey.{PlainPrivateKey, ReadsOctets, ReadsPrivateKey}
use Rattle.update_document.specs.Document.{DocumentOf, ReadsDocument}

pub record WrittenEntry : Type 0 where
  pub text : List ℕ
  pub private_key : PlainPrivateKey
  pub public_key : PlainPublicKey

pub record WrittenBundle : Type 0 where
  pub text : List ℕ
  pub jwks : List ℕ

abbrev pub WrittenUpdate : Type 0
WrittenUpdate = DocumentOf WrittenEntry WrittenBundle

-- the bytes are the UTF8String of the text
abbrev pub ReadsText : List ℕ → List ℕ → Type 0
ReadsText = ReadsTagged 12 (λ content text. (text ≡ content) × IsUtf8 content)

-- Identity ::= SEQUENCE { UTF8String, PrivateKeyInfo, SubjectPublicKeyInfo }
abbrev pub ReadsEntry : List ℕ → WrittenEntry → Type 0
ReadsEntry = ReadsTagged 48 (λ content e. ThreeFields ReadsText ReadsPrivateKey ReadsPublicKey content e.text e.private_key e.public_key)

-- Bundle ::= SEQUENCE { UTF8String, OCTET STRING }
abbrev pub ReadsBundle : List ℕ → WrittenBundle → Type 0
ReadsBundle = ReadsTagged 48 (λ content b. TwoFields ReadsText ReadsOctets content b.text b.jwks)

-- the bytes are an update document of these
abbrev pub ReadsUpdate : List ℕ → WrittenUpdate → Type 0
ReadsUpdate = ReadsDocument ReadsEntry ReadsBundle

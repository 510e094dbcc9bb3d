-- What stands for signatures in tests.
use Rattle.std.specs.Prelude.{ℕ, nat_eq, ◌==◌, List, ◌++◌, length, if◌then◌else◌}
use Rattle.std.specs.Cmp.Lexicographic.{pointwise}
use Rattle.sha2.specs.Sha256.{sha256}
use Rattle.identity_verify.specs.declared.backend.Signature.{Signature}
use Rattle.identity_verify.specs.declared.backend.Signature.TheVariants.{Good, Bad, Unusable}

-- the digest of a key's JSON and a message stands for the key's signature of the message
abbrev pub digest_answer : List ℕ → List ℕ → List ℕ → Signature
digest_answer jwk_json message signature =
    if length signature == 0 then Unusable else (if pointwise nat_eq (sha256 (jwk_json ++ message)) signature then Good else Bad)

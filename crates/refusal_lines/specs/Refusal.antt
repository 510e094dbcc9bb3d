-- The line of a refusal.
use Rattle.std.specs.Prelude.{ℕ, List, ◌++◌, codes, decimal}
use Rattle.base64ct.specs.Errors.{error_text as base64_text}
use Rattle.der_core.specs.Error.{error_text as der_text}
use Rattle.spiffe_id.specs.declared.error.SpiffeIdError.{SpiffeIdError}
use Rattle.spiffe_id.specs.declared.error.SpiffeIdError.TheVariants as id
use Rattle.spiffe_json.specs.declared.error.JsonError.{JsonError}
use Rattle.spiffe_json.specs.declared.error.JsonError.TheVariants as json
use Rattle.spiffe_bundle.specs.declared.error.JwtBundleError.{JwtBundleError}
use Rattle.spiffe_bundle.specs.declared.error.JwtBundleError.TheVariants as keys
use Rattle.identity_update.specs.declared.error.UpdateError.{UpdateError}
use Rattle.identity_update.specs.declared.error.UpdateError.TheVariants.{
  RevisionsUsedUp,
  Text,
  Document,
  MissingRequiredField,
  WithdrawalWithEntries,
  Subject,
  AlgorithmMismatch,
  PublicKeyMismatch,
  Domain,
  Authorities,
  MissingBundle,
  OutOfMemory,
}

-- the rule of an identifier that is broken
abbrev pub id_rule : SpiffeIdError → List ℕ
id_rule id.Empty = codes "empty"
id_rule id.MissingTrustDomain = codes "trust domain missing"
id_rule id.WrongScheme = codes "wrong scheme"
id_rule id.BadTrustDomainChar = codes "bad trust domain character"
id_rule id.BadPathSegmentChar = codes "bad path character"
id_rule id.EmptySegment = codes "empty segment"
id_rule id.DotSegment = codes "dot segment"
id_rule id.TrailingSlash = codes "trailing slash"
id_rule (id.SpiffeIdTooLong max) = codes "SPIFFE ID too long"
id_rule (id.TrustDomainTooLong max) = codes "trust domain too long"
id_rule id.OutOfMemory = codes "out of memory"

abbrev pub json_rule : JsonError → List ℕ
json_rule json.Syntax = codes "invalid JSON"
json_rule json.Number = codes "number not allowed"
json_rule json.Keys = codes "no keys array"
json_rule json.Shape = codes "bad shape"

-- the rule of a key set that is broken
abbrev pub keys_rule : JwtBundleError → List ℕ
keys_rule keys.MissingKeyId = codes "missing key ID"
keys_rule (keys.Deserialize cause) = json_rule cause
keys_rule keys.OutOfMemory = codes "out of memory"

-- the line of a refusal: where the rule is broken, counted from 0, and which rule it is
abbrev pub refusal_line : UpdateError → List ℕ
refusal_line RevisionsUsedUp = codes "refused: revisions used up\n"
refusal_line (Text cause) = codes "refused: text: " ++ (base64_text cause ++ codes "\n")
refusal_line (Document cause) = codes "refused: document: " ++ (der_text cause ++ codes "\n")
refusal_line MissingRequiredField = codes "refused: document: no identity\n"
refusal_line WithdrawalWithEntries = codes "refused: document: withdrawal with identities\n"
refusal_line (Subject entry cause) = codes "refused: entry " ++ (decimal entry ++ (codes ": subject: " ++ (id_rule cause ++ codes "\n")))
refusal_line (AlgorithmMismatch entry) = codes "refused: entry " ++ (decimal entry ++ codes ": algorithms differ\n")
refusal_line (PublicKeyMismatch entry) = codes "refused: entry " ++ (decimal entry ++ codes ": public keys differ\n")
refusal_line (Domain bundle cause) = codes "refused: bundle " ++ (decimal bundle ++ (codes ": domain: " ++ (id_rule cause ++ codes "\n")))
refusal_line (Authorities bundle cause) = codes "refused: bundle " ++ (decimal bundle ++ (codes ": authorities: " ++ (keys_rule cause ++ codes "\n")))
refusal_line (MissingBundle entry) = codes "refused: entry " ++ (decimal entry ++ codes ": no bundle\n")
refusal_line OutOfMemory = codes "refused: out of memory\n"

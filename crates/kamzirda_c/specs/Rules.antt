-- The rules that an input may break, by their numbers.
use Rattle.std.specs.Prelude.{ℕ, ◌==◌, List, [], codes, if◌then◌else◌}
use Rattle.spiffe_id.specs.declared.error.SpiffeIdError.{SpiffeIdError}
use Rattle.spiffe_id.specs.declared.error.SpiffeIdError.TheVariants as id
use Rattle.base64_text.specs.declared.errors.Error.TheVariants as base64
use Rattle.der_core.specs.declared.error.Error.TheVariants as der
use Rattle.identity_update.specs.declared.error.UpdateError.{UpdateError}
use Rattle.identity_update.specs.declared.error.UpdateError.TheVariants as update

-- no rule
abbrev pub no_rule : ℕ
no_rule = 0

abbrev pub malformed : ℕ
malformed = 3

abbrev pub trailing_data : ℕ
trailing_data = 4

abbrev pub not_utf8 : ℕ
not_utf8 = 31

-- of a SPIFFE ID or a trust domain
abbrev pub id_rule_number : SpiffeIdError → ℕ
id_rule_number id.Empty = 21
id_rule_number id.MissingTrustDomain = 22
id_rule_number id.WrongScheme = 23
id_rule_number id.BadTrustDomainChar = 24
id_rule_number id.BadPathSegmentChar = 25
id_rule_number id.EmptySegment = 26
id_rule_number id.DotSegment = 27
id_rule_number id.TrailingSlash = 28
id_rule_number (id.SpiffeIdTooLong _) = 29
id_rule_number (id.TrustDomainTooLong _) = 30
id_rule_number id.OutOfMemory = no_rule

-- of an update
abbrev pub update_rule_number : UpdateError → ℕ
update_rule_number update.RevisionsUsedUp = no_rule
update_rule_number (update.Text base64.InvalidEncoding) = 1
update_rule_number (update.Text base64.InvalidLength) = 2
update_rule_number (update.Text base64.OutOfMemory) = no_rule
update_rule_number (update.Document (der.TrailingData _ _)) = trailing_data
update_rule_number (update.Document _) = malformed
update_rule_number update.MissingRequiredField = 5
update_rule_number update.WithdrawalWithEntries = 6
update_rule_number (update.Subject _ _) = 7
update_rule_number (update.AlgorithmMismatch _) = 8
update_rule_number (update.PublicKeyMismatch _) = 9
update_rule_number (update.Domain _ _) = 10
update_rule_number (update.Authorities _ _) = 11
update_rule_number (update.MissingBundle _) = 12
update_rule_number update.OutOfMemory = no_rule

-- what a rule's breach is called; a number that is no rule has no text
abbrev pub rule_text : ℕ → List ℕ
rule_text n =
    if n == 1 then codes "invalid Base64 encoding"
    else (if n == 2 then codes "invalid Base64 length"
    else (if n == 3 then codes "malformed"
    else (if n == 4 then codes "trailing data"
    else (if n == 5 then codes "no identity"
    else (if n == 6 then codes "withdrawal with identities"
    else (if n == 7 then codes "subject is no SPIFFE ID"
    else (if n == 8 then codes "algorithms differ"
    else (if n == 9 then codes "public keys differ"
    else (if n == 10 then codes "domain is no trust domain"
    else (if n == 11 then codes "authorities are no key set"
    else (if n == 12 then codes "no bundle"
    else (if n == 21 then codes "empty"
    else (if n == 22 then codes "trust domain missing"
    else (if n == 23 then codes "wrong scheme"
    else (if n == 24 then codes "bad trust domain character"
    else (if n == 25 then codes "bad path character"
    else (if n == 26 then codes "empty segment"
    else (if n == 27 then codes "dot segment"
    else (if n == 28 then codes "trailing slash"
    else (if n == 29 then codes "SPIFFE ID too long"
    else (if n == 30 then codes "trust domain too long"
    else (if n == 31 then codes "not UTF-8"
    else []))))))))))))))))))))))

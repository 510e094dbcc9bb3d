-- The rules of an update that is made of parts, in their order: the answer is the update, or the first rule that the parts break. Ids and trust
-- domains break none, since they were read. Numbers count from 0.
use Rattle.std.specs.Prelude.{ℕ, ◌+◌, ◌^◌, nat_lt, List, [], ◌∷◌, length, Some, Result, Ok, Err, ◌&&◌, if◌then◌else◌}
use Rattle.der_core.specs.declared.error.Error.TheVariants.{Malformed, Overlength}
use Rattle.spiffe_bundle.specs.KeySet.{key_set_of}
use Rattle.spiffe_id.specs.Rules.{map_ok, then_ok}
use Rattle.identity_update.specs.Canonical.{update_der}
use Rattle.identity_update.specs.Parts.{Bundle, Entry, UpdateParts}
use Rattle.identity_update.specs.Verdict.{keys_check, map_refusal, members_check, purpose_check}
use Rattle.identity_update.specs.declared.error.UpdateError.{UpdateError}
use Rattle.identity_update.specs.declared.error.UpdateError.TheVariants.{Authorities, Document}

-- the document of the update has fewer than 2^32 bytes
abbrev pub fits_check : UpdateParts → Result (Unit {0}) UpdateError
fits_check u = if nat_lt (length (update_der u)) (2 ^ 32) then Ok tt else Err (Document Overlength)

-- the keys of each entry from this number on are one pair
abbrev pub pairs_check : ℕ → List Entry → Result (Unit {0}) UpdateError
pairs_check n [] = Ok tt
pairs_check n (e ∷ es) = then_ok (keys_check n e.private_key e.public_key) (λ _. pairs_check (n + 1) es)

-- the bytes of each bundle from this number on are a key set
abbrev pub key_sets_check : ℕ → List Bundle → Result (Unit {0}) UpdateError
key_sets_check n [] = Ok tt
key_sets_check n (b ∷ bs) = then_ok (map_refusal (Authorities n) (key_set_of b.jwks)) (λ _. key_sets_check (n + 1) bs)

-- the update of these parts, or the first rule that they break
unfoldable pub parts_verdict : UpdateParts → Result UpdateParts UpdateError
parts_verdict u =
    then_ok (fits_check u)
    (λ _. then_ok (purpose_check u.entries u.reason)
    (λ _. then_ok (pairs_check 0 u.entries)
    (λ _. then_ok (key_sets_check 0 u.bundles)
    (λ _. map_ok (λ _. u) (members_check 0 u.bundles u.entries)))))

-- a reason has 1 to 255 bytes
abbrev pub reason_check : List ℕ → Result (Unit {0}) UpdateError
reason_check reason = if nat_lt 0 (length reason) && nat_lt (length reason) 256 then Ok tt else Err (Document Malformed)

-- the update that withdraws all identities for this reason, or the first rule that it breaks
abbrev pub withdrawal_verdict : List ℕ → List Bundle → Result UpdateParts UpdateError
withdrawal_verdict reason bundles = then_ok (reason_check reason) (λ _. parts_verdict (record { entries = []; bundles = bundles; reason = Some reason }))

-- The keys of the bundles of an update by their trust domains.
use Rattle.std.specs.Prelude.{◌≡◌, ℕ, List, [], map, is_some, Result, Ok, Err}
use Rattle.spiffe_bundle.specs.JwtBundle.{Bundle as KeysOfDomain}
use Rattle.spiffe_bundle.specs.JwtBundleSet.{Bundles, find_bundle, with_bundles}
use Rattle.spiffe_bundle.specs.KeySet.{Authorities, key_set_of}
use Rattle.spiffe_bundle.specs.declared.error.JwtBundleError.{JwtBundleError}
use Rattle.identity_update.specs.Parts.{Bundle}
use Rattle.identity_update.specs.Verdict.{has_bundle}

-- the authorities that were read, none where the bytes are no key set
abbrev pub authorities_in : Result Authorities JwtBundleError → Authorities
authorities_in (Ok authorities) = authorities
authorities_in (Err e) = []

abbrev pub keys_of_bundle : Bundle → KeysOfDomain
keys_of_bundle b = record { trust_domain = b.trust_domain; authorities = authorities_in (key_set_of b.jwks) }

-- each listed trust domain with the keys of its last bundle
abbrev pub bundle_map : List Bundle → Bundles
bundle_map bundles = with_bundles [] (map keys_of_bundle bundles)

-- a set has a bundle of exactly the trust domains that are listed
abbrev pub HasTheDomains : Bundles → List Bundle → Type 0
HasTheDomains set bundles = (q : List ℕ) → is_some (find_bundle q set) ≡ has_bundle q bundles

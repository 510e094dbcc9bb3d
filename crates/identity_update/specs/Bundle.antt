-- A bundle of an update, as plain data.
use Rattle.identity_update.specs.Parts.{Bundle}
use Rattle.identity_update.specs.declared.bundle.BundleParts.{BundleParts}

abbrev pub plain_bundle : BundleParts → Bundle
plain_bundle b = record { trust_domain = b.trust_domain; jwks = b.jwks.items }

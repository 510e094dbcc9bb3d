-- What a request is answered in a state.
use Rattle.std.specs.Prelude.{ℕ, List, ◌++◌, Option, Some, None, codes, decimal, slice_get}
use Rattle.spiffe_id.specs.SpiffeId.{id_text}
use Rattle.spiffe_bundle.specs.JwtBundle.{Bundle as Keys}
use Rattle.spiffe_bundle.specs.JwtBundleSet.{find_bundle}
use Rattle.identity_update.specs.Parts.{Entry}
use Rattle.identity_update.specs.BundleMap.{bundle_map}
use Rattle.identity_source.specs.State.{PlainState}
use Rattle.tool_commands.specs.Printed.{printed}
use Rattle.tool_commands.specs.Report.{bundle_words}

-- an update was applied
abbrev pub accepted_reply : ℕ → List ℕ
accepted_reply revision = codes "accepted " ++ (decimal revision ++ codes "\n")

-- the default identity, or why there is none
abbrev pub standing : Option Entry → Option (List ℕ) → List ℕ
standing (Some e) reason = id_text e.id
standing None (Some reason) = codes "withdrawn " ++ printed reason
standing None None = codes "none"

-- the reply to `svid`
abbrev pub svid_reply : PlainState → List ℕ
svid_reply x = codes "svid " ++ (decimal x.revision ++ (codes " " ++ (standing (slice_get x.update.entries 0) x.update.reason ++ codes "\n")))

-- the keys of a trust domain, or that it has none
abbrev pub keys_words : List ℕ → Option Keys → List ℕ
keys_words domain (Some keys) = bundle_words domain keys
keys_words domain None = domain ++ codes " missing\n"

-- the reply to `bundle`
abbrev pub bundle_reply : List ℕ → PlainState → List ℕ
bundle_reply domain x = codes "bundle " ++ (decimal x.revision ++ (codes " " ++ keys_words domain (find_bundle domain (bundle_map x.update.bundles))))

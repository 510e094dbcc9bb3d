-- The state that judged a token, and its bundles.
use Rattle.std.specs.Prelude.{ℕ, List, Result, Ok, Err, Option}
use Rattle.std.specs.declared.convert.Infallible.{Infallible}
use Rattle.spiffe_bundle.specs.JwtBundle.{Bundle}
use Rattle.spiffe_bundle.specs.JwtBundleSet.{find_bundle}
use Rattle.identity_update.specs.BundleMap.{bundle_map}
use Rattle.identity_source.specs.State.{PlainState}
use Rattle.identity_verify.specs.declared.current.Verified.{Verified}
use Rattle.identity_verify.specs.declared.current.Rejected.{Rejected}

-- the bundle that a state has of a trust domain
abbrev pub state_answer : PlainState → List ℕ → Result (Option Bundle) Infallible
state_answer state domain = Ok (find_bundle domain (bundle_map state.update.bundles))

abbrev pub state_of : Result Verified Rejected → PlainState
state_of (Ok v) = v.state.now
state_of (Err r) = r.state.now

-- What a state holds, as plain data.
use Rattle.std.specs.Prelude.{◌≡◌, []}
use Rattle.identity_source.specs.State.{PlainState, opening}
use Rattle.identity_source.specs.declared.state.Content.{Content}
use Rattle.identity_source.specs.declared.state.Content.TheVariants.{Opening, Applied}

abbrev pub plain_state : Content → PlainState
plain_state (Opening revision bundles) = opening revision
plain_state (Applied revision update) = record { revision = revision; update = update }

-- an opening state has no bundles
abbrev pub IsContent : Content → Type 0
IsContent (Opening revision bundles) = bundles ≡ []
IsContent (Applied revision update) = Unit {0}

-- A header as the program has it.
use Rattle.std.specs.Prelude.{option_map}
use Rattle.spiffe_token.specs.declared.header.Header as program
use Rattle.spiffe_token.specs.Header.{Header}

abbrev pub header_value : program.Header → Header
header_value h = record { alg = h.alg.now; typ = option_map (λ t. t.now) h.typ; kid = option_map (λ t. t.now) h.kid }

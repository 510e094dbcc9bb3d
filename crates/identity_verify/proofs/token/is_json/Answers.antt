use Rattle.identity_verify.proofs.Readings.{json_found, json_lost}
use Rattle.identity_verify.proofs.token.is_json.Goals as goal

pub returns-in-Ok : goal.returns-in-Ok
returns-in-Ok c = json_found c.args.bytes.now _ c.in-Ok.ensures.ok

pub returns : goal.returns
returns c = rw c.is_syntax.ensures (json_lost c.args.bytes.now c.in-Err-Json.broken (rw c.in-Err-Json.field-0-is at c.in-Err-Json.ensures.err))

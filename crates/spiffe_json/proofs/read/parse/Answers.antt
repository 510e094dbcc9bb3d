use Rattle.std.proofs.Common.{inl, refl, sym, true≢false}
use Rattle.spiffe_json.proofs.Reading.{json_found, json_none}
use Rattle.spiffe_json.proofs.read.parse.Goals as goal

pub returns-in-Ok-clause-ok : goal.returns-in-Ok-clause-ok
returns-in-Ok-clause-ok c = json_found c.args.bytes.now _ c.in-Ok.ensures.ok.0 c.in-Ok.ensures.ok.1

pub returns-else-is_memory-clause-err : goal.returns-else-is_memory-clause-err
returns-else-is_memory-clause-err c =
    inl (json_none c.args.bytes.now (c.in-Err.ensures.err (λ m. true≢false (sym (c.if-is_memory.ensures.1 m)))), refl)

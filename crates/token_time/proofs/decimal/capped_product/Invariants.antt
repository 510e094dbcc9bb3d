use Rattle.std.proofs.Common.{◌≡◌, ◌≤◌, ◌*◌, ◌^◌}
use Rattle.token_time.specs.Decimal.{capped}
use Rattle.token_time.proofs.decimal.capped_product.Given as goal

abbrev pub invariant-loop : goal.invariant-loop
invariant-loop l = record { small : l.product ≤ 1000000000000000000000; value : l.product ≡ capped (l.value * 10 ^ l.counter) }

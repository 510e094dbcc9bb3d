use Rattle.std.proofs.Common.{◌≡◌, min, ◌∙◌, subst, ◌*◌, ◌^◌, arith}
use Rattle.token_time.specs.Decimal.{capped}
use Rattle.token_time.proofs.Powers.{product_step, product_zeros}
use Rattle.token_time.proofs.decimal.capped_product.Goals as goal

pub loop-preserved : goal.loop-preserved
loop-preserved c = record {
  small = omega arith;
  value = product_step c.args.value c.loop.product c.min-product.result c.loop.counter c.loop.invariant.value c.min-product.ensures;
}

pub returns : goal.returns
returns c =
    let e : c.loop.counter ≡ min c.args.zeros 21 = omega arith in
    subst (λ n. c.loop.product ≡ capped (c.args.value * 10 ^ n)) e c.loop.invariant.value ∙ product_zeros c.args.value c.args.zeros

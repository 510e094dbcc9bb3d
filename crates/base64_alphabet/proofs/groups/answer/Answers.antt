use Rattle.std.proofs.Common.{◌≡◌, to_z, of_z, arith}
use Rattle.std.proofs.lemmas.Int.{ints, to_z-of_z}
use mir.Syntax.{w16}
use Rattle.base64_alphabet.proofs.groups.answer.Goals as goal

pub returns : goal.returns
returns c =
    let e : to_z w16 (of_z w16 c.sign.result) ≡ c.sign.result = omega (arith, ints) in
    let e1 : to_z w16 (of_z w16 c.either.result) ≡ c.either.result = omega (arith, ints) in
    let e2 : to_z w16 (of_z w16 c.either-2.result) ≡ c.either-2.result = omega (arith, ints) in
    let e3 : to_z w16 (of_z w16 c.either-3.result) ≡ c.either-3.result = omega (arith, ints) in
    let a0 = to_z-of_z w16 c.args.c0 c.ranges.c0 in
    let a1 = to_z-of_z w16 c.args.c1 c.ranges.c1 in
    let a2 = to_z-of_z w16 c.args.c2 c.ranges.c2 in
    let a3 = to_z-of_z w16 c.args.c3 c.ranges.c3 in
    rw (e, c.sign.ensures, e3, c.either-3.ensures.bad, e2, c.either-2.ensures.bad, e1, c.either.ensures.bad, a0, a1, a2, a3)

use Rattle.std.proofs.Common.{◌≡◌, pos, arith, ◌+ℤ◌, ◌-ℤ◌, to_z, of_z}
use Rattle.std.proofs.lemmas.Int.{ints}
use mir.Syntax.{w16}
use Rattle.base64_alphabet.proofs.alphabet.common_sign.Goals as goal

pub returns : goal.returns
returns c =
    let a : to_z w16 c.args.first ≡ pos c.args.first = omega (arith, ints) in
    let z : to_z w16 c.args.last ≡ pos c.args.last = omega (arith, ints) in
    let s : to_z w16 c.args.byte ≡ pos c.args.byte = omega (arith, ints) in
    let lo : to_z w16 (of_z w16 (pos c.args.first -ℤ pos 1)) ≡ pos c.args.first -ℤ pos 1 = omega (arith, ints) in
    let hi : to_z w16 (of_z w16 (pos c.args.last +ℤ pos 1)) ≡ pos c.args.last +ℤ pos 1 = omega (arith, ints) in
    rw (a, z, s, lo, hi)

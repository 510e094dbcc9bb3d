use Rattle.std.proofs.Common.{rules, ◌≡◌, pos, arith, FitsSigned, to_z, of_z}
use Rattle.std.proofs.lemmas.Int.{ints}
use mir.Syntax.{w16}
use Rattle.base64_alphabet.proofs.alphabet.DecodeStep.added.Goals as goal

pub returns-in-Range : goal.returns-in-Range
returns-in-Range c =
    let fits : FitsSigned w16 c.in-Range.offset = search rules in
    let s : to_z w16 c.args.src ≡ pos c.args.src = omega (arith, ints) in
    let k : to_z w16 (of_z w16 c.in-Range.offset) ≡ c.in-Range.offset = omega (arith, ints) in
    let r : to_z w16 (of_z w16 c.common_sign.result) ≡ c.common_sign.result = omega (arith, ints) in
    rw (c.in-Range.is, s, k, r, c.common_sign.ensures)

pub returns-in-Eq : goal.returns-in-Eq
returns-in-Eq c =
    let r : to_z w16 (of_z w16 c.common_sign-in-Eq.result) ≡ c.common_sign-in-Eq.result = omega (arith, ints) in
    rw (c.in-Eq.is, r, c.common_sign-in-Eq.ensures)

use Rattle.std.proofs.Common.{◌≡◌, to_z, of_z}
use Rattle.std.proofs.lemmas.Int.{to_z-of_z}
use mir.Syntax.{w16}
use Rattle.base64_alphabet.proofs.GroupsLemmas.{sign_is}
use Rattle.base64_alphabet.proofs.groups.sign.Goals as goal

pub returns : goal.returns
returns c =
    let e : to_z w16 (of_z w16 c.args.x) ≡ c.args.x = to_z-of_z w16 c.args.x c.ranges.x in
    rw e (sign_is c.args.x c.requires)

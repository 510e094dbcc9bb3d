use Rattle.std.proofs.Common.{map, ap, ◌∙◌, to_z, of_z}
use mir.Syntax.{w16}
use Rattle.base64_alphabet.specs.Lanes.{widened}
use Rattle.base64_alphabet.proofs.TableLemmas.{facts}
use Rattle.base64_alphabet.proofs.PartsLemmas.{widened_places, places_kept}
use Rattle.base64_alphabet.proofs.lanes.decode_32.Goals as goal

pub returns-clause-places : goal.returns-clause-places
returns-clause-places g c =
    let len = (facts g.E.Alphabet.form.table g.met.E.Alphabet.lawful).len in
    ap (λ zs. map (to_z w16) (map (of_z w16) zs)) (c.widened.ensures ∙ ap (map widened) c.places_32.ensures.places
    ∙ widened_places g.E.Alphabet.form.table c.args.src.now len)
    ∙ places_kept g.E.Alphabet.form.table c.args.src.now len

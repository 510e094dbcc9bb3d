use Rattle.std.proofs.Common.{◌≡◌, ◌↔◌, ◌∙◌, ℕ, List, Bool, IsTrue, bytes_eq, sym, ap}
use Rattle.std.proofs.lemmas.Slice.Eq.{bytes_eq-Decides}
use Rattle.spiffe_id.specs.SpiffeId.{Id, id_text}
use Rattle.spiffe_id.proofs.Reading.{same_text-same_id}
use Rattle.spiffe_id.proofs.laws.have_same_text.Goals as goal

-- a comparison of two texts of ids tells whether the ids are equal
tells : (r : Bool) (s t : List ℕ) (v w : Id) → r ≡ bytes_eq s t → s ≡ id_text v → t ≡ id_text w → (id_text v ≡ id_text w → v ≡ w) → IsTrue r ↔ (v ≡ w)
tells r s t v w is first second law = (
  λ yes. law (sym first ∙ (bytes_eq-Decides s t).0 (sym is ∙ yes) ∙ second),
  λ same. is ∙ (bytes_eq-Decides s t).1 (first ∙ ap id_text same ∙ sym second),
)

pub returns-clause-same : goal.returns-clause-same
returns-clause-same c =
    tells c.eq.result c.as_str.result.now c.as_str-2.result.now c.args.a.now c.args.b.now c.eq.ensures (c.as_str.ensures.value ∙ c.in_ok-first.ensures.ok)
    (c.as_str-2.ensures.value ∙ c.in_ok-second.ensures.ok)
    (same_text-same_id c.args.a.now c.args.b.now c.trust_domain_name.ensures.valid c.path.ensures.valid c.trust_domain_name-2.ensures.valid
    c.path-2.ensures.valid)

use Rattle.std.proofs.Common.{◌≡◌, ◌∙◌, ℕ, List, String, Global, string_bytes, string_cmp, refl, ap}
use Rattle.std.specs.declared.sync.Arc.{Arc}
use Rattle.std.specs.Arc.{arc_value}
use Rattle.std.specs.BTreeMap.{insert_entry}
use Rattle.spiffe_bundle.specs.JwtAuthority.{Authority}
use Rattle.spiffe_bundle.specs.KeySet.{with_authority}
use Rattle.spiffe_bundle.specs.JwtBundle.{Bundle, stored_authorities}
use Rattle.spiffe_bundle.proofs.MapEntries.{found_same, found_other, named_with}
use Rattle.spiffe_bundle.proofs.StoredEntries.{stored-insert_entry, stored_added}
use Rattle.spiffe_bundle.proofs.jwt_bundle.JwtBundle.add_jwt_authority.Goals as goal

-- a bundle after an authority went into its stored map
added : (b : Bundle) (domain : List ℕ) (es new : List (String Global × Arc Authority Global)) (k : String Global) (v : Arc Authority Global) (a : Authority)
    → (let was : Bundle = record { trust_domain = domain; authorities = stored_authorities es } in was ≡ b) → new ≡ insert_entry string_cmp es k v
    → string_bytes k ≡ a.key_id → arc_value v ≡ a
    → (let is : Bundle = record { trust_domain = domain; authorities = stored_authorities new } in
    is ≡ record { trust_domain = b.trust_domain; authorities = with_authority b.authorities a })
added b domain es new k v a was is named same = rw (← was, is, stored-insert_entry string_bytes es k v, named, same)

pub returns-clause-ok : goal.returns-clause-ok
returns-clause-ok c =
    added c.args.self.now c.self.inside.trust_domain c.self.inside.jwt_authorities.entries _ c.in_ok-kid.kid c.in_ok-shared.shared c.args.authority
    c.self.view_is
    c.in_ok-insert.ensures.entries (c.in_ok-kid.ensures.ok ∙ c.key_id.ensures) c.in_ok-shared.ensures.ok

pub returns-clause-found : goal.returns-clause-found
returns-clause-found c = rw (ap (λ b. b.authorities) (returns-clause-ok c)) (found_same c.args.authority.key_id c.args.authority c.args.self.now.authorities)

pub returns-clause-others : goal.returns-clause-others
returns-clause-others c = λ q other. rw (ap (λ b. b.authorities) (returns-clause-ok c))
    (found_other q c.args.authority.key_id c.args.authority c.args.self.now.authorities other)

pub invariant_of-self-2 : goal.invariant_of-self-2
invariant_of-self-2 c =
    let was = stored_authorities c.self.inside.jwt_authorities.entries in
    rw (stored_added string_bytes was c.self.inside.jwt_authorities.entries _ c.in_ok-kid.kid c.in_ok-shared.shared c.args.authority.key_id c.args.authority
    refl
    c.in_ok-insert.ensures.entries (c.in_ok-kid.ensures.ok ∙ c.key_id.ensures) c.in_ok-shared.ensures.ok)
    (named_with (λ a. a.key_id) c.args.authority.key_id c.args.authority was refl c.self.invariant)

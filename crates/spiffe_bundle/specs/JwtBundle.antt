-- A bundle: a trust domain and its authorities by their key IDs.
use Rattle.std.specs.Prelude.{ℕ, nat_eq, List, Bool, String, string_bytes}
use Rattle.std.specs.declared.alloc.Global.{Global}
use Rattle.std.specs.declared.sync.Arc.{Arc}
use Rattle.std.specs.Ordering.{on, eq_of_both}
use Rattle.std.specs.Cmp.{IsEquivalence, and_equiv, on_equiv}
use Rattle.std.specs.Cmp.Lexicographic.{pointwise, nat_list_eq_equiv}
use Rattle.spiffe_bundle.specs.Entries.{stored_entries, entries_eq, entries_equiv}
use Rattle.spiffe_bundle.specs.JwtAuthority.{Authority, authority_eq, authority_equiv}
use Rattle.spiffe_bundle.specs.KeySet.{Authorities}

pub record Bundle : Type 0 where
  pub trust_domain : List ℕ
  pub authorities : Authorities

abbrev pub stored_authorities : List (String Global × Arc Authority Global) → Authorities
stored_authorities es = stored_entries string_bytes es

abbrev pub bundle_eq : Bundle → Bundle → Bool
bundle_eq = eq_of_both (on (λ b. b.trust_domain) (pointwise nat_eq)) (on (λ b. b.authorities) (entries_eq authority_eq))

pub bundle_equiv : IsEquivalence bundle_eq
bundle_equiv = and_equiv (on_equiv (λ b. b.trust_domain) nat_list_eq_equiv) (on_equiv (λ b. b.authorities) (entries_equiv authority_equiv))

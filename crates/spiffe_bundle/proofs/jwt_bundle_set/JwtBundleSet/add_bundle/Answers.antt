use Rattle.std.proofs.Common.{◌≡◌, ◌≢◌, List, ℕ, Result, Ok, Err, Some, OnOk}
use Rattle.spiffe_bundle.specs.JwtBundle.{Bundle}
use Rattle.spiffe_bundle.specs.JwtBundleSet.{Bundles, with_bundle, find_bundle}
use Rattle.spiffe_bundle.specs.declared.error.JwtBundleError.{JwtBundleError}
use Rattle.spiffe_bundle.proofs.MapEntries.{found_same, found_other}
use Rattle.spiffe_bundle.proofs.jwt_bundle_set.JwtBundleSet.add_bundle.Goals as goal

found : (r : Result (Unit {0}) JwtBundleError) (old new : Bundles) (b : Bundle) → OnOk r (new ≡ with_bundle old b)
    → OnOk r (find_bundle b.trust_domain new ≡ Some b)
found (Ok u) old new b is = rw is (found_same b.trust_domain b old)
found (Err e) old new b is = is

others : (r : Result (Unit {0}) JwtBundleError) (old new : Bundles) (b : Bundle) → OnOk r (new ≡ with_bundle old b)
    → OnOk r ((q : List ℕ) → q ≢ b.trust_domain → find_bundle q new ≡ find_bundle q old)
others (Ok u) old new b is = λ q other. rw is (found_other q b.trust_domain b old other)
others (Err e) old new b is = is

pub returns-clause-found : goal.returns-clause-found
returns-clause-found c = found c.add_share.result c.args.self.now c.add_share.new.self c.args.bundle (rw c.in_ok-shared.ensures.ok at c.add_share.ensures.ok)

pub returns-clause-others : goal.returns-clause-others
returns-clause-others c = others c.add_share.result c.args.self.now c.add_share.new.self c.args.bundle (rw c.in_ok-shared.ensures.ok at c.add_share.ensures.ok)

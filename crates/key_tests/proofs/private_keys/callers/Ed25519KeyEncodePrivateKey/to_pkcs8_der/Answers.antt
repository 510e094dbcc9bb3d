use Rattle.std.proofs.Common.{ℕ, ◌<◌, ◌^◌, [], ◌∷◌, refl, lit≤, lit<}
use Rattle.std.proofs.lemmas.List.Elements.{All-cons, All-nil}
use Rattle.der_core.specs.Oid.{subidentifier_bytes, high_bytes, numbers_from}
use Rattle.key_tests.proofs.private_keys.callers.Ed25519KeyEncodePrivateKey.to_pkcs8_der.Goals as goal

pub known-requires : goal.known-requires
unfolding subidentifier_bytes high_bytes numbers_from
known-requires c =
    let P : ℕ → Type 0 = λ n. n < 2 ^ 32 in
    record {
      some = lit≤ tt;
      short = lit≤ tt;
      numbers = record {
        spelt = refl;
        small = All-cons P 43 (101 ∷ 112 ∷ []) (lit< tt) (All-cons P 101 (112 ∷ []) (lit< tt) (All-cons P 112 [] (lit< tt) (All-nil P)));
      };
    }

use Rattle.std.proofs.Common.{ℕ, ◌<◌, ◌^◌, [], ◌∷◌, refl, lit≤, lit<}
use Rattle.std.proofs.lemmas.List.Elements.{All-cons, All-nil}
use Rattle.der_core.specs.Oid.{subidentifier_bytes, high_bytes, numbers_from}
use Rattle.key_tests.proofs.public_keys.identifiers.p256.Goals as goal

pub known-requires : goal.known-requires
unfolding subidentifier_bytes high_bytes numbers_from
known-requires c =
    let P : ℕ → Type 0 = λ n. n < 2 ^ 32 in
    record {
      some = lit≤ tt;
      short = lit≤ tt;
      numbers = record {
        spelt = refl;
        small = All-cons P 42 (840 ∷ 10045 ∷ 2 ∷ 1 ∷ []) (lit< tt)
            (All-cons P 840 (10045 ∷ 2 ∷ 1 ∷ []) (lit< tt) (All-cons P 10045 (2 ∷ 1 ∷ []) (lit< tt)
            (All-cons P 2 (1 ∷ []) (lit< tt) (All-cons P 1 [] (lit< tt) (All-nil P)))));
      };
    }

pub known-requires-2 : goal.known-requires-2
unfolding subidentifier_bytes high_bytes numbers_from
known-requires-2 c =
    let P : ℕ → Type 0 = λ n. n < 2 ^ 32 in
    record {
      some = lit≤ tt;
      short = lit≤ tt;
      numbers = record {
        spelt = refl;
        small = All-cons P 42 (840 ∷ 10045 ∷ 3 ∷ 1 ∷ 7 ∷ []) (lit< tt)
            (All-cons P 840 (10045 ∷ 3 ∷ 1 ∷ 7 ∷ []) (lit< tt)
            (All-cons P 10045 (3 ∷ 1 ∷ 7 ∷ []) (lit< tt) (All-cons P 3 (1 ∷ 7 ∷ []) (lit< tt)
            (All-cons P 1 (7 ∷ []) (lit< tt) (All-cons P 7 [] (lit< tt) (All-nil P))))));
      };
    }

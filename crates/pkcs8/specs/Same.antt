-- Whether two private keys are the same as plain data.
use Rattle.std.proofs.Common.{◌≡◌, Bool, ap, ◌&&◌}
use Rattle.std.proofs.lemmas.Bool.Decides.{Decides-and, Decides-like}
use Rattle.std.specs.Bool.{Decides}
use Rattle.std.specs.Cmp.Lexicographic.{bytes_decides, pointwise}
use Rattle.std.specs.Option.{option_eq}
use Rattle.std.specs.Prelude.{nat_eq}
use Rattle.spki.specs.Same.{algorithms_decide, bits_decide, options_decide, same_algorithm, same_bits}
use Rattle.pkcs8.specs.PlainPrivateKey.{PlainPrivateKey}
use Rattle.pkcs8.specs.ReadLaws.{same_parts}

abbrev pub same_private_key : PlainPrivateKey → PlainPrivateKey → Bool
same_private_key a b =
    same_algorithm a.algorithm b.algorithm && (pointwise nat_eq a.private_key b.private_key &&
    (option_eq (pointwise nat_eq) a.attributes b.attributes && option_eq same_bits a.public_key b.public_key))

pub private_keys_decide : (a b : PlainPrivateKey) → Decides (same_private_key a b) (a ≡ b)
private_keys_decide a b =
    Decides-like _ (λ e. same_parts a b e.0 e.1.0 e.1.1.0 e.1.1.1)
    (λ e. (
      ap (λ (x : PlainPrivateKey). x.algorithm) e,
      (
        ap (λ (x : PlainPrivateKey). x.private_key) e,
        (ap (λ (x : PlainPrivateKey). x.attributes) e, ap (λ (x : PlainPrivateKey). x.public_key) e),
      ),
    ))
    (Decides-and _ _ (algorithms_decide a.algorithm b.algorithm)
    (Decides-and _ _ (bytes_decides a.private_key b.private_key)
    (Decides-and _ _ (options_decide (pointwise nat_eq) bytes_decides a.attributes b.attributes)
    (options_decide same_bits bits_decide a.public_key b.public_key))))

-- The value of any tag that an encoding is.
use Rattle.std.proofs.Common.{◌≡◌, ℕ, ◌<◌, ◌^◌, List, [], ◌++◌, length, Result, Ok, Err, MatchResult, refl, sym, ap, ◌∙◌, append-nil}
use Rattle.der_core.specs.declared.any.Any.{Any}
use Rattle.der_core.specs.declared.error.Error.{Error}
use Rattle.der_core.specs.declared.error.Error.TheVariants as error
use Rattle.der_core.specs.Any.{PlainAny, plain_any, der_of, EncodedFrom}
use Rattle.der_core.specs.Der.{IsTag, IsValue}
use Rattle.der_core.specs.ValueLaws.{values_unique}

plain_value : (p : PlainAny) → IsTag p.tag → length (der_of p) < 2 ^ 32 → IsValue (der_of p)
plain_value p t fits = record { tag = p.tag; content = p.content; tag_ok = t; is = refl; fits = fits }

pub encoded_from : (bytes s rest : List ℕ) (p : PlainAny) (r : Result Any Error) → (length bytes < 2 ^ 32) → IsValue bytes → s ≡ bytes
    → s ≡ der_of p ++ rest → IsTag p.tag → length (der_of p) < 2 ^ 32 → MatchResult r (λ v. plain_any v ≡ p) (λ e. e ≡ error.OutOfMemory) → EncodedFrom bytes r
encoded_from bytes s rest p (Ok v) fits value is found t small same =
    let whole : der_of p ++ rest ≡ bytes ++ [] = sym found ∙ is ∙ sym (append-nil bytes) in
    (ap (λ (x : PlainAny). der_of x) same ∙ (values_unique (der_of p) rest bytes [] (plain_value p t small) value whole).0, fits)
encoded_from bytes s rest p (Err e) fits value is found t small same = rw same tt

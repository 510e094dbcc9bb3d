-- What the calls that read files answer, as the rules of packing say it.
use Rattle.std.proofs.Common.{◌≡◌, ◌⊎◌, ℕ, ◌<◌, ◌≤◌, nat_lt, false, true, List, length, IsSomeAnd, Result, Ok, Err, refl, sym, inl, inr, arith, if◌then◌else◌}
use Rattle.std.specs.declared.option.Option.{Option}
use Rattle.std.specs.declared.option.Option.TheVariants.{None, Some}
use Rattle.std.proofs.lemmas.Bool.Decides.{nat_tests}
use Rattle.der_core.specs.Der.{IsValue}
use Rattle.der_core.specs.declared.error.Error.{Error as DerError}
use Rattle.der_core.specs.declared.error.Error.TheVariants as der
use Rattle.der_small.specs.KeyFiles.{ReadsKeyFile}
use Rattle.pkcs8.specs.Answers.{ReadAnswer as PrivateAnswer}
use Rattle.pkcs8.specs.Error.{kind_of as private_kind}
use Rattle.pkcs8.specs.PlainPrivateKey.{PlainPrivateKey, ReadsPrivateKey}
use Rattle.pkcs8.specs.declared.error.Error.{Error as PrivateError}
use Rattle.pkcs8.specs.declared.error.Error.TheVariants as pkcs8
use Rattle.spki.specs.Answers.{ReadAnswer as PublicAnswer}
use Rattle.spki.specs.Error.{kind_of as public_kind}
use Rattle.spki.specs.PlainPublicKey.{PlainPublicKey, ReadsPublicKey}
use Rattle.spki.specs.declared.error.Error.{Error as PublicError}
use Rattle.spki.specs.declared.error.Error.TheVariants as spki
use Rattle.pack_update.specs.KeyFiles.{ReadsPrivateKeyFile, ReadsPublicKeyFile, der_refusal, private_refusal, public_refusal, whole_file}
use Rattle.pack_update.specs.Rules.{Gives, OrFault, RefusedAs}
use Rattle.pack_update.specs.declared.error.FileError.TheVariants.{Missing, TooLong, Malformed, TrailingData}
use Rattle.pack_update.specs.declared.error.PackError.{PackError}
use Rattle.pack_update.specs.declared.error.PackError.TheVariants as broken
use Rattle.pack_update.specs.declared.files.KeyFile.{KeyFile}
use Rattle.pack_update.specs.declared.files.KeyFile.TheVariants.{Private, Public}

-- no file is refused otherwise
no_other : (found : Option (List ℕ)) → IsSomeAnd found (λ bytes. (length bytes ≤ 16777216) × (⊥ ⊎ (IsValue bytes × ⊥))) → ⊥
no_other None h = h
no_other (Some bytes) h = elim (h.1) as (λ _. ⊥) [ inl none ↦ none | inr p ↦ p.1 ]

module _ {V : Type 0} (plain : V → PlainPrivateKey) (n : ℕ) (found : Option (List ℕ)) where
  pub private_refused : (e : PrivateError) → ReadsKeyFile private_kind plain (PrivateAnswer ReadsPrivateKey) found (Err e)
      → Gives plain (OrFault (RefusedAs (broken.KeyFile n) (ReadsPrivateKeyFile found))) (Err (private_refusal n e))
  private_refused (pkcs8.Asn1 der.FileMissing) h = inr (inr (Missing, h, refl))
  private_refused (pkcs8.Asn1 der.FileTooLong) h = inr (inr (TooLong, h, refl))
  private_refused (pkcs8.Asn1 der.FileFault) h = inr (inl refl)
  private_refused (pkcs8.Asn1 der.OutOfMemory) h = inl refl
  private_refused (pkcs8.Asn1 der.Malformed) h = inr (inr (Malformed, h, refl))
  private_refused (pkcs8.Asn1 (der.TrailingData decoded remaining)) h = inr (inr (TrailingData decoded remaining, h, refl))
  private_refused (pkcs8.Asn1 (der.TagUnexpected expected actual)) h = absurd (no_other found h)
  private_refused (pkcs8.Asn1 der.Overlength) h = absurd (no_other found h)
  private_refused (pkcs8.Asn1 der.OidMalformed) h = absurd (no_other found h)
  private_refused (pkcs8.Asn1 (der.OidUnknown oid)) h = absurd (no_other found h)
  private_refused pkcs8.OutOfMemory h = inl refl
  private_refused (pkcs8.KeyMalformed e) h = absurd (no_other found h)
  private_refused pkcs8.ParametersMalformed h = absurd (no_other found h)
  private_refused (pkcs8.PublicKey e) h = absurd (no_other found h)

module _ {V : Type 0} (plain : V → PlainPublicKey) (n : ℕ) (found : Option (List ℕ)) where
  pub public_refused : (e : PublicError) → ReadsKeyFile public_kind plain (PublicAnswer ReadsPublicKey) found (Err e)
      → Gives plain (OrFault (RefusedAs (broken.PublicFile n) (ReadsPublicKeyFile found))) (Err (public_refusal n e))
  public_refused (spki.Asn1 der.FileMissing) h = inr (inr (Missing, h, refl))
  public_refused (spki.Asn1 der.FileTooLong) h = inr (inr (TooLong, h, refl))
  public_refused (spki.Asn1 der.FileFault) h = inr (inl refl)
  public_refused (spki.Asn1 der.OutOfMemory) h = inl refl
  public_refused (spki.Asn1 der.Malformed) h = inr (inr (Malformed, h, refl))
  public_refused (spki.Asn1 (der.TrailingData decoded remaining)) h = inr (inr (TrailingData decoded remaining, h, refl))
  public_refused (spki.Asn1 (der.TagUnexpected expected actual)) h = absurd (no_other found h)
  public_refused (spki.Asn1 der.Overlength) h = absurd (no_other found h)
  public_refused (spki.Asn1 der.OidMalformed) h = absurd (no_other found h)
  public_refused (spki.Asn1 (der.OidUnknown oid)) h = absurd (no_other found h)
  public_refused spki.OutOfMemory h = inl refl
  public_refused spki.AlgorithmParametersMissing h = absurd (no_other found h)
  public_refused spki.KeyMalformed h = absurd (no_other found h)
  public_refused (spki.OidUnknown oid) h = absurd (no_other found h)

-- only a fault of the disk becomes one
der_fault : (file : KeyFile) (e : DerError) → der_refusal file e ≡ broken.Fault → e ≡ der.FileFault
der_fault (Private n) der.FileMissing is = cc
der_fault (Private n) der.FileTooLong is = cc
der_fault (Private n) der.FileFault is = refl
der_fault (Private n) der.OutOfMemory is = cc
der_fault (Private n) der.Malformed is = cc
der_fault (Private n) (der.TrailingData decoded remaining) is = cc
der_fault (Private n) (der.TagUnexpected expected actual) is = cc
der_fault (Private n) der.Overlength is = cc
der_fault (Private n) der.OidMalformed is = cc
der_fault (Private n) (der.OidUnknown oid) is = cc
der_fault (Public n) der.FileMissing is = cc
der_fault (Public n) der.FileTooLong is = cc
der_fault (Public n) der.FileFault is = refl
der_fault (Public n) der.OutOfMemory is = cc
der_fault (Public n) der.Malformed is = cc
der_fault (Public n) (der.TrailingData decoded remaining) is = cc
der_fault (Public n) (der.TagUnexpected expected actual) is = cc
der_fault (Public n) der.Overlength is = cc
der_fault (Public n) der.OidMalformed is = cc
der_fault (Public n) (der.OidUnknown oid) is = cc

pub private_fault : (n : ℕ) (e : PrivateError) → private_refusal n e ≡ broken.Fault → e ≡ pkcs8.Asn1 der.FileFault
private_fault n (pkcs8.Asn1 e) is = let same : e ≡ der.FileFault = der_fault (Private n) e is in cc
private_fault n pkcs8.OutOfMemory is = cc
private_fault n (pkcs8.KeyMalformed e) is = cc
private_fault n pkcs8.ParametersMalformed is = cc
private_fault n (pkcs8.PublicKey e) is = cc

pub public_fault : (n : ℕ) (e : PublicError) → public_refusal n e ≡ broken.Fault → e ≡ spki.Asn1 der.FileFault
public_fault n (spki.Asn1 e) is = let same : e ≡ der.FileFault = der_fault (Public n) e is in cc
public_fault n spki.OutOfMemory is = cc
public_fault n spki.AlgorithmParametersMissing is = cc
public_fault n spki.KeyMalformed is = cc
public_fault n (spki.OidUnknown oid) is = cc

module _ (missing too_long : PackError) where
  pub whole_bytes : (found : Option (List ℕ)) (bytes : List ℕ) → found ≡ Some bytes → length bytes ≤ 16777216 → whole_file missing too_long found ≡ Ok bytes
  whole_bytes found bytes is small =
      let fits : nat_lt 16777216 (length bytes) ≡ false = grind (arith, nat_tests) in
      rw (is, fits) refl

  pub whole_missing : (found : Option (List ℕ)) → found ≡ None → whole_file missing too_long found ≡ Err missing
  whole_missing found is = rw is refl

  pub whole_too_long : (found : Option (List ℕ)) → IsSomeAnd found (λ bytes. 16777216 < length bytes) → whole_file missing too_long found ≡ Err too_long
  whole_too_long None h = absurd h
  whole_too_long (Some bytes) h =
      let long : nat_lt 16777216 (length bytes) ≡ true = grind (arith, nat_tests) in
      rw long refl

use Rattle.std.proofs.Common.{◌≡◌, ◌∙◌, Option}
use Rattle.der_core.specs.SequenceLaws.{unless}
use Rattle.der_core.proofs.Tagged.{on_err_any}
use Rattle.pkcs8.specs.Extensions.{IsExtensions}
use Rattle.pkcs8.specs.PrivateKey.{AfterAttributes}
use Rattle.pkcs8.specs.Version.{version_of}
use Rattle.pkcs8.proofs.Keys.{public_field}
use Rattle.pkcs8.proofs.tail.after_attributes.Goals as goal

pub returns-in_err-key-in-V2-clause-none : goal.returns-in_err-key-in-V2-clause-none
returns-in_err-key-in-V2-clause-none g c =
    let none : (k : Option _) → version_of k ≡ c.args.version → AfterAttributes g.PubKey.DecodeValue.HasContent k c.args.bytes.now → ⊥ = λ k e a.
    let f = public_field g.PubKey.DecodeValue.HasContent c.args.bytes.now c.in-Some.content.now c.in-Some.rest.now
    (rw c.from_valid.ensures at c.in-Some.ensures.value) (rw c.from_valid.ensures at c.in-Some.ensures.fits) k (e ∙ c.in-V2.is) a in
    c.in_err-key-in-V2.ensures.none f.key (rw c.new.ensures f.has) in
    on_err_any _ none

pub returns-then-not-are_extensions-2-clause-none : goal.returns-then-not-are_extensions-2-clause-none
returns-then-not-are_extensions-2-clause-none g c = λ k e a.
    let f = public_field g.PubKey.DecodeValue.HasContent c.args.bytes.now c.in-Some.content.now c.in-Some.rest.now
    (rw c.from_valid.ensures at c.in-Some.ensures.value) (rw c.from_valid.ensures at c.in-Some.ensures.fits) k (e ∙ c.in-V2.is) a in
    let next : IsExtensions c.in-Some.rest.now = f.next in
    unless _ c.are_extensions-in-V2.ensures c.if-not-are_extensions-2.true next

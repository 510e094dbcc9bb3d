use Rattle.std.proofs.Common.{◌≡◌, Option}
use Rattle.der_core.proofs.Tagged.{on_err_any}
use Rattle.pkcs8.specs.PrivateKey.{AfterKey}
use Rattle.pkcs8.specs.Version.{version_of}
use Rattle.pkcs8.proofs.Keys.{attributes_field}
use Rattle.pkcs8.proofs.tail.after_key.Goals as goal

pub returns-in_err-attributes-clause-none : goal.returns-in_err-attributes-clause-none
returns-in_err-attributes-clause-none g c =
    let none : (t : Option _) (k : Option _) → version_of k ≡ c.args.version →
    AfterKey g.Attrs.DecodeValue.HasContent g.PubKey.DecodeValue.HasContent t k c.args.bytes.now → ⊥ = λ t k e a.
    let f = attributes_field g.Attrs.DecodeValue.HasContent g.PubKey.DecodeValue.HasContent c.args.bytes.now c.in-Some.content.now c.in-Some.rest.now t k
    (rw c.from_valid.ensures at c.in-Some.ensures.value) (rw c.from_valid.ensures at c.in-Some.ensures.fits) a in
    c.in_err-attributes.ensures.none f.attributes (rw c.new.ensures f.has) in
    on_err_any _ none

pub returns-in_err-public_key-2-clause-none : goal.returns-in_err-public_key-2-clause-none
returns-in_err-public_key-2-clause-none g c =
    let none : (t : Option _) (k : Option _) → version_of k ≡ c.args.version →
    AfterKey g.Attrs.DecodeValue.HasContent g.PubKey.DecodeValue.HasContent t k c.args.bytes.now → ⊥ = λ t k e a.
    let f = attributes_field g.Attrs.DecodeValue.HasContent g.PubKey.DecodeValue.HasContent c.args.bytes.now c.in-Some.content.now c.in-Some.rest.now t k
    (rw c.from_valid.ensures at c.in-Some.ensures.value) (rw c.from_valid.ensures at c.in-Some.ensures.fits) a in
    c.in_err-public_key-2.ensures.none k e f.next in
    on_err_any _ none

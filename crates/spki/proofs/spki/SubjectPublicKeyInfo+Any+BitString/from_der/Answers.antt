use Rattle.std.proofs.Common.{refl}
use Rattle.der_core.specs.Laws.{content_fits}
use Rattle.der_core.proofs.Owned.{owned_refusal}
use Rattle.spki.specs.PlainPublicKey.{ReadsPublicKey, plain_public_key}
use Rattle.spki.proofs.Owned.{ReadsPublicKeyRef, same_public_keys}
use Rattle.spki.proofs.spki.SubjectPublicKeyInfo+Any+BitString.from_der.Goals as goal

pub returns-in-Err : goal.returns-in-Err
returns-in-Err c = owned_refusal ReadsPublicKeyRef ReadsPublicKey plain_public_key c.args.bytes.now c.in-Err.error
    (same_public_keys (record {
      of = λ p t fits. record {
        tag = record { byte = p.tag; valid = t };
        value = record c.args.bytes { now = p.content };
        small =
            content_fits p.tag p.content fits;
      };
      is = λ p t fits. refl;
    })
    (λ p lawful. (record { unused_bits = p.unused_bits; raw = record c.args.bytes { now = p.octets }; are_bits = lawful }, refl))) c.in-Err.ensures

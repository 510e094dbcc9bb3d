use Rattle.std.proofs.Common.{◌≡◌, refl, sym, subst}
use Rattle.der_core.specs.Decode.{ReadsTagged}
use Rattle.der_core.specs.Laws.{content_fits}
use Rattle.der_core.proofs.Owned.{owned_refusal, same_tagged}
use Rattle.pkcs8.specs.PlainPrivateKey.{ReadsPrivateKey, plain_private_key}
use Rattle.pkcs8.proofs.Owned.{HasOctetsRef, KeyContentRef, reads_plain, same_private_keys}
use Rattle.der_small.specs.OctetString.{octets_ref}
use Rattle.pkcs8.proofs.private_key_info.PrivateKeyInfo+Any+OctetString+BitString+Attributes.from_der.Goals as goal

pub returns-in-Ok-ref_to_owned : goal.returns-in-Ok-ref_to_owned
returns-in-Ok-ref_to_owned c =
    subst (ReadsPrivateKey c.args.bytes.now) (sym c.in-Ok-ref_to_owned.ensures) (reads_plain c.args.bytes.now c.in-Ok.value c.in-Ok.ensures)

pub returns-in-Err : goal.returns-in-Err
returns-in-Err c =
    let same = same_private_keys (record {
      any = record {
        of = λ p t fits. record {
          tag = record { byte = p.tag; valid = t };
          value = record c.args.bytes { now = p.content };
          small =
              content_fits p.tag p.content fits;
        };
        is = λ p t fits. refl;
      };
      octets = same_tagged 4 HasOctetsRef (λ content octets. octets ≡ content) octets_ref (λ c v h. h)
          (λ b p h fits. record { bytes = record c.args.bytes { now = b }; small = fits }) (λ b p h fits. refl);
      attributes = record {
        of = λ b p h fits. record { content = record c.args.bytes { now = b }; small = fits };
        reads = λ b p h fits. refl;
      };
      bits = record {
        of = λ b p h fits. record { unused_bits = p.unused_bits; raw = record c.args.bytes { now = p.octets }; are_bits = h.bits };
        reads = λ b p h fits. h.is;
      };
    }) in
    owned_refusal (ReadsTagged 48 KeyContentRef) ReadsPrivateKey plain_private_key c.args.bytes.now c.in-Err.error same c.in-Err.ensures

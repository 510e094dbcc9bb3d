use Rattle.std.proofs.Common.{◌≡◌, refl}
use Rattle.std.proofs.lemmas.Grind.{merely}
use Rattle.der_core.specs.Laws.{content_fits}
use Rattle.der_core.proofs.Owned.{same_tagged}
use Rattle.der_small.specs.OctetString.{octets_ref}
use Rattle.spki.proofs.Owned.{same_public_keys}
use Rattle.pkcs8.proofs.Owned.{HasOctetsRef, same_private_keys}
use Rattle.update_document.proofs.PlainReads.{update_answer}
use Rattle.update_document.proofs.update.read_update.Goals as goal

pub returns : goal.returns
returns c =
    update_answer (record {
      text = λ b p r. record {
        value = record { text = record c.args.bytes { now = r.content }; small = content_fits 12 r.content (rw (← r.is) r.fits); utf8 = merely r.has.1 };
        reads = record { content = r.content; has = refl; is = r.is; fits = r.fits };
      };
      octets = λ b p r. record {
        value = record { bytes = record c.args.bytes { now = r.content }; small = content_fits 4 r.content (rw (← r.is) r.fits) };
        reads = record { content = r.content; has = refl; is = r.is; fits = r.fits };
      };
      private = same_private_keys (record {
        any = record {
          of = λ p t fits. record {
            tag = record { byte = p.tag; valid = t };
            value = record c.args.bytes { now = p.content };
            small =
                content_fits p.tag p.content fits;
          };
          is = λ p t fits. refl;
        };
        octets = same_tagged 4 HasOctetsRef (λ content octets. octets ≡ content) octets_ref (λ c v h. h)
            (λ b p h fits. record { bytes = record c.args.bytes { now = b }; small = fits }) (λ b p h fits. refl);
        attributes = record {
          of = λ b p h fits. record { content = record c.args.bytes { now = b }; small = fits };
          reads = λ b p h fits. refl;
        };
        bits = record {
          of = λ b p h fits. record { unused_bits = p.unused_bits; raw = record c.args.bytes { now = p.octets }; are_bits = h.bits };
          reads = λ b p h fits. h.is;
        };
      });
      public = same_public_keys (record {
        of = λ p t fits. record {
          tag = record { byte = p.tag; valid = t };
          value = record c.args.bytes { now = p.content };
          small =
              content_fits p.tag p.content fits;
        };
        is = λ p t fits. refl;
      })
          (λ p lawful. (record { unused_bits = p.unused_bits; raw = record c.args.bytes { now = p.octets }; are_bits = lawful }, refl));
    }) c.args.bytes.now c.read_document.result c.read_document.ensures

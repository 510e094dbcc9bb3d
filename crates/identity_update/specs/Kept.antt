-- What the document and the kept places say of an entry.
use Rattle.std.specs.Prelude.{◌≡◌, ℕ, ◌<◌, ◌^◌, List, length, Option, Some, None, map, option_map, IfSome, if◌then◌else◌}
use Rattle.std.specs.List.{AllByRecursion}
use Rattle.std.specs.Str.{IsUtf8}
use Rattle.der_core.specs.Any.{PlainAny}
use Rattle.der_core.specs.ObjectIdentifier.{oid_content}
use Rattle.der_core.specs.Tag.{byte_of}
use Rattle.der_small.specs.Bits.{PlainBits, AreBits}
use Rattle.spki.specs.PlainAlgorithm.{PlainAlgorithm}
use Rattle.spki.specs.PlainPublicKey.{public_key_der}
use Rattle.spiffe_bundle.specs.JwtBundleSet.{Bundles}
use Rattle.identity_update.specs.Bundle.{plain_bundle}
use Rattle.identity_update.specs.BundleMap.{bundle_map}
use Rattle.identity_update.specs.Canonical.{update_der}
use Rattle.identity_update.specs.Lawful.{IsLawful}
use Rattle.identity_update.specs.Parts.{Entry, UpdateParts}
use Rattle.identity_update.specs.declared.bundle.BundleParts.{BundleParts}
use Rattle.identity_update.specs.Place.{IsWithin, part}
use Rattle.identity_update.specs.declared.place.Place.{Place}
use Rattle.identity_update.specs.declared.kept.KeptAny.{KeptAny}
use Rattle.identity_update.specs.declared.kept.KeptEntry.{KeptEntry}

abbrev pub kept_any : List ℕ → KeptAny → PlainAny
kept_any document k = record { tag = byte_of k.tag; content = part document k.content }

abbrev pub kept_algorithm : List ℕ → KeptEntry → PlainAlgorithm
kept_algorithm document e = record { oid = oid_content e.oid; parameters = option_map (kept_any document) e.parameters }

abbrev pub kept_bits : List ℕ → KeptEntry → PlainBits
kept_bits document e = record { unused_bits = e.unused_bits; octets = part document e.bits }

abbrev pub kept_entry : List ℕ → KeptEntry → Entry
kept_entry document e = record {
  id = e.id;
  private_key = record {
    algorithm = kept_algorithm document e;
    private_key = part document e.octets;
    attributes = option_map (part document) e.attributes;
    public_key = if e.holds_public_key then Some (kept_bits document e) else None;
  };
  public_key = record { algorithm = kept_algorithm document e; key = kept_bits document e };
}

-- each place lies in a document that is not too long, and the bits are those of a bit string
pub record IsPlaced (document : List ℕ) (e : KeptEntry) : Type 0 where
  pub small : length document < 2 ^ 32
  pub parameters : IfSome e.parameters (λ k. IsWithin document k.content)
  pub octets : IsWithin document e.octets
  pub attributes : IfSome e.attributes (IsWithin document)
  pub bits : IsWithin document e.bits
  pub are_bits : AreBits e.unused_bits (part document e.bits)

-- the places are those of an entry whose public key has a document
pub record IsKept (document : List ℕ) (e : KeptEntry) : Type 0 where
  pub placed : IsPlaced document e
  pub public_key : length (public_key_der (kept_entry document e).public_key) < 2 ^ 32

abbrev pub AreKept : List ℕ → List KeptEntry → Type 0
AreKept document es = AllByRecursion (IsKept document) es

-- the reason is a text in the document
pub record IsReason (document : List ℕ) (p : Place) : Type 0 where
  pub within : IsWithin document p
  pub utf8 : IsUtf8 (part document p)

-- the update that is kept, whose entries stand at a place of the document
abbrev pub kept_update : List ℕ → Place → List KeptEntry → List BundleParts → Option Place → UpdateParts
kept_update document at es bs r = record {
  entries = map (kept_entry (part document at)) es;
  bundles = map plain_bundle bs;
  reason =
      option_map (part document) r;
}

-- the document is the one of the kept update, which is lawful and not too long, and the set is that of its bundles
pub record IsKeptUpdate (document : List ℕ) (at : Place) (es : List KeptEntry) (bs : List BundleParts) (set : Bundles) (r : Option Place) : Type 0 where
  pub within : IsWithin document at
  pub entries : AreKept (part document at) es
  pub reason : IfSome r (IsReason document)
  pub small : length document < 2 ^ 32
  pub document_is : document ≡ update_der (kept_update document at es bs r)
  pub set_is : set ≡ bundle_map (map plain_bundle bs)
  pub lawful : IsLawful (kept_update document at es bs r)

-- From borrowed entries and bundles to plain ones, and back.
use Rattle.std.proofs.Common.{◌≡◌, ℕ, List, [], ◌∷◌, map, Result, Ok, Err, subst, ◌∙◌}
use Rattle.std.proofs.lemmas.Str.{IsUtf8-had}
use Rattle.std.specs.Str.{IsUtf8}
use Rattle.der_core.specs.Decode.{FromDerOwned, ReadsTagged}
use Rattle.der_core.specs.declared.error.Error.{Error}
use Rattle.der_core.specs.declared.error.Error.TheVariants as error
use Rattle.der_core.proofs.Owned.{SameReads}
use Rattle.der_small.specs.OctetString.{octets_ref}
use Rattle.der_small.specs.Utf8.{text_ref}
use Rattle.der_small.specs.declared.octet_string.OctetStringRef.{OctetStringRef}
use Rattle.der_small.specs.declared.utf8.Utf8Ref.{Utf8Ref}
use Rattle.spki.proofs.Owned.{ReadsPublicKeyRef, public_key_lawful, public_key_seen, public_key_written}
use Rattle.spki.specs.PlainPublicKey.{ReadsPublicKey}
use Rattle.pkcs8.proofs.Owned.{HasOctetsRef, KeyContentRef, reads_plain}
use Rattle.pkcs8.specs.PlainPrivateKey.{ReadsOctets, ReadsPrivateKey}
use Rattle.update_document.specs.Document.{DocumentOf, ReadsDocument}
use Rattle.update_document.specs.DocumentFields.{document_of}
use Rattle.update_document.specs.Elements.{Elements}
use Rattle.der_core.specs.Sequence.{ThreeFields, TwoFields}
use Rattle.update_document.specs.Refs.{BundleRef, EntryRef, written_bundle, written_entry, written_update}
use Rattle.update_document.specs.Written.{ReadsBundle, ReadsEntry, ReadsText, ReadsUpdate, WrittenBundle, WrittenEntry}
use Rattle.update_document.specs.declared.document.DocumentFields.{DocumentFields}

-- some value is read from the bytes
pub record HasRead {V : Type 0} (Reads : List ℕ → V → Type 0) (bytes : List ℕ) : Type 0 where
  pub value : V
  pub reads : Reads bytes value

-- each value is read as its plain form, and where a plain one is read there is a value
pub record Plainly {V P : Type 0} (Reads : List ℕ → V → Type 0) (ReadsPlain : List ℕ → P → Type 0) (plain : V → P) : Type 0 where
  pub to : (b : List ℕ) (v : V) → Reads b v → ReadsPlain b (plain v)
  pub back : (b : List ℕ) (p : P) → ReadsPlain b p → HasRead Reads b

abbrev pub HasTextRef : List ℕ → Utf8Ref → Type 0
HasTextRef = λ b v. v.text.now ≡ b

abbrev pub ReadsTextRef : List ℕ → Utf8Ref → Type 0
ReadsTextRef = ReadsTagged 12 HasTextRef

abbrev pub ReadsOctetsRef : List ℕ → OctetStringRef → Type 0
ReadsOctetsRef = ReadsTagged 4 HasOctetsRef

abbrev pub ReadsEntryRef : List ℕ → EntryRef → Type 0
ReadsEntryRef = ReadsTagged 48 (λ b v. ThreeFields ReadsTextRef (ReadsTagged 48 KeyContentRef) ReadsPublicKeyRef b v.text v.private_key v.public_key)

abbrev pub ReadsBundleRef : List ℕ → BundleRef → Type 0
ReadsBundleRef = ReadsTagged 48 (λ b v. TwoFields ReadsTextRef ReadsOctetsRef b v.text v.jwks)

text_to : (b : List ℕ) (v : Utf8Ref) → ReadsTextRef b v → ReadsText b (text_ref v)
text_to b v r = record { content = r.content; has = (r.has, subst IsUtf8 r.has (IsUtf8-had _ v.utf8)); is = r.is; fits = r.fits }

octets_to : (b : List ℕ) (v : OctetStringRef) → ReadsOctetsRef b v → ReadsOctets b (octets_ref v)
octets_to b v r = record { content = r.content; has = r.has; is = r.is; fits = r.fits }

entry_to : (b : List ℕ) (v : EntryRef) → ReadsEntryRef b v → ReadsEntry b (written_entry v)
entry_to b v r = record {
  content = r.content;
  has = record {
    front = r.has.front;
    rest = r.has.rest;
    is = r.has.is;
    reads = text_to r.has.front v.text r.has.reads;
    next = record {
      front = r.has.next.front;
      rest = r.has.next.rest;
      is = r.has.next.is;
      reads = reads_plain r.has.next.front v.private_key r.has.next.reads;
      next = record {
        is = public_key_written r.has.next.rest v.public_key r.has.next.next ∙ public_key_seen v.public_key;
        fits = r.has.next.next.fits;
        lawful = public_key_lawful v.public_key;
      };
    };
  };
  is = r.is;
  fits = r.fits;
}

bundle_to : (b : List ℕ) (v : BundleRef) → ReadsBundleRef b v → ReadsBundle b (written_bundle v)
bundle_to b v r = record {
  content = r.content;
  has = record {
    front = r.has.front;
    rest = r.has.rest;
    is = r.has.is;
    reads = text_to r.has.front v.text r.has.reads;
    next = octets_to r.has.rest v.jwks r.has.next;
  };
  is = r.is;
  fits = r.fits;
}

-- a borrowed value of each kind for each plain one
pub record Borrowed : Type 0 where
  pub text : (b p : List ℕ) → ReadsText b p → HasRead ReadsTextRef b
  pub octets : (b p : List ℕ) → ReadsOctets b p → HasRead ReadsOctetsRef b
  pub private : SameReads (ReadsTagged 48 KeyContentRef) ReadsPrivateKey
  pub public : SameReads ReadsPublicKeyRef ReadsPublicKey

entry_back : Borrowed → (b : List ℕ) (p : WrittenEntry) → ReadsEntry b p → HasRead ReadsEntryRef b
entry_back of b p r =
    let text = of.text r.has.front p.text r.has.reads in
    record {
      value = record {
        text = text.value;
        private_key = of.private.borrowed r.has.next.front p.private_key r.has.next.reads;
        public_key = of.public.borrowed r.has.next.rest p.public_key r.has.next.next;
      };
      reads = record {
        content = r.content;
        has = record {
          front = r.has.front;
          rest = r.has.rest;
          is = r.has.is;
          reads = text.reads;
          next = record {
            front = r.has.next.front;
            rest = r.has.next.rest;
            is = r.has.next.is;
            reads = of.private.borrowed_reads r.has.next.front p.private_key r.has.next.reads;
            next = of.public.borrowed_reads r.has.next.rest p.public_key r.has.next.next;
          };
        };
        is = r.is;
        fits = r.fits;
      };
    }

bundle_back : Borrowed → (b : List ℕ) (p : WrittenBundle) → ReadsBundle b p → HasRead ReadsBundleRef b
bundle_back of b p r =
    let text = of.text r.has.front p.text r.has.reads in
    let jwks = of.octets r.has.rest p.jwks r.has.next in
    record {
      value = record { text = text.value; jwks = jwks.value };
      reads = record {
        content = r.content;
        has = record { front = r.has.front; rest = r.has.rest; is = r.has.is; reads = text.reads; next = jwks.reads };
        is = r.is;
        fits = r.fits;
      };
    }

pub plain_entries : Borrowed → Plainly ReadsEntryRef ReadsEntry written_entry
plain_entries of = record { to = entry_to; back = entry_back of }

pub plain_bundles : Borrowed → Plainly ReadsBundleRef ReadsBundle written_bundle
plain_bundles of = record { to = bundle_to; back = bundle_back of }

elements_to : {V P : Type 0} (Reads : List ℕ → V → Type 0) (ReadsPlain : List ℕ → P → Type 0) (plain : V → P) → Plainly Reads ReadsPlain plain
    → (vs : List V) (b : List ℕ) → Elements Reads vs b → Elements ReadsPlain (map plain vs) b
elements_to Reads ReadsPlain plain law [] b e = e
elements_to Reads ReadsPlain plain law (v ∷ vs) b e = record {
  front = e.front;
  rest = e.rest;
  is = e.is;
  reads = law.to e.front v e.reads;
  next = elements_to Reads ReadsPlain plain law vs e.rest e.next;
}

abbrev Contains : {V : Type 0} → (List ℕ → V → Type 0) → List ℕ → List V → Type 0
Contains Reads b vs = Elements Reads vs b

elements_back : {V P : Type 0} (Reads : List ℕ → V → Type 0) (ReadsPlain : List ℕ → P → Type 0) (plain : V → P) → Plainly Reads ReadsPlain plain
    → (ps : List P) (b : List ℕ) → Elements ReadsPlain ps b → HasRead (Contains Reads) b
elements_back Reads ReadsPlain plain law [] b e = record { value = []; reads = e }
elements_back Reads ReadsPlain plain law (p ∷ ps) b e =
    let first = law.back e.front p e.reads in
    let more = elements_back Reads ReadsPlain plain law ps e.rest e.next in
    record {
      value = first.value ∷ more.value;
      reads = record { front = e.front; rest = e.rest; is = e.is; reads = first.reads; next = more.reads };
    }

abbrev pub plain_document : {E B E' B' : Type 0} → (E → E') → (B → B') → DocumentOf E B → DocumentOf E' B'
plain_document f g d = record { entries = map f d.entries; bundles = map g d.bundles; reason = d.reason }

document_to : {E B E' B' : Type 0} (RE : List ℕ → E → Type 0) (RB : List ℕ → B → Type 0) (RE' : List ℕ → E' → Type 0) (RB' : List ℕ → B' → Type 0)
    (f : E → E') (g : B → B') → Plainly RE RE' f → Plainly RB RB' g
    → (b : List ℕ) (d : DocumentOf E B) → ReadsDocument RE RB b d → ReadsDocument RE' RB' b (plain_document f g d)
document_to RE RB RE' RB' f g entries bundles b d r = record {
  content = r.content;
  has = record {
    front = r.has.front;
    rest = r.has.rest;
    is = r.has.is;
    reads = record {
      content = r.has.reads.content;
      has = elements_to RE RE' f entries d.entries r.has.reads.content r.has.reads.has;
      is = r.has.reads.is;
      fits = r.has.reads.fits;
    };
    next = record {
      front = r.has.next.front;
      rest = r.has.next.rest;
      is = r.has.next.is;
      reads = record {
        content = r.has.next.reads.content;
        has = elements_to RB RB' g bundles d.bundles r.has.next.reads.content r.has.next.reads.has;
        is =
            r.has.next.reads.is;
        fits = r.has.next.reads.fits;
      };
      next = r.has.next.next;
    };
  };
  is = r.is;
  fits = r.fits;
}

document_back : {E B E' B' : Type 0} (RE : List ℕ → E → Type 0) (RB : List ℕ → B → Type 0) (RE' : List ℕ → E' → Type 0) (RB' : List ℕ → B' → Type 0)
    (f : E → E') (g : B → B') → Plainly RE RE' f → Plainly RB RB' g
    → (b : List ℕ) (d : DocumentOf E' B') → ReadsDocument RE' RB' b d → HasRead (ReadsDocument RE RB) b
document_back RE RB RE' RB' f g entries bundles b d r =
    let es = elements_back RE RE' f entries d.entries r.has.reads.content r.has.reads.has in
    let bs = elements_back RB RB' g bundles d.bundles r.has.next.reads.content r.has.next.reads.has in
    record {
      value = record { entries = es.value; bundles = bs.value; reason = d.reason };
      reads = record {
        content = r.content;
        has = record {
          front = r.has.front;
          rest = r.has.rest;
          is = r.has.is;
          reads = record { content = r.has.reads.content; has = es.reads; is = r.has.reads.is; fits = r.has.reads.fits };
          next = record {
            front = r.has.next.front;
            rest = r.has.next.rest;
            is = r.has.next.is;
            reads = record { content = r.has.next.reads.content; has = bs.reads; is = r.has.next.reads.is; fits = r.has.next.reads.fits };
            next = r.has.next.next;
          };
        };
        is = r.is;
        fits = r.fits;
      };
    }

pub plain_documents : {E B E' B' : Type 0} (RE : List ℕ → E → Type 0) (RB : List ℕ → B → Type 0) (RE' : List ℕ → E' → Type 0) (RB' : List ℕ → B' → Type 0)
    (f : E → E') (g : B → B') → Plainly RE RE' f → Plainly RB RB' g
    → Plainly (ReadsDocument RE RB) (ReadsDocument RE' RB') (plain_document f g)
plain_documents RE RB RE' RB' f g entries bundles = record {
  to = document_to RE RB RE' RB' f g entries bundles;
  back =
      document_back RE RB RE' RB' f g entries bundles;
}

-- the same answer, of plain data
answer_to : {W V P : Type 0} (Reads : List ℕ → V → Type 0) (ReadsPlain : List ℕ → P → Type 0) (plain : V → P) (seen : W → V) → Plainly Reads ReadsPlain plain
    → (bytes : List ℕ) (r : Result W Error) → FromDerOwned seen Reads bytes r → FromDerOwned (λ w. plain (seen w)) ReadsPlain bytes r
answer_to Reads ReadsPlain plain seen law bytes (Ok w) is = law.to bytes (seen w) is
answer_to Reads ReadsPlain plain seen law bytes (Err error.Malformed) none = λ b rest p r is. let read = law.back b p r in none b rest read.value read.reads is
answer_to Reads ReadsPlain plain seen law bytes (Err (error.TrailingData decoded remaining)) t = record {
  front = t.front;
  rest = t.rest;
  value = plain t.value;
  reads = law.to t.front t.value t.reads;
  is = t.is;
  some_rest = t.some_rest;
  decoded_is = t.decoded_is;
  remaining_is = t.remaining_is;
}
answer_to Reads ReadsPlain plain seen law bytes (Err (error.TagUnexpected expected actual)) none = none
answer_to Reads ReadsPlain plain seen law bytes (Err error.Overlength) none = none
answer_to Reads ReadsPlain plain seen law bytes (Err error.OidMalformed) none = none
answer_to Reads ReadsPlain plain seen law bytes (Err (error.OidUnknown oid)) none = none
answer_to Reads ReadsPlain plain seen law bytes (Err error.FileMissing) none = none
answer_to Reads ReadsPlain plain seen law bytes (Err error.FileFault) none = none
answer_to Reads ReadsPlain plain seen law bytes (Err error.FileTooLong) none = none
answer_to Reads ReadsPlain plain seen law bytes (Err error.OutOfMemory) none = tt

-- the answer to the bytes of an update document
pub update_answer : Borrowed → (bytes : List ℕ) (r : Result (DocumentFields EntryRef BundleRef) Error)
    → FromDerOwned document_of (ReadsDocument ReadsEntryRef ReadsBundleRef) bytes r → FromDerOwned written_update ReadsUpdate bytes r
update_answer of bytes r answer =
    answer_to (ReadsDocument ReadsEntryRef ReadsBundleRef) ReadsUpdate (plain_document written_entry written_bundle) document_of
    (plain_documents ReadsEntryRef ReadsBundleRef ReadsEntry ReadsBundle written_entry written_bundle (plain_entries of) (plain_bundles of)) bytes r answer

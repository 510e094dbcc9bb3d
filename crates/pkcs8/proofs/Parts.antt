-- What the parts of a key are read as in one way they are read as in another.
use Rattle.std.proofs.Common.{◌≡◌, ℕ, List, Option, Some, None, option_map, refl, sym, subst}
use Rattle.der_core.specs.Decode.{ReadsTagged}
use Rattle.pkcs8.specs.PrivateKey.{KeyParts, PartReads, ReadsVersion, AfterAttributes, AfterKey, PrivateKeyFields, attributes_tag, public_key_tag, map_parts}
use Rattle.pkcs8.specs.Version.{version_of}

pub record PartsTo {A K B T A' K' B' T' : Type 0} (reads : PartReads A K B T) (reads' : PartReads A' K' B' T') : Type 0 where
  pub algorithm : A → A'
  pub reads_algorithm : (b : List ℕ) (v : A) → reads.algorithm b v → reads'.algorithm b (algorithm v)
  pub private_key : K → K'
  pub reads_private_key : (b : List ℕ) (v : K) → reads.private_key b v → reads'.private_key b (private_key v)
  pub attributes : T → T'
  pub has_attributes : (c : List ℕ) (v : T) → reads.attributes c v → reads'.attributes c (attributes v)
  pub public_key : B → B'
  pub has_public_key : (c : List ℕ) (v : B) → reads.public_key c v → reads'.public_key c (public_key v)

same_version : {B C : Type 0} (f : B → C) (k : Option B) → version_of (option_map f k) ≡ version_of k
same_version f None = refl
same_version f (Some k) = refl

tagged_to : {X Y : Type 0} (H : List ℕ → X → Type 0) (J : List ℕ → Y → Type 0) (f : X → Y) → ((c : List ℕ) (v : X) → H c v → J c (f v))
    → (tag : ℕ) (b : List ℕ) (v : X) → ReadsTagged tag H b v → ReadsTagged tag J b (f v)
tagged_to H J f turn tag b v r = record { content = r.content; has = turn r.content v r.has; is = r.is; fits = r.fits }

public_to : {B C : Type 0} (H : List ℕ → B → Type 0) (J : List ℕ → C → Type 0) (f : B → C) → ((c : List ℕ) (v : B) → H c v → J c (f v))
    → (s : List ℕ) (k : Option B) → AfterAttributes H k s → AfterAttributes J (option_map f k) s
public_to H J f turn s None a = a
public_to H J f turn s (Some k) a = record {
  front = a.front;
  rest = a.rest;
  is = a.is;
  reads = tagged_to H J f turn public_key_tag a.front k a.reads;
  next = a.next;
}

tail_to : {B C T U : Type 0} (HT : List ℕ → T → Type 0) (JT : List ℕ → U → Type 0) (HB : List ℕ → B → Type 0) (JB : List ℕ → C → Type 0) (g : T → U)
    (f : B → C) → ((c : List ℕ) (v : T) → HT c v → JT c (g v)) → ((c : List ℕ) (v : B) → HB c v → JB c (f v)) → (s : List ℕ) (t : Option T) (k : Option B)
    → AfterKey HT HB t k s → AfterKey JT JB (option_map g t) (option_map f k) s
tail_to HT JT HB JB g f turnT turnB s None k a = (a.0, public_to HB JB f turnB s k a.1)
tail_to HT JT HB JB g f turnT turnB s (Some t) k a =
    record {
      front = a.front;
      rest = a.rest;
      is = a.is;
      reads = tagged_to HT JT g turnT attributes_tag a.front t a.reads;
      next =
          public_to HB JB f turnB a.rest k a.next;
    }

pub fields_to : {A K B T A' K' B' T' : Type 0} (reads : PartReads A K B T) (reads' : PartReads A' K' B' T') (to : PartsTo reads reads') (s : List ℕ)
    (v : KeyParts A K B T) → PrivateKeyFields reads s v → PrivateKeyFields reads' s (map_parts to.algorithm to.private_key to.public_key to.attributes v)
fields_to reads reads' to s v t =
    let algorithm = t.next in
    let key = algorithm.next in
    record {
      front = t.front;
      rest = t.rest;
      is = t.is;
      reads = subst (ReadsVersion t.front) (sym (same_version to.public_key v.public_key)) t.reads;
      next = record {
        front = algorithm.front;
        rest = algorithm.rest;
        is = algorithm.is;
        reads = to.reads_algorithm algorithm.front v.algorithm algorithm.reads;
        next = record {
          front = key.front;
          rest = key.rest;
          is = key.is;
          reads = to.reads_private_key key.front v.private_key key.reads;
          next = tail_to reads.attributes reads'.attributes reads.public_key reads'.public_key to.attributes to.public_key to.has_attributes
              to.has_public_key key.rest v.attributes v.public_key key.next;
        };
      };
    }

-- The update that `make` makes, and the lines that it prints.
use Rattle.std.specs.Prelude.{◌≡◌, ℕ, zero, suc, ◌-◌, ◌%◌, ◌==◌, List, [], ◌∷◌, ◌++◌, Option, Some, None, codes, decimal, length, if◌then◌else◌}
use Rattle.std.specs.Int.{w32, to_be_bytes}
use Rattle.std.specs.List.{repeat}
use Rattle.std.specs.Io.KnownBytes.{Appends}
use Rattle.base64ct.specs.declared.line_ending.LineEnding.TheVariants.{LF}
use Rattle.der_small.specs.Bits.{PlainBits}
use Rattle.spiffe_id.specs.SpiffeId.{Id, id_text}
use Rattle.spki.specs.PlainAlgorithm.{PlainAlgorithm}
use Rattle.spki.specs.PlainPublicKey.{PlainPublicKey}
use Rattle.pkcs8.specs.PlainPrivateKey.{PlainPrivateKey}
use Rattle.identity_io.specs.Causes.{Rose}
use Rattle.identity_io.specs.Whole.{AppendsPrefix}
use Rattle.identity_update.specs.Canonical.{update_der}
use Rattle.identity_update.specs.Parts.{Bundle, Entry, UpdateParts}
use Rattle.identity_update.specs.Text.{update_text}
use Rattle.command_line.specs.declared.status.Status.{Status}
use Rattle.command_line.specs.declared.status.Status.TheVariants.{Done, SinkFailed, OutOfMemory}

-- the content of 1.3.101.112, the algorithm Ed25519, which has no parameters (RFC 8410, section 3)
abbrev pub ed25519_oid : List ℕ
ed25519_oid = 43 ∷ 101 ∷ 112 ∷ []

abbrev pub ed25519 : PlainAlgorithm
ed25519 = record { oid = ed25519_oid; parameters = None }

abbrev pub made_domain : List ℕ
made_domain = codes "example.org"

abbrev pub made_id : ℕ → Id
made_id n = record { trust_domain = made_domain; path = codes "/w/" ++ decimal n }

-- the number in four bytes, the high one first, eight times
abbrev pub made_key : ℕ → PlainBits
made_key n = record { unused_bits = 0; octets = repeat 8 (to_be_bytes w32 n) }

abbrev pub key_of : PlainBits → PlainPublicKey
key_of key = record { algorithm = ed25519; key = key }

-- an octet string of 32 equal bytes, which is the content of an Ed25519 private key (RFC 8410, section 7)
abbrev pub made_octets : ℕ → List ℕ
made_octets n = 4 ∷ 32 ∷ repeat 32 (n % 251 ∷ [])

-- the private key of an odd number holds its public key
abbrev pub held_key : ℕ → Option PlainBits
held_key n = if n % 2 == 1 then Some (made_key n) else None

abbrev pub private_key_of : List ℕ → Option PlainBits → PlainPrivateKey
private_key_of octets held = record { algorithm = ed25519; private_key = octets; attributes = None; public_key = held }

abbrev pub made_entry : ℕ → Entry
made_entry n = record { id = made_id n; private_key = private_key_of (made_octets n) (held_key n); public_key = key_of (made_key n) }

-- the entries of the numbers below n, in ascending order
abbrev pub made_entries : ℕ → List Entry
made_entries zero = []
made_entries (suc n) = made_entries n ++ made_entry n ∷ []

abbrev pub made_bundle : Bundle
made_bundle = record { trust_domain = made_domain; jwks = codes "{\"keys\":[{\"kid\":\"k0\"}]}" }

abbrev pub made_update : ℕ → UpdateParts
made_update n = record { entries = made_entries n; bundles = made_bundle ∷ []; reason = None }

-- how many entries, how many bytes the document and the text have, and what is said of the last entry
abbrev pub lines_of : ℕ → ℕ → ℕ → List ℕ → List ℕ
lines_of entries document text last = codes "entries " ++ (decimal entries ++ (codes "\ndocument " ++ (decimal document
    ++ (codes "\ntext " ++ (decimal text ++ (codes "\n" ++ last))))))

-- the line of an id
abbrev pub id_line : Id → List ℕ
id_line id = codes "last " ++ (id_text id ++ codes "\n")

-- the line of the last entry's id
abbrev pub last_line : List Entry → List ℕ
last_line [] = []
last_line (e ∷ []) = id_line e.id
last_line (e ∷ f ∷ es) = last_line (f ∷ es)

-- the lines of an update whose text has so many bytes
abbrev pub update_lines : UpdateParts → ℕ → List ℕ
update_lines u text = lines_of (length u.entries) (length (update_der u)) text (last_line u.entries)

-- the lines of the update of n entries, whose text is in lines of 64 characters with a line feed between two
abbrev pub made_lines : ℕ → List ℕ
made_lines n = lines_of n (length (update_der (made_update n))) (length (update_text 64 LF (made_update n))) (id_line (made_id (n - 1)))

-- what `make` has done to a sink that had this written and so many faults, by its status
abbrev pub Makes : ℕ → Option (List ℕ) → ℕ → Option (List ℕ) → ℕ → Status → Type 0
Makes n written faults written' faults' Done = Appends written written' (made_lines n)
Makes n written faults written' faults' SinkFailed = Rose faults faults' × AppendsPrefix written written' (made_lines n)
Makes n written faults written' faults' OutOfMemory = Unit {0}
Makes n written faults written' faults' _ = ⊥

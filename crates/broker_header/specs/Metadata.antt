-- Metadata: a map from keys to values, as the list of its entries in ascending order of the keys' bytes.
use Rattle.std.specs.Prelude.{◌≡◌, ◌⊎◌, ℕ, ◌||◌, ◌&&◌, ◌==◌, nat_le, nat_lt, List, length, map, Bool, Result, Ok, Err, IsOk, Option, String, string_bytes}
use Rattle.std.specs.Prelude.{if◌then◌else◌}
use Rattle.std.specs.declared.alloc.Global.{Global}
use Rattle.std.specs.List.{list_all}
use Rattle.std.specs.Ordering.{nat_cmp}
use Rattle.std.specs.Cmp.Lexicographic.{slice_cmp}
use Rattle.std.specs.Map.{lookup, remove_entry}
use Rattle.std.specs.BTreeMap.{insert_entry, is_at}
use Rattle.broker_header.specs.declared.error.MetadataError.{MetadataError}
use Rattle.broker_header.specs.declared.error.MetadataError.TheVariants.{InvalidKey, InvalidValue, OutOfMemory}

abbrev pub Entries : Type 0
Entries = List (List ℕ × List ℕ)

-- the map with the value at the key, in place of what was there
abbrev pub with_entry : Entries → List ℕ → List ℕ → Entries
with_entry es key value = insert_entry (slice_cmp nat_cmp) es key value

-- the map without the key
abbrev pub without_entry : List ℕ → Entries → Entries
without_entry key es = remove_entry (is_at (slice_cmp nat_cmp key)) es

abbrev pub find_entry : List ℕ → Entries → Option (List ℕ)
find_entry key es = lookup (is_at (slice_cmp nat_cmp key)) es

-- a character of a key: `a` to `z`, `0` to `9`, `.`, `-` or `_`
abbrev pub is_key_byte : ℕ → Bool
is_key_byte b = nat_le 97 b && nat_le b 122 || nat_le 48 b && nat_le b 57 || b == 46 || b == 45 || b == 95

-- a character of a value: a printable one of ASCII, or a space
abbrev pub is_value_byte : ℕ → Bool
is_value_byte b = nat_le 32 b && nat_le b 126

-- the first rule that a key and a value break
abbrev pub entry_check : List ℕ → List ℕ → Result (Unit {0}) MetadataError
entry_check key value =
    if nat_lt 0 (length key) && list_all is_key_byte key then (if list_all is_value_byte value then Ok tt else Err InvalidValue) else Err InvalidKey

-- the error is the rule that `expected` names, or want of memory where every rule holds
abbrev pub IsRefusal : {T : Type 0} → Result T MetadataError → MetadataError → Type 0
IsRefusal expected e = (expected ≡ Err e) ⊎ ((e ≡ OutOfMemory) × IsOk expected)

-- the entries of a stored map
abbrev pub stored_entries : List (String Global × String Global) → Entries
stored_entries es = map (λ e. (string_bytes e.0, string_bytes e.1)) es

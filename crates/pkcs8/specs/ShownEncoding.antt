-- What the values that are shown in place of the parameters and of the public key show.
use Rattle.std.specs.Prelude.{◌≡◌, ℕ, ◌<◌, ◌≤◌, Bool, true, false, if◌then◌else◌, List, length, Option, Some, codes}
use Rattle.pkcs8.specs.PlainPrivateKey.{bits_content}
use Rattle.pkcs8.specs.Shown.{bits_debug, bytes_debug}
use Rattle.pkcs8.specs.declared.shown.ShownBits.{ShownBits}
use Rattle.pkcs8.specs.declared.shown.ShownEncoding.{ShownEncoding}
use Rattle.der_small.specs.BitString.{plain_bits_ref}

abbrev pub ShowsFirst : Bool → List ℕ → List ℕ → Type 0
ShowsFirst true kept bytes = 128 < length bytes
ShowsFirst false kept bytes = (kept ≡ bytes) × (length bytes ≤ 128)

-- It was told these bytes.
abbrev pub ShowsBytes : ShownEncoding → List ℕ → Type 0
ShowsBytes w bytes = ShowsFirst w.is_long w.kept.items bytes

abbrev pub shown_debug : ShownEncoding → Option (List ℕ)
shown_debug w = if w.is_long then Some (codes "..") else bytes_debug w.kept.items

abbrev pub shown_bits_debug : ShownBits → Option (List ℕ)
shown_bits_debug w = bits_debug (bits_content (plain_bits_ref w.bits))

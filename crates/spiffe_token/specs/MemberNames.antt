-- A member's name: a string with JSON's escapes (RFC 8259, section 7) resolved.
use Rattle.std.specs.Prelude.{ℕ, zero, suc, ◌+◌, ◌-◌, ◌*◌, ◌||◌, ◌&&◌, ◌==◌, nat_lt, nat_le, List, [], ◌∷◌, ◌++◌, Bool, Option, Some, None, option_map}
use Rattle.std.specs.Prelude.{option_and_then, if◌then◌else◌, encode_utf8}
use Rattle.std.specs.Char.{digit_value}
use Rattle.spiffe_token.specs.Strings.{strip}

abbrev pub hex : ℕ → Option ℕ
hex b = if nat_lt (digit_value b) 16 then Some (digit_value b) else None

abbrev pub hex_more : ℕ → ℕ → Option ℕ
hex_more high b = option_map (λ d. high * 16 + d) (hex b)

-- the number that four hexadecimal digits spell, and what follows them
abbrev pub hex4 : List ℕ → Option (ℕ × List ℕ)
hex4 (a ∷ b ∷ c ∷ d ∷ rest) = option_map (λ n. (n, rest)) (option_and_then (λ h. hex_more h d)
    (option_and_then (λ h. hex_more h c) (option_and_then (λ h. hex_more h b) (hex a))))
hex4 _ = None

abbrev pub is_high : ℕ → Bool
is_high u = nat_le 0xd800 u && nat_lt u 0xdc00

abbrev pub is_low : ℕ → Bool
is_low u = nat_le 0xdc00 u && nat_lt u 0xe000

abbrev pub after_low : ℕ → ℕ × List ℕ → Option (ℕ × List ℕ)
after_low high p = if is_low p.0 then Some (0x10000 + (high - 0xd800) * 1024 + (p.0 - 0xdc00), p.1) else None

-- the character of two surrogates, of which the first stands before these bytes
abbrev pub low_half : ℕ → List ℕ → Option (ℕ × List ℕ)
low_half high bs = option_and_then (λ r. option_and_then (λ q. option_and_then (after_low high) (hex4 q)) (strip 117 r)) (strip 92 bs)

abbrev pub after_unit : ℕ × List ℕ → Option (ℕ × List ℕ)
after_unit p = if is_high p.0 then low_half p.0 p.1 else (if is_low p.0 then None else Some p)

-- the character behind `\u`; a lone surrogate is none
abbrev pub unicode : List ℕ → Option (ℕ × List ℕ)
unicode bs = option_and_then after_unit (hex4 bs)

-- what a backslash and the byte stand for, other than `\u`
abbrev pub short : ℕ → Option ℕ
short b =
    if b == 34 || b == 92 || b == 47 then Some b else (if b == 98 then Some 8 else (if b == 102 then Some 12
    else (if b == 110 then Some 10 else (if b == 114 then Some 13 else (if b == 116 then Some 9 else None)))))

abbrev pub escape : List ℕ → Option (ℕ × List ℕ)
escape [] = None
escape (b ∷ bs) = if b == 117 then unicode bs else option_map (λ c. (c, bs)) (short b)

-- the bytes that the first byte or escape stands for, and what follows it
abbrev pub unit : List ℕ → Option (List ℕ × List ℕ)
unit [] = None
unit (b ∷ bs) = if b == 92 then option_map (λ p. (encode_utf8 p.0, p.1)) (escape bs) else Some (b ∷ [], bs)

-- the whole name; the number bounds its bytes and escapes, for which its length is enough
unfoldable pub resolve : ℕ → List ℕ → Option (List ℕ)
resolve n [] = Some []
resolve zero (b ∷ bs) = None
resolve (suc n) (b ∷ bs) = option_and_then (λ p. option_map (λ r. p.0 ++ r) (resolve n p.1)) (unit (b ∷ bs))

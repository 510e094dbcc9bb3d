-- Blanks and strings of JSON (RFC 8259, sections 2 and 7), as places in a text.
use Rattle.std.specs.Prelude.{ℕ, suc, ◌||◌, ◌&&◌, ◌==◌, List, [], ◌∷◌, take, drop, Bool, false, Option, Some, None, option_map, if◌then◌else◌}
use Rattle.spiffe_token.specs.declared.value.Place.{Place}
use Rattle.spiffe_token.specs.declared.value.Place.TheVariants.{Outside, Quoted, Escaped}

abbrev pub is_blank : ℕ → Bool
is_blank b = b == 32 || b == 9 || b == 10 || b == 13

-- what is left behind the blanks at the front
abbrev pub skip_blanks : List ℕ → List ℕ
skip_blanks [] = []
skip_blanks (b ∷ bs) = if is_blank b then skip_blanks bs else b ∷ bs

-- how many bytes there are up to the last that is no blank
abbrev pub kept_len : List ℕ → ℕ
kept_len [] = 0
kept_len (b ∷ bs) = if is_blank b && (kept_len bs == 0) then 0 else suc (kept_len bs)

-- what follows the byte, where it stands first
abbrev pub strip : ℕ → List ℕ → Option (List ℕ)
strip b [] = None
strip b (x ∷ xs) = if x == b then Some xs else None

-- where the next byte stands: a string ends at the first quote that no backslash escapes
abbrev pub place_after : Place → ℕ → Place
place_after Outside b = if b == 34 then Quoted else Outside
place_after Quoted b = if b == 34 then Outside else (if b == 92 then Escaped else Quoted)
place_after Escaped b = Quoted

abbrev pub ends_string : Place → ℕ → Bool
ends_string Quoted b = b == 34
ends_string Outside b = false
ends_string Escaped b = false

abbrev pub one_more : Option ℕ → Option ℕ
one_more o = option_map suc o

-- how many bytes stand before the quote that ends a string
abbrev pub string_from : Place → List ℕ → Option ℕ
string_from p [] = None
string_from p (b ∷ bs) = if ends_string p b then Some 0 else one_more (string_from (place_after p b) bs)

-- the bytes up to that quote, and what follows it
abbrev pub string_part : List ℕ → Option (List ℕ × List ℕ)
string_part bs = option_map (λ n. (take n bs, drop 1 (drop n bs))) (string_from Quoted bs)

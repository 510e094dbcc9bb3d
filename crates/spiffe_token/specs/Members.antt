-- The members of the one object that a text is, with their names' escapes resolved.
use Rattle.std.specs.Prelude.{ℕ, List, [], ◌∷◌, length, Option, Some, None, option_map, option_and_then, if◌then◌else◌, string_bytes}
use Rattle.std.specs.Str.{is_utf8}
use Rattle.spiffe_token.specs.declared.members.Member as program
use Rattle.spiffe_token.specs.RawMembers.{Raw, raw_members}
use Rattle.spiffe_token.specs.MemberNames.{resolve}

-- a member: its name, and the places in the text where its value begins and ends
pub record Member : Type 0 where
  pub name : List ℕ
  pub start : ℕ
  pub «end» : ℕ

abbrev pub text_of : List ℕ → Option (List ℕ)
text_of bytes = if is_utf8 bytes then Some bytes else None

abbrev pub with_name : Raw → List ℕ → Option Member
with_name raw bytes = option_map (λ name. record { name = name; start = raw.start; «end» = raw.end }) (text_of bytes)

abbrev pub named : Raw → Option Member
named raw = option_and_then (with_name raw) (resolve (length raw.name) raw.name)

abbrev pub all_named : List Raw → Option (List Member)
all_named [] = Some []
all_named (raw ∷ raws) = option_and_then (λ m. option_map (λ ms. m ∷ ms) (all_named raws)) (named raw)

-- the members in the order of the text, or none where it isn't such an object
unfoldable pub members_of : List ℕ → Option (List Member)
members_of text = option_and_then all_named (raw_members text)

-- a member as the program has it
abbrev pub member_of : program.Member → Member
member_of m = record { name = string_bytes m.name; start = m.start; «end» = m.end }

use Rattle.std.proofs.Common.{◌≡◌, ℕ, List, Some, true≢false, sym, Bool, true, false, String, Global, string_bytes, IsUtf8, refl, subst, ap}
use Rattle.std.specs.Str.{is_utf8}
use Rattle.std.proofs.lemmas.Str.{is_utf8-from_IsUtf8, IsUtf8-from_is_utf8, IsUtf8-string_bytes}
use Rattle.spiffe_token.proofs.members.text_of.Goals as goal

text_yes : (t : String Global) (bs : List ℕ) → string_bytes t ≡ bs → is_utf8 bs ≡ true
text_yes t bs e = is_utf8-from_IsUtf8 bs (subst IsUtf8 e (IsUtf8-string_bytes t))

unless : (b : Bool) → (b ≡ true → ⊥) → b ≡ false
unless true h = absurd (h refl)
unless false h = refl

text_no : (bs : List ℕ) → (IsUtf8 bs → ⊥) → is_utf8 bs ≡ false
text_no bs h = unless (is_utf8 bs) (λ e. h (IsUtf8-from_is_utf8 bs e))

pub returns-in-Ok : goal.returns-in-Ok
returns-in-Ok c =
    let e : string_bytes c.in-Ok.text ≡ c.args.bytes.items = ap (λ v. v.items) c.in-Ok.ensures.ok in
    rw (text_yes c.in-Ok.text c.args.bytes.items e) (ap Some e)

pub returns : goal.returns
returns c = rw (text_no c.args.bytes.items (λ u. true≢false (sym (c.in-Err.ensures.succeeds u))))

-- The text of an update: how long it is, and that it writes the update.
use Rattle.std.proofs.Common.{◌≡◌, ℕ, ◌+◌, ◌-◌, ◌*◌, ◌/◌, ◌<◌, ◌≤◌, ◌^◌, true, List, length, sym, ap, subst, ◌∙◌, arith, nat_lt, Bool, if◌then◌else◌, Result}
use Rattle.std.proofs.Common.{Ok, Err, IfOk}
use Rattle.std.proofs.lemmas.Bool.Decides.{nat_tests}
use Rattle.std.proofs.lemmas.List.{length-take-le}
use Rattle.std.proofs.lemmas.Nat.{div-add-mod', le-div, mul-le}
use Rattle.std.specs.Global.{Global}
use Rattle.std.specs.Prelude.{String, string_bytes}
use Rattle.base64_alphabet.specs.Encoding.{encoding_of}
use Rattle.base64_alphabet.specs.Group.{High}
use Rattle.base64_alphabet.specs.Standard.{standard, standard_padded}
use Rattle.base64ct.specs.Canonical.{IsBytes}
use Rattle.base64ct.specs.Encoder.{whole_groups}
use Rattle.base64ct.specs.Lines.{IsWrappedText}
use Rattle.base64ct.specs.Wrapping.{ending_bytes, line_count, wrapped, wrapped_len}
use Rattle.base64_text.specs.declared.errors.Error.{Error}
use Rattle.base64ct.specs.declared.line_ending.LineEnding.{LineEnding}
use Rattle.base64ct.specs.declared.line_ending.LineEnding.TheVariants.{CR, CRLF, LF}
use Rattle.base64_text.proofs.EncodingLemmas.{encoding_some, length-encoding_of}
use Rattle.base64ct.proofs.WrappingLemmas.{ending_count, length-wrapped}
use Rattle.der_core.specs.Laws.{length_encode}
use Rattle.update_document.specs.Spelling.{document_content}
use Rattle.update_document.specs.Written.{ReadsUpdate}
use Rattle.identity_update.specs.Canonical.{canonical, update_der}
use Rattle.identity_update.specs.Parts.{UpdateParts}
use Rattle.identity_update.specs.Reading.{HasLength, Writes, WritesBytes}
use Rattle.identity_update.specs.Text.{text_of, update_text}
use Rattle.identity_update.specs.Verdict.{verdict}
use Rattle.identity_update.proofs.ReadingLaws.{WritesOne}

div_mono : (a b w : ℕ) → 0 < w → a ≤ b → a / w ≤ b / w
div_mono a b w low le = let whole = div-add-mod' a w in le-div (a / w) b w low (omega arith)

div_small : (n w : ℕ) → 0 < w → n / w ≤ n
div_small n w low =
    let same : n / w ≤ n / w = omega arith in
    let one : 1 ≤ w = omega arith in
    let product = mul-le (n / w) 1 (n / w) w same one in
    let whole = div-add-mod' n w in
    omega arith

ending_short : (ending : LineEnding) → length (ending_bytes ending) ≤ 2
ending_short CR = omega arith
ending_short LF = omega arith
ending_short CRLF = omega arith

pub wrapped_len_mono : (w : ℕ) (ending : LineEnding) (m n : ℕ) → 0 < w → m ≤ n → wrapped_len w ending m ≤ wrapped_len w ending n
wrapped_len_mono w ending m n low le =
    let k : ℕ = length (ending_bytes ending) in
    let first = ending_count w m low in
    let second = ending_count w n low in
    let fewer = div_mono (m - 1) (n - 1) w low (omega arith) in
    let lines : line_count w m - 1 ≤ line_count w n - 1 = omega (arith, first, second, fewer) in
    let same : k ≤ k = omega arith in
    let endings = mul-le (line_count w m - 1) k (line_count w n - 1) k lines same in
    omega (arith, endings, le)

pub wrapped_len_short : (w : ℕ) (ending : LineEnding) (n : ℕ) → 0 < w → wrapped_len w ending n ≤ n + n * 2
wrapped_len_short w ending n low =
    let count = ending_count w n low in
    let small = div_small (n - 1) w low in
    let lines : line_count w n - 1 ≤ n = omega (arith, count, small) in
    let endings = mul-le (line_count w n - 1) (length (ending_bytes ending)) n 2 lines (ending_short ending) in
    omega (arith, endings)

-- the text of the whole groups is no longer than the whole text
pub groups_fit : (w : ℕ) (ending : LineEnding) (b : List ℕ) (n : ℕ) → 0 < w → n ≡ length (encoding_of standard_padded b)
    → length (text_of w ending (whole_groups b)) ≤ wrapped_len w ending n
groups_fit w ending b n low is =
    let groups : List ℕ = whole_groups b in
    let len = length-wrapped w ending (encoding_of standard_padded groups) low in
    let part = length-encoding_of High standard groups true in
    let all = length-encoding_of High standard b true in
    let fewer = length-take-le (3 * (length b / 3)) b (omega arith) in
    let le : length (encoding_of standard_padded groups) ≤ length (encoding_of standard_padded b) = omega (arith, part, all, fewer) in
    let more = wrapped_len_mono w ending (length (encoding_of standard_padded groups)) n low (omega (arith, le, is)) in
    omega (arith, len, more)

pub encoding_short : (b : List ℕ) → length b < 2 ^ 32 → length (encoding_of standard_padded b) < 2 ^ 33
encoding_short b small = let all = length-encoding_of High standard b true in omega (arith, all, small)

pub characters_are : (b : List ℕ) (n : ℕ) → length b < 2 ^ 32
    → n ≡ (if nat_lt (4 * length b) (2 ^ 64) then length (encoding_of standard_padded b) else 0) → n ≡ length (encoding_of standard_padded b)
characters_are b n small is =
    let test : nat_lt (4 * length b) (2 ^ 64) ≡ true = grind (arith, nat_tests) in
    is ∙ ap (λ (t : Bool). if t then length (encoding_of standard_padded b) else 0) test

pub room_fits : (w : ℕ) (ending : LineEnding) (b : List ℕ) (n : ℕ) → 0 < w → length b < 2 ^ 32 → n ≡ length (encoding_of standard_padded b)
    → wrapped_len w ending n < 2 ^ 64
room_fits w ending b n low small is =
    let short = wrapped_len_short w ending n low in
    let characters = encoding_short b small in
    omega arith

pub room_some : (w : ℕ) (ending : LineEnding) (b : List ℕ) (n : ℕ) → n ≡ length (encoding_of standard_padded b) → 0 < length b → 0 < wrapped_len w ending n
room_some w ending b n is some =
    let characters = encoding_some High standard true b some in
    let first : n ≤ wrapped_len w ending n = omega arith in
    omega (arith, characters, is, first)

pub text_len : (w : ℕ) (ending : LineEnding) (b : List ℕ) → 0 < w
    → length (text_of w ending b) ≡ wrapped_len w ending (length (encoding_of standard_padded b))
text_len w ending b low = length-wrapped w ending (encoding_of standard_padded b) low

pub text_some : (w : ℕ) (ending : LineEnding) (b : List ℕ) → 0 < w → 0 < length b → 0 < length (text_of w ending b)
text_some w ending b low some =
    let len = text_len w ending b low in
    let chars = encoding_some High standard true b some in
    omega arith

pub document_some : (u : UpdateParts) → 0 < length (update_der u)
document_some u = let len = length_encode 48 (document_content (canonical u)) in omega arith

abbrev pub ReadsBack : Type 0
ReadsBack = (width : ℕ) (ending : LineEnding) (b : List ℕ) → 0 < width → 0 < length b → IsBytes b
    → IsWrappedText standard_padded width (wrapped width ending (encoding_of standard_padded b)) b

-- the text of bytes writes these bytes
pub text_writes : (width : ℕ) (ending : LineEnding) (bytes text : List ℕ) → ReadsBack → 4 ≤ width → 0 < length bytes → IsBytes bytes
    → text ≡ text_of width ending bytes → HasLength width text × WritesBytes width text bytes
text_writes width ending bytes text back wide some are is =
    let low : 0 < width = omega arith in (
      (wide, subst (λ (t : List ℕ). 0 < length t) (sym is) (text_some width ending bytes low some)),
      subst (λ (t : List ℕ). WritesBytes width t bytes) (sym is) (back width ending bytes low some are),
    )

-- the text of an update's document writes the update
pub update_writes : (width : ℕ) (u : UpdateParts) (document : List ℕ) (result : Result (String Global) Error)
    → IfOk result (λ text. HasLength width (string_bytes text) × WritesBytes width (string_bytes text) document) → ReadsUpdate document (canonical u)
    → verdict (canonical u) ≡ Ok u → IfOk result (λ text. Writes width (string_bytes text) u)
update_writes width u document (Ok text) h reads lawful = record
    { written = canonical u; document = record { has = h.0; bytes = document; are = h.1; document = reads }; lawful = lawful }
update_writes width u document (Err e) h reads lawful = tt

-- equal texts are those of one document
pub same_documents : (width : ℕ) (ending : LineEnding) (a b : UpdateParts) (first second : List ℕ) → WritesOne → ReadsBack → 4 ≤ width → IsBytes first
    → IsBytes second → first ≡ update_der a → second ≡ update_der b → update_text width ending a ≡ update_text width ending b → update_der a ≡ update_der b
same_documents width ending a b first second one back wide x y is_a is_b same =
    let low : 0 < width = omega arith in
    let bytes_a : IsBytes (update_der a) = subst IsBytes is_a x in
    let bytes_b : IsBytes (update_der b) = subst IsBytes is_b y in
    let writes_a = back width ending (update_der a) low (document_some a) bytes_a in
    let writes_b = back width ending (update_der b) low (document_some b) bytes_b in
    one width (update_text width ending b) (update_der a) (update_der b) low
    (subst (λ (t : List ℕ). IsWrappedText standard_padded width t (update_der a)) same writes_a) writes_b

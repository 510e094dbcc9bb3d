-- What an encoder holds before and after it writes.
use Rattle.std.proofs.Common.{◌≡◌, ℕ, zero, suc, All, IsAscii, ◌+◌, ◌-◌, ◌*◌, ◌/◌, ◌%◌, ◌<◌, ◌≤◌, Bool, List, [], ◌∷◌, ◌++◌, length, take, drop, get_or, arith}
use Rattle.std.proofs.Common.{refl, ap, sym, ◌∙◌, append_assoc, length-append, length-drop, subst, Option, Some, None}
use Rattle.std.proofs.lemmas.List.{drop-drop, drop_at, length-take-le, take-append-drop, take-append-le, take-take, take_all, take_at}
use Rattle.std.proofs.lemmas.List.Elements.{All-append, All-cons, All-head, All-nil, All-tail, All-take}
use Rattle.std.proofs.lemmas.Grind.{get_or_default_zero}
use Rattle.std.proofs.lemmas.Slice.{drop-put_mid, take-put_mid}
use borrow.Rule.Slice.PartMut.{put_mid}
use Rattle.base64_alphabet.proofs.Forms.{form}
use Rattle.base64_alphabet.specs.Encoding.{bytes_of_blocks, characters, encoding_of}
use Rattle.base64_alphabet.specs.Group.{End}
use Rattle.base64_alphabet.proofs.TableLemmas.{Facts}
use Rattle.base64_text.specs.Canonical.{IsBytes}
use Rattle.base64_text.specs.Counts.{encoded_len}
use Rattle.base64ct.specs.Encoder.{Progress, in_lines, in_lines_len, whole_groups}
use Rattle.base64ct.specs.LineWrapper.{HasLines, IsWide, advanced, in_lines_from, left_from, lines_of, wrapped_from}
use Rattle.base64ct.specs.Lines.{IsLine}
use Rattle.base64ct.specs.Written.{IsWritten, bytes_written, taken_of}
use Rattle.base64ct.specs.Wrapping.{ending_bytes}
use Rattle.base64ct.specs.declared.line_ending.LineEnding.{LineEnding}
use Rattle.base64ct.specs.declared.line_ending.LineEnding.TheVariants.{CR, LF, CRLF}
use Rattle.base64ct.specs.declared.wrapping.LineWrapper.{LineWrapper}
use Rattle.base64ct.proofs.DecoderLemmas.{encoding_line}
use Rattle.base64ct.proofs.EncoderLemmas.{whole_encoding, whole_len}
use Rattle.base64_text.proofs.EncodingLemmas.{ascii_from_all, encoding_all_ascii, len_split, length-encoding_of}
use Rattle.base64_text.proofs.Texts.{bytes_of_blocks_characters, characters-append}
use Rattle.base64_text.proofs.WholeLemmas.{encoding_of-append, length-characters}
use Rattle.base64ct.proofs.WrappingLemmas.{joined-wrapped, left_from-append, length-wrapped, length-wrapped_from, wrapped-empty, wrapped-walk}
use Rattle.base64ct.proofs.WrappingLemmas.{wrapped_from-append}

-- ---- a text in an encoder's lines

pub length-in_lines : (wrapper : Option LineWrapper) (s t : List ℕ) → HasLines wrapper s
    → length (in_lines (lines_of wrapper) t) ≡ in_lines_len (lines_of wrapper) (length t)
length-in_lines None s t h = refl
length-in_lines (Some l) s t h = length-wrapped l.width l.ending t (let w = h.0 in omega arith)

pub in_lines-append : (wrapper : Option LineWrapper) (t u : List ℕ) → HasLines wrapper t
    → in_lines (lines_of wrapper) (t ++ u) ≡ in_lines (lines_of wrapper) t ++ in_lines_from wrapper u
in_lines-append None t u h = refl
in_lines-append (Some l) t u h =
    let low : 0 < l.width = (let w = h.0 in omega arith) in
    wrapped-walk l.width l.ending (t ++ u) low ∙ wrapped_from-append l.width (ending_bytes l.ending) l.width t u
    ∙ ap (λ n. wrapped_from l.width (ending_bytes l.ending) l.width t ++ wrapped_from l.width (ending_bytes l.ending) n u) (sym h.1)
    ∙ ap (λ xs. xs ++ wrapped_from l.width (ending_bytes l.ending) l.left u) (sym (wrapped-walk l.width l.ending t low))

pub advanced-lines : (wrapper : Option LineWrapper) (t u : List ℕ) → HasLines wrapper t → HasLines (advanced wrapper u) (t ++ u)
advanced-lines None t u h = h
advanced-lines (Some l) t u h = (h.0, ap (λ n. left_from l.width n u) h.1 ∙ sym (left_from-append l.width l.width t u))

pub advanced-same : (wrapper : Option LineWrapper) (u : List ℕ) → lines_of (advanced wrapper u) ≡ lines_of wrapper
advanced-same None u = refl
advanced-same (Some l) u = refl

pub length-in_lines_from : (wrapper : Option LineWrapper) (u : List ℕ) → length u ≤ length (in_lines_from wrapper u)
length-in_lines_from None u = omega arith
length-in_lines_from (Some l) u = length-wrapped_from l.width (ending_bytes l.ending) l.left u

pub wide : (wrapper : Option LineWrapper) (t : List ℕ) → HasLines wrapper t → IsWide wrapper
wide None t h = h
wide (Some l) t h = let w = h.0 in omega arith

-- the bytes of the characters of whole groups in lines
pub bytes_back : (end : End) (table : List ℕ) (padded : Bool) (wrapper : Option LineWrapper) (s b : List ℕ) → Facts table → HasLines wrapper s → IsBytes b
    → length b % 3 ≡ 0
    → bytes_written end table wrapper (in_lines (lines_of wrapper) (characters end table b)) ≡ b
bytes_back end table padded None s b f h bytes whole = (bytes_of_blocks_characters end table b f bytes whole).1
bytes_back end table padded (Some l) s b f h bytes whole =
    let line : IsLine (characters end table b) = subst IsLine (whole_encoding end table padded b whole) (encoding_line end table padded b f bytes) in
    ap (bytes_of_blocks end table) (joined-wrapped l.width l.ending (characters end table b) (let w = h.0 in omega arith) line)
    ∙ (bytes_of_blocks_characters end table b f bytes whole).1

-- ---- at the start

no_bytes : (end : End) (table output : List ℕ) (wrapper : Option LineWrapper) → bytes_written end table wrapper (take 0 output) ≡ []
unfolding bytes_of_blocks
no_bytes end table output None = refl
no_bytes end table output (Some l) = refl

no_text : (end : End) (table : List ℕ) (wrapper : Option LineWrapper) → HasLines wrapper [] → [] ≡ in_lines (lines_of wrapper) (characters end table [])
unfolding characters
no_text end table None h = refl
no_text end table (Some l) h = sym (wrapped-empty l.width l.ending (let w = h.0 in omega arith))

no_lines : (end : End) (table : List ℕ) (wrapper : Option LineWrapper) → HasLines wrapper [] → HasLines wrapper (characters end table [])
unfolding characters
no_lines end table wrapper h = h

pub start_written : (end : End) (table output : List ℕ) (wrapper : Option LineWrapper) → HasLines wrapper [] → IsWritten end table wrapper output 0 0
start_written end table output wrapper h =
    let none = no_bytes end table output wrapper in
    record {
      within = omega arith;
      bytes = rw none (λ k d lt. absurd (omega arith));
      groups = rw none refl;
      text = rw none (no_text end table wrapper h);
      lines = rw none (no_lines end table wrapper h);
    }

pub start_taken : (end : End) (table output block : List ℕ) (wrapper : Option LineWrapper) → taken_of end table wrapper output 0 0 block ≡ []
start_taken end table output block wrapper = ap (λ xs. xs ++ []) (no_bytes end table output wrapper)

-- ---- what was written

characters_len : (end : End) (table output : List ℕ) (wrapper : Option LineWrapper) (filled count : ℕ) → IsWritten end table wrapper output filled count
    → length (characters end table (bytes_written end table wrapper (take filled output))) ≡ 4 * (count / 3)
characters_len end table output wrapper filled count i =
    let g = i.groups in
    length-characters end table (bytes_written end table wrapper (take filled output)) (omega arith) ∙ rw g (omega arith)

filled_len : (end : End) (table output : List ℕ) (wrapper : Option LineWrapper) (filled count : ℕ) → IsWritten end table wrapper output filled count
    → filled ≡ in_lines_len (lines_of wrapper) (4 * (count / 3))
filled_len end table output wrapper filled count i =
    sym (length-take-le filled output i.within) ∙ ap length i.text
    ∙ length-in_lines wrapper (characters end table (bytes_written end table wrapper (take filled output)))
    (characters end table (bytes_written end table wrapper (take filled output))) i.lines
    ∙ ap (in_lines_len (lines_of wrapper)) (characters_len end table output wrapper filled count i)

no_shorter : (wrapper : Option LineWrapper) (n : ℕ) → n ≤ in_lines_len (lines_of wrapper) n
no_shorter None n = omega arith
no_shorter (Some l) n = omega arith

pub count_low : (end : End) (table output : List ℕ) (wrapper : Option LineWrapper) (filled count : ℕ) → IsWritten end table wrapper output filled count
    → 4 * (count / 3) ≤ length output
count_low end table output wrapper filled count i =
    let n = no_shorter wrapper (4 * (count / 3)) in
    let e = filled_len end table output wrapper filled count i in
    let w = i.within in omega arith

-- a further text ends where its length tells
room_for : (wrapper : Option LineWrapper) (t u : List ℕ) (at e : ℕ) → HasLines wrapper t → at ≡ in_lines_len (lines_of wrapper) (length t)
    → e ≡ in_lines_len (lines_of wrapper) (length t + length u)
    → at + length (in_lines_from wrapper u) ≡ e
room_for wrapper t u at e h at_is e_is =
    let whole = ap length (in_lines-append wrapper t u h) in
    let parts = length-append (in_lines (lines_of wrapper) t) (in_lines_from wrapper u) in
    let one = length-in_lines wrapper t t h in
    let both = length-in_lines wrapper t (t ++ u) h ∙ ap (in_lines_len (lines_of wrapper)) (length-append t u) in
    omega arith

pub room_written : (end : End) (table output u : List ℕ) (wrapper : Option LineWrapper) (filled count e : ℕ) → IsWritten end table wrapper output filled count
    → e ≡ in_lines_len (lines_of wrapper) (4 * (count / 3) + length u) → filled + length (in_lines_from wrapper u) ≡ e
room_written end table output u wrapper filled count e i e_is =
    let n = characters_len end table output wrapper filled count i in
    room_for wrapper (characters end table (bytes_written end table wrapper (take filled output))) u filled e i.lines
    (filled_len end table output wrapper filled count i ∙ ap (in_lines_len (lines_of wrapper)) (sym n))
    (e_is ∙ ap (λ k. in_lines_len (lines_of wrapper) (k + length u)) (sym n))

-- characters that were written to the end of a part of the output
pub record AtEnd (output text : List ℕ) (from e : ℕ) : Type 0 where
  pub back : drop from (take e (put_mid from (e - from) output text)) ≡ text
  pub len : length (take e (put_mid from (e - from) output text)) ≡ e
  pub front : (k : ℕ) → k ≤ from → take k (take e (put_mid from (e - from) output text)) ≡ take k output
  pub rest : length (drop e (put_mid from (e - from) output text)) ≡ length output - e
  pub kept : drop e (put_mid from (e - from) output text) ≡ drop e output

pub at_end : (output text : List ℕ) (from e : ℕ) → from ≤ e → e ≤ length output → length text ≡ e - from → AtEnd output text from e
at_end output text from e low high len =
    let is : take e (put_mid from (e - from) output text) ≡ take from output ++ text = take-put_mid from (e - from) output text e (omega arith) (omega arith) in
    let k : length (take from output) ≡ from = length-take-le from output (omega arith) in
    let a = length-append (take from output) text in
    record {
      back = ap (drop from) is ∙ drop_at (take from output) text from k;
      len = ap length is ∙ a ∙ omega arith;
      front = λ n le. ap (take n) is ∙ take-append-le n (take from output) text (omega arith) ∙ take-take n from output le;
      rest = ap length (drop-put_mid from (e - from) output text e (omega arith) (omega arith) len) ∙ length-drop e output;
      kept = drop-put_mid from (e - from) output text e (omega arith) (omega arith) len;
    }

-- ---- what a call writes

-- what an encoder is seen as
abbrev pub progress : List ℕ → ℕ → List ℕ → Option (ℕ × LineEnding) → Progress
progress taken room behind lines = record { taken = taken; room = room; behind = behind; lines = lines }

pub bytes_known : (b : List ℕ) → ((k : ℕ) → get_or b k 0 < 256) → IsBytes b
bytes_known b known = λ k d lt. rw (get_or_default_zero b k d lt) (known k)

pub bytes_append : (b c : List ℕ) → IsBytes b → IsBytes c → IsBytes (b ++ c)
bytes_append b c x y = All-append (λ k. k < 256) b c x y

pub bytes_take : (n : ℕ) (b : List ℕ) → IsBytes b → IsBytes (take n b)
bytes_take n b x = All-take (λ k. k < 256) n b x

pub record Grown (end : End) (table : List ℕ) (wrapper next : Option LineWrapper) (output new : List ℕ) (filled e count more : ℕ)
    (block kept input : List ℕ) : Type 0 where
  pub written : IsWritten end table next new e (count + more)
  pub taken : taken_of end table next new e (count + more) kept ≡ taken_of end table wrapper output filled count block ++ input
  pub lines : lines_of next ≡ lines_of wrapper

pub grown : (end : End) (table : List ℕ) (padded : Bool) (wrapper next : Option LineWrapper) (output out tail : List ℕ) (filled e count : ℕ)
    (block kept input : List ℕ)
    → Facts table → IsWritten end table wrapper output filled count → length block ≡ 3 → IsBytes (take (count % 3) block ++ input)
    → out ≡ take filled output ++ in_lines_from wrapper (characters end table (whole_groups (take (count % 3) block ++ input)))
    → next ≡ advanced wrapper (characters end table (whole_groups (take (count % 3) block ++ input))) → length out ≡ e
    → take ((count % 3 + length input) % 3) kept ≡ drop (3 * ((count % 3 + length input) / 3)) (take (count % 3) block ++ input)
    → Grown end table wrapper next output (out ++ tail) filled e count (length input) block kept input
grown end table padded wrapper next output out tail filled e count block kept input f i long bytes out_is next_is len kept_is =
    let w : List ℕ = bytes_written end table wrapper (take filled output) in
    let g : List ℕ = take (count % 3) block ++ input in
    let wait : length (take (count % 3) block) ≡ count % 3 = length-take-le (count % 3) block (omega arith) in
    let size = length-append (take (count % 3) block) input in
    let groups = i.groups in
    let part : length (whole_groups g) ≡ 3 * (length g / 3) = length-take-le (3 * (length g / 3)) g (omega arith) in
    let b : List ℕ = w ++ whole_groups g in
    let both = length-append w (whole_groups g) in
    let all_bytes : IsBytes b = bytes_append w (whole_groups g) i.bytes (bytes_take (3 * (length g / 3)) g bytes) in
    let three : length w % 3 ≡ 0 = omega arith in
    let text : characters end table b ≡ characters end table w ++ characters end table (whole_groups g) =
    characters-append end table w (whole_groups g) three in
    let same : lines_of next ≡ lines_of wrapper = ap lines_of next_is ∙ advanced-same wrapper (characters end table (whole_groups g)) in
    let lines : HasLines next (characters end table b)
    = rw (next_is, text) (advanced-lines wrapper (characters end table w) (characters end table (whole_groups g)) i.lines) in
    let is : out ≡ in_lines (lines_of next) (characters end table b)
    = out_is ∙ ap (λ xs. xs ++ in_lines_from wrapper (characters end table (whole_groups g))) i.text
    ∙ sym (in_lines-append wrapper (characters end table w) (characters end table (whole_groups g)) i.lines) ∙ ap (in_lines (lines_of wrapper)) (sym text)
    ∙ ap (λ l. in_lines l (characters end table b)) (sym same) in
    let front : take e (out ++ tail) ≡ out = take_at out tail e len in
    let back : bytes_written end table next (take e (out ++ tail)) ≡ b
    = ap (bytes_written end table next) (front ∙ is) ∙ bytes_back end table padded next (characters end table b) b f lines all_bytes (omega arith) in
    let over = length-append out tail in
    let last : take ((count + length input) % 3) kept ≡ drop (3 * (length g / 3)) g
    = (let p : (count + length input) % 3 ≡ (count % 3 + length input) % 3 = omega arith in
    let q : 3 * ((count % 3 + length input) / 3) ≡ 3 * (length g / 3) = omega arith in
    ap (λ n. take n kept) p ∙ kept_is ∙ ap (λ n. drop n g) q) in
    record {
      written = record {
        within = omega arith;
        bytes = rw back all_bytes;
        groups = rw back (omega arith);
        text = rw back (front ∙ is);
        lines = rw back lines;
      };
      taken = ap (λ xs. xs ++ take ((count + length input) % 3) kept) back ∙ ap (λ xs. b ++ xs) last
          ∙ append_assoc w (whole_groups g) (drop (3 * (length g / 3)) g)
          ∙ ap (λ xs. w ++ xs) (take-append-drop (3 * (length g / 3)) g) ∙ sym (append_assoc w (take (count % 3) block) input);
      lines = same;
    }

-- ---- lengths of texts

taken_len : (end : End) (table output block : List ℕ) (wrapper : Option LineWrapper) (filled count : ℕ) → IsWritten end table wrapper output filled count
    → length block ≡ 3
    → length (taken_of end table wrapper output filled count block) ≡ count
taken_len end table output block wrapper filled count i long =
    let g = i.groups in
    let wait : length (take (count % 3) block) ≡ count % 3 = length-take-le (count % 3) block (omega arith) in
    let a = length-append (bytes_written end table wrapper (take filled output)) (take (count % 3) block) in
    omega arith

pub groups_len : (end : End) (table : List ℕ) (padded : Bool) (output block input : List ℕ) (wrapper : Option LineWrapper) (filled count : ℕ)
    → IsWritten end table wrapper output filled count → length block ≡ 3
    → length (in_lines (lines_of wrapper) (encoding_of (form end table padded) (whole_groups (taken_of end table wrapper output filled count block ++ input))))
    ≡ in_lines_len (lines_of wrapper) (4 * ((count + length input) / 3) + 0)
groups_len end table padded output block input wrapper filled count i long =
    let b : List ℕ = taken_of end table wrapper output filled count block ++ input in
    let n : length b ≡ count + length input = length-append (taken_of end table wrapper output filled count block) input
    ∙ ap (λ k. k + length input) (taken_len end table output block wrapper filled count i long) in
    let part : length (whole_groups b) ≡ 3 * (length b / 3) = length-take-le (3 * (length b / 3)) b (omega arith) in
    let l : encoded_len padded (length (whole_groups b)) ≡ 4 * ((count + length input) / 3) + 0 = whole_len padded (length (whole_groups b)) (omega arith)
    ∙ omega arith in
    length-in_lines wrapper (characters end table (bytes_written end table wrapper (take filled output))) (encoding_of (form end table padded) (whole_groups b))
    i.lines
    ∙ ap (in_lines_len (lines_of wrapper)) (length-encoding_of end table (whole_groups b) padded ∙ l)

-- an encoder's text ends where its output is filled to
pub position_is : (end : End) (table : List ℕ) (padded : Bool) (output block : List ℕ) (wrapper : Option LineWrapper) (filled count : ℕ)
    → IsWritten end table wrapper output filled count → length block ≡ 3
    → length (in_lines (lines_of wrapper) (encoding_of (form end table padded) (whole_groups (taken_of end table wrapper output filled count block)))) ≡ filled
position_is end table padded output block wrapper filled count i long =
    let b : List ℕ = taken_of end table wrapper output filled count block in
    let n : length b ≡ count = taken_len end table output block wrapper filled count i long in
    let part : length (whole_groups b) ≡ 3 * (length b / 3) = length-take-le (3 * (length b / 3)) b (omega arith) in
    let l : encoded_len padded (length (whole_groups b)) ≡ 4 * (count / 3) = whole_len padded (length (whole_groups b)) (omega arith) ∙ omega arith in
    length-in_lines wrapper (characters end table (bytes_written end table wrapper (take filled output))) (encoding_of (form end table padded) (whole_groups b))
    i.lines
    ∙ ap (in_lines_len (lines_of wrapper)) (length-encoding_of end table (whole_groups b) padded ∙ l) ∙ sym (filled_len end table output wrapper filled count i)

-- ---- where a call writes

groups_size : (end : End) (table b : List ℕ) → length (characters end table (whole_groups b)) ≡ 4 * (length b / 3)
groups_size end table b =
    let part : length (whole_groups b) ≡ 3 * (length b / 3) = length-take-le (3 * (length b / 3)) b (omega arith) in
    length-characters end table (whole_groups b) (omega arith) ∙ rw part (omega arith)

pub block_size : (end : End) (table block input n : List ℕ) (count : ℕ) → length block ≡ 3
    → n ≡ characters end table (whole_groups (take (count % 3) block ++ input))
    → length n ≡ 4 * ((count % 3 + length input) / 3)
block_size end table block input n count long n_is =
    let wait : length (take (count % 3) block) ≡ count % 3 = length-take-le (count % 3) block (omega arith) in
    let size = length-append (take (count % 3) block) input in
    ap length n_is ∙ groups_size end table (take (count % 3) block ++ input) ∙ omega arith

pub record Place (wrapper : Option LineWrapper) (output n : List ℕ) (filled from e : ℕ) : Type 0 where
  pub at : AtEnd output n from e
  pub low : filled ≤ from
  pub room : filled + length (in_lines_from wrapper n) ≡ e

pub placed : (end : End) (table output n : List ℕ) (wrapper : Option LineWrapper) (filled count from e : ℕ)
    → IsWritten end table wrapper output filled count → e ≤ length output
    → e ≡ in_lines_len (lines_of wrapper) (4 * (count / 3) + length n) → from ≡ e - length n → Place wrapper output n filled from e
placed end table output n wrapper filled count from e i fits e_is from_is =
    let room = room_written end table output n wrapper filled count e i e_is in
    let long = length-in_lines_from wrapper n in
    record { at = at_end output n from e (omega arith) fits (omega arith); low = omega arith; room = room }

pub behind_of : (output n out : List ℕ) (wrapper : Option LineWrapper) (filled from e : ℕ) → Place wrapper output n filled from e → length out ≡ e
    → drop e (out ++ drop e (put_mid from (e - from) output n)) ≡ drop (e - filled) (drop filled output)
behind_of output n out wrapper filled from e p len =
    let room = p.room in
    let next : filled + (e - filled) ≡ e = omega arith in
    drop_at out (drop e (put_mid from (e - from) output n)) e len ∙ p.at.kept ∙ ap (λ k. drop k output) (sym next) ∙ sym (drop-drop (e - filled) filled output)

pub encode_placed : (end : End) (table output n : List ℕ) (wrapper : Option LineWrapper) (filled count more from e : ℕ)
    → IsWritten end table wrapper output filled count → e ≤ length output
    → e ≡ in_lines_len (lines_of wrapper) (4 * ((count + more) / 3) + 0) → from ≡ e - 4 * ((count + more) / 3 - count / 3)
    → length n ≡ 4 * ((count % 3 + more) / 3)
    → Place wrapper output n filled from e
encode_placed end table output n wrapper filled count more from e i fits e_is from_is size =
    let s : 4 * ((count + more) / 3) + 0 ≡ 4 * (count / 3) + length n = omega arith in
    placed end table output n wrapper filled count from e i fits (e_is ∙ ap (in_lines_len (lines_of wrapper)) s) (omega arith)

pub record Encoded (end : End) (table : List ℕ) (wrapper next : Option LineWrapper) (output new : List ℕ) (filled e count more : ℕ)
    (block kept input : List ℕ) : Type 0 where
  pub written : IsWritten end table next new e (count + more)
  pub seen : progress (taken_of end table next new e (count + more) kept) (length new) (drop e new) (lines_of next)
      ≡ progress (taken_of end table wrapper output filled count block ++ input) (length output) (drop e new) (lines_of wrapper)
  pub behind : drop e new ≡ drop (e - filled) (drop filled output)

pub encoded : (end : End) (table : List ℕ) (padded : Bool) (wrapper next : Option LineWrapper) (output n out : List ℕ) (filled from e count : ℕ)
    (block kept input : List ℕ)
    → Facts table → IsWritten end table wrapper output filled count → length block ≡ 3 → IsBytes (take (count % 3) block ++ input)
    → e ≤ length output → e ≡ in_lines_len (lines_of wrapper) (4 * ((count + length input) / 3) + 0) → from ≡ e - 4 * ((count + length input) / 3 - count / 3)
    → n ≡ characters end table (whole_groups (take (count % 3) block ++ input))
    → out ≡ take filled (take e (put_mid from (e - from) output n)) ++ in_lines_from wrapper (drop from (take e (put_mid from (e - from) output n)))
    → next ≡ advanced wrapper (drop from (take e (put_mid from (e - from) output n)))
    → take ((count % 3 + length input) % 3) kept ≡ drop (3 * ((count % 3 + length input) / 3)) (take (count % 3) block ++ input)
    → Encoded end table wrapper next output (out ++ drop e (put_mid from (e - from) output n)) filled e count (length input) block kept input
encoded end table padded wrapper next output n out filled from e count block kept input f i long bytes fits e_is from_is n_is out_is next_is kept_is =
    let p = encode_placed end table output n wrapper filled count (length input) from e i fits e_is from_is
    (block_size end table block input n count long n_is) in
    let is : out ≡ take filled output ++ in_lines_from wrapper n = out_is ∙ rw (p.at.back, p.at.front filled p.low) refl in
    let k : length (take filled output) ≡ filled = length-take-le filled output i.within in
    let len : length out ≡ e = ap length is ∙ length-append (take filled output) (in_lines_from wrapper n)
    ∙ ap (λ m. m + length (in_lines_from wrapper n)) k ∙ p.room in
    let tail : List ℕ = drop e (put_mid from (e - from) output n) in
    let r = grown end table padded wrapper next output out tail filled e count block kept input f i long bytes
    (is ∙ ap (λ xs. take filled output ++ in_lines_from wrapper xs) n_is) (next_is ∙ ap (advanced wrapper) (p.at.back ∙ n_is)) len kept_is in
    let rest = p.at.rest in
    let room : length (out ++ tail) ≡ length output = length-append out tail ∙ omega arith in
    record { written = r.written; seen = rw (r.taken, room, r.lines) refl; behind = behind_of output n out wrapper filled from e p len }

-- ---- at the end

all_wrapped : (P : ℕ → Type 0) (w : ℕ) (ending : List ℕ) (n : ℕ) (t : List ℕ) → All P ending → All P t → All P (wrapped_from w ending n t)
all_wrapped P w ending zero [] e h = h
all_wrapped P w ending (suc n) [] e h = h
all_wrapped P w ending zero (c ∷ t) e h =
    All-append P ending (c ∷ wrapped_from w ending (w - 1) t) e
    (All-cons P c (wrapped_from w ending (w - 1) t) (All-head P c t h) (all_wrapped P w ending (w - 1) t e (All-tail P c t h)))
all_wrapped P w ending (suc n) (c ∷ t) e h = All-cons P c (wrapped_from w ending n t) (All-head P c t h) (all_wrapped P w ending n t e (All-tail P c t h))

ending_ascii : (ending : LineEnding) → All (λ c. c < 128) (ending_bytes ending)
ending_ascii CR = All-cons (λ c. c < 128) 13 [] (omega arith) (All-nil (λ c. c < 128))
ending_ascii LF = All-cons (λ c. c < 128) 10 [] (omega arith) (All-nil (λ c. c < 128))
ending_ascii CRLF = All-cons (λ c. c < 128) 13 (10 ∷ []) (omega arith) (All-cons (λ c. c < 128) 10 [] (omega arith) (All-nil (λ c. c < 128)))

lines_all : (wrapper : Option LineWrapper) (s t : List ℕ) → HasLines wrapper s → All (λ c. c < 128) t → All (λ c. c < 128) (in_lines (lines_of wrapper) t)
lines_all None s t h all = all
lines_all (Some l) s t h all = rw (wrapped-walk l.width l.ending t (let w = h.0 in omega arith))
    (all_wrapped (λ c. c < 128) l.width (ending_bytes l.ending) l.width t (ending_ascii l.ending) all)

pub taken_bytes : (end : End) (table output block : List ℕ) (wrapper : Option LineWrapper) (filled count : ℕ)
    → IsWritten end table wrapper output filled count → IsBytes (take (count % 3) block)
    → IsBytes (taken_of end table wrapper output filled count block)
taken_bytes end table output block wrapper filled count i bytes =
    bytes_append (bytes_written end table wrapper (take filled output)) (take (count % 3) block) i.bytes bytes

pub lines_ascii : (end : End) (table : List ℕ) (padded : Bool) (wrapper : Option LineWrapper) (s b : List ℕ) → Facts table → HasLines wrapper s → IsBytes b
    → IsAscii (in_lines (lines_of wrapper) (encoding_of (form end table padded) b))
lines_ascii end table padded wrapper s b f h bytes =
    ascii_from_all (in_lines (lines_of wrapper) (encoding_of (form end table padded) b))
    (lines_all wrapper s (encoding_of (form end table padded) b) h (encoding_all_ascii end table padded b f bytes))

pub finish_len : (end : End) (table : List ℕ) (padded : Bool) (output block : List ℕ) (wrapper : Option LineWrapper) (filled count : ℕ)
    → IsWritten end table wrapper output filled count → length block ≡ 3
    → length (in_lines (lines_of wrapper) (encoding_of (form end table padded) (taken_of end table wrapper output filled count block)))
    ≡ in_lines_len (lines_of wrapper) (4 * (count / 3) + encoded_len padded (count % 3))
finish_len end table padded output block wrapper filled count i long =
    let b : List ℕ = taken_of end table wrapper output filled count block in
    let m : count - 3 * (count / 3) ≡ count % 3 = omega arith in
    length-in_lines wrapper (characters end table (bytes_written end table wrapper (take filled output))) (encoding_of (form end table padded) b) i.lines
    ∙ ap (in_lines_len (lines_of wrapper)) (length-encoding_of end table b padded
    ∙ ap (encoded_len padded) (taken_len end table output block wrapper filled count i long)
    ∙ len_split padded count ∙ ap (λ k. 4 * (count / 3) + encoded_len padded k) m)

pub finished : (end : End) (table : List ℕ) (padded : Bool) (wrapper : Option LineWrapper) (output n out tail : List ℕ) (filled count e r more : ℕ)
    (block : List ℕ)
    → IsWritten end table wrapper output filled count → length block ≡ 3 → e ≤ length output → e ≡ in_lines_len (lines_of wrapper) (4 * (count / 3) + more)
    → more ≡ encoded_len padded (count % 3) → r ≡ encoded_len padded (length (take (count % 3) block))
    → take r n ≡ encoding_of (form end table padded) (take (count % 3) block) → length n ≡ more
    → out ≡ take filled (take e (put_mid (e - more) (e - (e - more)) output n))
    ++ in_lines_from wrapper (drop (e - more) (take e (put_mid (e - more) (e - (e - more)) output n)))
    → take e (out ++ tail) ≡ in_lines (lines_of wrapper) (encoding_of (form end table padded) (taken_of end table wrapper output filled count block))
finished end table padded wrapper output n out tail filled count e r more block i long fits e_is more_is r_is text size out_is =
    let w : List ℕ = bytes_written end table wrapper (take filled output) in
    let rest : List ℕ = take (count % 3) block in
    let p = placed end table output n wrapper filled count (e - more) e i fits
    (e_is ∙ ap (λ k. in_lines_len (lines_of wrapper) (4 * (count / 3) + k)) (sym size)) (ap (λ k. e - k) (sym size)) in
    let wait : length rest ≡ count % 3 = length-take-le (count % 3) block (omega arith) in
    let all : r ≡ length n = r_is ∙ ap (encoded_len padded) wait ∙ sym more_is ∙ sym size in
    let is_text : n ≡ encoding_of (form end table padded) rest = sym (take_all r n (omega arith)) ∙ text in
    let is : out ≡ take filled output ++ in_lines_from wrapper n = out_is ∙ rw (p.at.back, p.at.front filled p.low) refl in
    let k : length (take filled output) ≡ filled = length-take-le filled output i.within in
    let len : length out ≡ e = ap length is ∙ length-append (take filled output) (in_lines_from wrapper n)
    ∙ ap (λ m. m + length (in_lines_from wrapper n)) k ∙ p.room in
    let groups = i.groups in
    take_at out tail e len ∙ is ∙ ap (λ xs. take filled output ++ in_lines_from wrapper xs) is_text
    ∙ ap (λ xs. xs ++ in_lines_from wrapper (encoding_of (form end table padded) rest)) i.text
    ∙ sym (in_lines-append wrapper (characters end table w) (encoding_of (form end table padded) rest) i.lines)
    ∙ ap (in_lines (lines_of wrapper)) (sym (encoding_of-append end table w rest padded (omega arith)))

pub finish_size : (wrapper : Option LineWrapper) (output n : List ℕ) (e more count : ℕ) → e ≤ length output
    → e ≡ in_lines_len (lines_of wrapper) (4 * (count / 3) + more)
    → length n ≡ length (take (e - (e - more)) (drop (e - more) output)) → length n ≡ more
finish_size wrapper output n e more count fits e_is part =
    let low = no_shorter wrapper (4 * (count / 3) + more) in
    let d : length (drop (e - more) output) ≡ length output - (e - more) = length-drop (e - more) output in
    part ∙ length-take-le (e - (e - more)) (drop (e - more) output) (omega arith) ∙ omega arith

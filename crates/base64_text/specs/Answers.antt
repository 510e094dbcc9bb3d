-- What the calls on whole texts answer, and what an output that held `before` holds `after` them.
use Rattle.std.specs.Prelude.{◌≡◌, ℕ, ◌+◌, ◌*◌, ◌/◌, ◌<◌, ◌≤◌, ◌^◌, ◌↔◌, ◌++◌, false, Bool, true, List, length, take, drop, Option, Result}
use Rattle.std.specs.Prelude.{IfOk, IfErr, IsOkAnd, IsSome, IfSome, IfNone, IsAscii}
use Rattle.base64_alphabet.specs.Form.{Form}
use Rattle.base64_alphabet.specs.Table.{all_in}
use Rattle.base64_alphabet.specs.Encoding.{encoding_of, bytes_of_blocks}
use Rattle.base64_text.specs.Canonical.{IsBytes, IsDecodeError, IsDecodeVecError, decoded_len, has_lengths, unpadded_len}
use Rattle.base64_text.specs.Counts.{encoded_len}
use Rattle.base64_text.specs.declared.errors.Error.{Error}

-- the text is decoded to the front of the output, whose length is the answer, or refused
pub record Decodes (form : Form) (text before after : List ℕ) (result : Result ℕ Error) : Type 0 where
  pub within : IfOk result (λ n. n ≤ length before)
  pub ok : IfOk result (λ n. text ≡ encoding_of form (take n after))
  pub bytes : IfOk result (λ n. IsBytes (take n after))
  pub value : (b : List ℕ) → IsBytes b → text ≡ encoding_of form b → IfOk result (λ n. take n after ≡ b)
  pub accepted : (b : List ℕ) → IsBytes b → text ≡ encoding_of form b → length b ≤ length before → IsOkAnd result (λ n. take n after ≡ b)
  pub rest : IfOk result (λ n. drop n after ≡ drop n before)
  pub behind : drop (decoded_len (unpadded_len form.padded text)) after ≡ drop (decoded_len (unpadded_len form.padded text)) before
  pub untouched : has_lengths form.padded text (length before) ≡ false → after ≡ before
  pub err : IfErr result (IsDecodeError form text (length before))

-- the bytes of whole blocks are written to the front of the output, and the answer tells whether each character is
-- in the table
pub record DecodesBlocks (form : Form) (text before after : List ℕ) (result : Bool) : Type 0 where
  pub answer : result ≡ all_in form.table text
  pub written : all_in form.table text ≡ true → after ≡ bytes_of_blocks form.end form.table text ++ drop (3 * (length text / 4)) before

-- the bytes are encoded to the front of the output, whose length is the answer, or don't fit
pub record Encodes (form : Form) (bytes before after : List ℕ) (result : Option ℕ) : Type 0 where
  pub within : IfSome result (λ n. n ≤ length before)
  pub text : IfSome result (λ n. take n after ≡ encoding_of form bytes)
  pub rest : IfSome result (λ n. drop n after ≡ drop n before)
  pub same : IfNone result (after ≡ before)
  pub ascii : IfSome result (λ n. IsAscii (take n after))
  pub fits : IsSome result ↔ ((4 * length bytes < 2 ^ 64) × (encoded_len form.padded (length bytes) ≤ length before))

-- the front of the output is the encoding of the bytes, and as long as its length tells
pub record IsEncoded (form : Form) (bytes after : List ℕ) (n : ℕ) : Type 0 where
  pub len : n ≡ encoded_len form.padded (length bytes)
  pub text : take n after ≡ encoding_of form bytes

-- Whole bytes_of_blocks there and back.
use Rattle.std.proofs.Common.{◌≡◌, ℕ, suc, ◌+◌, ◌*◌, ◌/◌, ◌%◌, ◌<◌, true, List, [], ◌∷◌, ◌++◌, length, slice_index, arith, refl, ap, sym, ◌∙◌, map}
use Rattle.std.proofs.Common.{append_assoc}
use Rattle.std.proofs.lemmas.Bool.{and_parts}
use Rattle.base64_alphabet.specs.Encoding.{bytes_of_blocks, characters}
use Rattle.base64_alphabet.specs.Group.{End, High, Low, bytes_of_places, characters_of}
use Rattle.base64_alphabet.specs.Table.{all_in, digit_of, is_in}
use Rattle.base64_text.specs.Canonical.{IsBytes}
use Rattle.base64_alphabet.proofs.TableLemmas.{digit_below, Facts}
use Rattle.base64_text.proofs.Algebra.{bytes_back, digits_back, number_of_bytes, number_of_its_digits, at_digit, is_in_at, digit_at}

-- the characters of a group of four digits
characters_group : (end : End) (table : List ℕ) (p q r s : ℕ) (rest : List ℕ) → p < 64 → q < 64 → r < 64 → s < 64
    → characters end table (bytes_of_places end p q r s ++ rest)
    ≡ (slice_index table p ∷ slice_index table q ∷ slice_index table r ∷ slice_index table s ∷ []) ++ characters end table rest
unfolding characters
characters_group High table p q r s rest a b c d =
    rw (number_of_bytes (p * 262144 + q * 4096 + r * 64 + s))
    (ap (λ ds. map (slice_index table) ds ++ characters High table rest) (digits_back High p q r s a b c d))
characters_group Low table p q r s rest a b c d =
    rw (number_of_bytes (s * 262144 + r * 4096 + q * 64 + p))
    (ap (λ ds. map (slice_index table) ds ++ characters Low table rest) (digits_back Low p q r s a b c d))

-- whole blocks in the table are the characters of their bytes
pub characters_bytes_of_blocks : (end : End) (table t : List ℕ) → Facts table → length t % 4 ≡ 0 → all_in table t ≡ true
    → characters end table (bytes_of_blocks end table t) ≡ t
unfolding characters bytes_of_blocks
characters_bytes_of_blocks end table [] f whole h = refl
characters_bytes_of_blocks end table (p ∷ []) f whole h = absurd (omega arith)
characters_bytes_of_blocks end table (p ∷ q ∷ []) f whole h = absurd (omega arith)
characters_bytes_of_blocks end table (p ∷ q ∷ r ∷ []) f whole h = absurd (omega arith)
characters_bytes_of_blocks end table (p ∷ q ∷ r ∷ s ∷ t) f whole h =
    let hp = and_parts (is_in table p) (all_in table (q ∷ r ∷ s ∷ t)) h in
    let hq = and_parts (is_in table q) (all_in table (r ∷ s ∷ t)) hp.1 in
    let hr = and_parts (is_in table r) (all_in table (s ∷ t)) hq.1 in
    let hs = and_parts (is_in table s) (all_in table t) hr.1 in
    let len = f.len in
    let lp : digit_of table p < 64 = (let l = digit_below table p hp.0 in omega arith) in
    let lq : digit_of table q < 64 = (let l = digit_below table q hq.0 in omega arith) in
    let lr : digit_of table r < 64 = (let l = digit_below table r hr.0 in omega arith) in
    let ls : digit_of table s < 64 = (let l = digit_below table s hs.0 in omega arith) in
    characters_group end table (digit_of table p) (digit_of table q) (digit_of table r) (digit_of table s) (bytes_of_blocks end table t) lp lq lr ls
    ∙ rw (at_digit table p hp.0, at_digit table q hq.0, at_digit table r hr.0, at_digit table s hs.0)
    (ap (λ xs. p ∷ q ∷ r ∷ s ∷ xs) (characters_bytes_of_blocks end table t f (omega arith) hs.1))

-- what a group's characters are
record Group (end : End) (table : List ℕ) (a b c : ℕ) : Type 0 where
  in_table : (rest : List ℕ) → all_in table (characters_of end table a b c ++ rest) ≡ all_in table rest
  bytes : (rest : List ℕ) → bytes_of_blocks end table (characters_of end table a b c ++ rest) ≡ a ∷ b ∷ c ∷ bytes_of_blocks end table rest

pub in_four : (table : List ℕ) (p q r s : ℕ) (rest : List ℕ) → length table ≡ 64 → p < 64 → q < 64 → r < 64 → s < 64
    → all_in table (map (slice_index table) (p ∷ q ∷ r ∷ s ∷ []) ++ rest) ≡ all_in table rest
in_four table p q r s rest len a b c d =
    let ip = is_in_at table p (omega arith) in
    let iq = is_in_at table q (omega arith) in
    let ir = is_in_at table r (omega arith) in
    let is = is_in_at table s (omega arith) in
    rw (ip, iq, ir, is)

pub digits_at : (table : List ℕ) (p q r s : ℕ) → Facts table → p < 64 → q < 64 → r < 64 → s < 64
    → (digit_of table (slice_index table p) ≡ p) × (digit_of table (slice_index table q) ≡ q) × (digit_of table (slice_index table r) ≡ r)
    × (digit_of table (slice_index table s) ≡ s)
digits_at table p q r s f a b c d =
    let len = f.len in (
      digit_at table p f.distinct (omega arith),
      digit_at table q f.distinct (omega arith),
      digit_at table r f.distinct (omega arith),
      digit_at table s
          f.distinct (omega arith),
    )

group_is : (end : End) (table : List ℕ) (a b c : ℕ) → Facts table → a < 256 → b < 256 → c < 256 → Group end table a b c
unfolding bytes_of_blocks
group_is High table a b c f x y z =
    let n : ℕ = a * 65536 + b * 256 + c in
    let lp : n / 262144 < 64 = omega arith in
    let lq : n / 4096 % 64 < 64 = omega arith in
    let lr : n / 64 % 64 < 64 = omega arith in
    let ls : n % 64 < 64 = omega arith in
    let d = digits_at table (n / 262144) (n / 4096 % 64) (n / 64 % 64) (n % 64) f lp lq lr ls in
    record {
      in_table = λ rest. in_four table (n / 262144) (n / 4096 % 64) (n / 64 % 64) (n % 64) rest f.len lp lq lr ls;
      bytes = λ rest. rw (d.0, d.1, d.2, d.3, number_of_its_digits n) (ap (λ xs. xs ++ bytes_of_blocks High table rest) (bytes_back High a b c x y z));
    }
group_is Low table a b c f x y z =
    let n : ℕ = c * 65536 + b * 256 + a in
    let lp : n / 262144 < 64 = omega arith in
    let lq : n / 4096 % 64 < 64 = omega arith in
    let lr : n / 64 % 64 < 64 = omega arith in
    let ls : n % 64 < 64 = omega arith in
    let d = digits_at table (n % 64) (n / 64 % 64) (n / 4096 % 64) (n / 262144) f ls lr lq lp in
    record {
      in_table = λ rest. in_four table (n % 64) (n / 64 % 64) (n / 4096 % 64) (n / 262144) rest f.len ls lr lq lp;
      bytes = λ rest. rw (d.0, d.1, d.2, d.3, number_of_its_digits n) (ap (λ xs. xs ++ bytes_of_blocks Low table rest) (bytes_back Low a b c x y z));
    }

-- the characters of whole bytes_of_blocks are in the table, and stand for their bytes
pub bytes_of_blocks_characters : (end : End) (table b : List ℕ) → Facts table → IsBytes b → length b % 3 ≡ 0
    → (all_in table (characters end table b) ≡ true) × (bytes_of_blocks end table (characters end table b) ≡ b)
unfolding characters bytes_of_blocks
bytes_of_blocks_characters end table [] f bytes whole = (refl, refl)
bytes_of_blocks_characters end table (a ∷ []) f bytes whole = absurd (omega arith)
bytes_of_blocks_characters end table (a ∷ b ∷ []) f bytes whole = absurd (omega arith)
bytes_of_blocks_characters end table (a ∷ b ∷ c ∷ rest) f bytes whole =
    let g = group_is end table a b c f (bytes 0 0 (omega arith)) (bytes 1 0 (omega arith)) (bytes 2 0 (omega arith)) in
    let r = bytes_of_blocks_characters end table rest f (λ k d lt. bytes (suc (suc (suc k))) d (omega arith)) (omega arith) in
    (g.in_table (characters end table rest) ∙ r.0, g.bytes (characters end table rest) ∙ ap (λ xs. a ∷ b ∷ c ∷ xs) r.1)

-- whole bytes_of_blocks first
pub characters-append : (end : End) (table x y : List ℕ) → length x % 3 ≡ 0 → characters end table (x ++ y) ≡ characters end table x ++ characters end table y
unfolding characters
characters-append end table [] y whole = refl
characters-append end table (a ∷ []) y whole = absurd (omega arith)
characters-append end table (a ∷ b ∷ []) y whole = absurd (omega arith)
characters-append end table (a ∷ b ∷ c ∷ x) y whole =
    ap (λ xs. characters_of end table a b c ++ xs) (characters-append end table x y (omega arith))
    ∙ sym (append_assoc (characters_of end table a b c) (characters end table x) (characters end table y))

-- The items of an encoding are its bytes.
use Rattle.std.proofs.Common.{◌≡◌, ℕ, suc, ◌+◌, ◌-◌, ◌*◌, ◌/◌, ◌%◌, ◌<◌, Bool, List, [], ◌∷◌, ◌++◌, length, take, drop, arith, refl, ap, ◌∙◌, map, Option, Some}
use Rattle.std.proofs.lemmas.List.{take-append-drop, length-drop}
use Rattle.base64_alphabet.proofs.Forms.{form}
use Rattle.base64_alphabet.specs.Encoding.{characters, encoding_of}
use Rattle.base64_alphabet.specs.Group.{End, High, Low, characters_of}
use Rattle.base64_text.specs.Canonical.{IsBytes, loose_bytes}
use Rattle.base64ct.specs.Items.{block_items, items}
use Rattle.base64_alphabet.proofs.TableLemmas.{Facts}
use Rattle.base64_text.proofs.Algebra.{bytes_back, number_of_its_digits}
use Rattle.base64_text.proofs.Texts.{digits_at, in_four}
use Rattle.base64_text.proofs.LastLemmas.{is_last, last_loose}
use Rattle.base64_text.proofs.WholeLemmas.{halves}

-- a group's characters give its three items
group_items : (end : End) (table : List ℕ) (a b c : ℕ) (rest : List ℕ) → Facts table → a < 256 → b < 256 → c < 256
    → block_items end table (characters_of end table a b c ++ rest) ≡ Some a ∷ Some b ∷ Some c ∷ block_items end table rest
unfolding block_items
group_items High table a b c rest f x y z =
    let n : ℕ = a * 65536 + b * 256 + c in
    let lp : n / 262144 < 64 = omega arith in
    let lq : n / 4096 % 64 < 64 = omega arith in
    let lr : n / 64 % 64 < 64 = omega arith in
    let ls : n % 64 < 64 = omega arith in
    let d = digits_at table (n / 262144) (n / 4096 % 64) (n / 64 % 64) (n % 64) f lp lq lr ls in
    let i = in_four table (n / 262144) (n / 4096 % 64) (n / 64 % 64) (n % 64) [] f.len lp lq lr ls in
    rw i (rw (d.0, d.1, d.2, d.3, number_of_its_digits n) (ap (λ xs. map Some xs ++ block_items High table rest) (bytes_back High a b c x y z)))
group_items Low table a b c rest f x y z =
    let n : ℕ = c * 65536 + b * 256 + a in
    let lp : n / 262144 < 64 = omega arith in
    let lq : n / 4096 % 64 < 64 = omega arith in
    let lr : n / 64 % 64 < 64 = omega arith in
    let ls : n % 64 < 64 = omega arith in
    let d = digits_at table (n % 64) (n / 64 % 64) (n / 4096 % 64) (n / 262144) f ls lr lq lp in
    let i = in_four table (n % 64) (n / 64 % 64) (n / 4096 % 64) (n / 262144) [] f.len ls lr lq lp in
    rw i (rw (d.0, d.1, d.2, d.3, number_of_its_digits n) (ap (λ xs. map Some xs ++ block_items Low table rest) (bytes_back Low a b c x y z)))

pub front_items : (end : End) (table b : List ℕ) → Facts table → IsBytes b → length b % 3 ≡ 0 → block_items end table (characters end table b) ≡ map Some b
unfolding characters block_items
front_items end table [] f bytes whole = refl
front_items end table (x ∷ []) f bytes whole = absurd (omega arith)
front_items end table (x ∷ y ∷ []) f bytes whole = absurd (omega arith)
front_items end table (x ∷ y ∷ z ∷ b) f bytes whole =
    group_items end table x y z (characters end table b) f (bytes 0 0 (omega arith)) (bytes 1 0 (omega arith)) (bytes 2 0 (omega arith))
    ∙ ap (λ xs. Some x ∷ Some y ∷ Some z ∷ xs) (front_items end table b f (λ k d lt. bytes (suc (suc (suc k))) d (omega arith)) (omega arith))

pub map-append : (xs ys : List ℕ) → map {A = ℕ} {B = Option ℕ} Some xs ++ map Some ys ≡ map Some (xs ++ ys)
map-append [] ys = refl
map-append (x ∷ xs) ys = ap (λ zs. Some x ∷ zs) (map-append xs ys)

pub encoding_items : (end : End) (table : List ℕ) (padded : Bool) (t b : List ℕ) → Facts table → IsBytes b → 0 < length t
    → t ≡ encoding_of (form end table padded) b → items (form end table padded) t ≡ map Some b
encoding_items end table padded t b f bytes some is =
    let q : ℕ = (length t - 1) / 4 in
    let h = halves end table padded t b ((length t - 1) / 4) (omega arith) bytes is in
    let e = length-drop (4 * ((length t - 1) / 4)) t in
    let l = is_last end table padded (drop (4 * ((length t - 1) / 4)) t) (drop (3 * ((length t - 1) / 4)) b) f h.rest_bytes (omega arith) (omega arith)
    h.rest in
    ap (λ xs. block_items end table xs ++ map Some (loose_bytes (form end table padded) (drop (4 * ((length t - 1) / 4)) t))) h.front
    ∙ ap (λ xs. xs ++ map Some (loose_bytes (form end table padded) (drop (4 * ((length t - 1) / 4)) t)))
    (front_items end table (take (3 * ((length t - 1) / 4)) b) f h.front_bytes h.whole)
    ∙ ap (λ xs. map Some (take (3 * ((length t - 1) / 4)) b) ++ map Some xs)
    (last_loose end table padded (drop (4 * ((length t - 1) / 4)) t) (drop (3 * ((length t - 1) / 4)) b) l)
    ∙ map-append (take (3 * ((length t - 1) / 4)) b) (drop (3 * ((length t - 1) / 4)) b)
    ∙ ap (map Some) (take-append-drop (3 * ((length t - 1) / 4)) b)

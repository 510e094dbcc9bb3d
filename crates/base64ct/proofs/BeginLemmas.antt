-- How a decoder begins.
use Rattle.std.proofs.Common.{◌≡◌, ℕ, zero, suc, ◌+◌, ◌-◌, ◌*◌, ◌/◌, ◌<◌, ◌≤◌, Bool, true, false, List, [], ◌++◌, length, take, drop, arith, refl, ap, sym}
use Rattle.std.proofs.Common.{◌∙◌, map, Some, Result, Ok, Err, IfOk, IfErr, IsOkAnd, subst}
use Rattle.std.proofs.lemmas.Bool.{both_ways, le-ltb}
use Rattle.base64_alphabet.proofs.Forms.{form}
use Rattle.base64_alphabet.specs.Group.{End}
use Rattle.base64_alphabet.specs.Encoding.{encoding_of}
use Rattle.base64_alphabet.proofs.TableLemmas.{Facts}
use Rattle.base64_text.specs.Canonical.{IsBytes, IsNoEncoding}
use Rattle.base64_text.specs.LastBlock.{last_at, HasCanonicalEnd}
use Rattle.base64_text.specs.declared.errors.Error.{Error}
use Rattle.base64ct.specs.Items.{block_items, items}
use Rattle.base64ct.specs.Lines.{joined, joined_within, has_endings, has_endings_within}
use Rattle.base64ct.specs.Walk.{joined_from, has_endings_from, IsCut}
use Rattle.base64ct.proofs.DecoderLemmas.{canonical_loose}
use Rattle.base64ct.proofs.LinesLemmas.{has_endings-walk, joined-walk, joined_some}
use Rattle.base64ct.proofs.ReaderLemmas.{all_cut}

-- the lines of a text that was cut
pub record Joined (w count : ℕ) (text line rest : List ℕ) : Type 0 where
  pub ends : has_endings w text ≡ true
  pub walk_ends : has_endings_from w w false text ≡ true
  pub walk : joined w text ≡ joined_from w w false text
  pub len : length (joined w text) ≡ count + length rest
  pub some : 0 < count + length rest
  pub short : count + length rest ≤ length text
  pub last : (n : ℕ) → n ≤ 4 → n ≤ count + length rest → (n ≤ length line + length rest)
      × (drop (length line + length rest - n) (line ++ rest) ≡ drop (count + length rest - n) (joined w text))

pub cut_joined : (w count : ℕ) (text line rest : List ℕ) → 4 ≤ w → 0 < length text → IsCut w count text line rest → length rest ≤ w
    → Joined w count text line rest
cut_joined w count text line rest wide some c few =
    let a = all_cut w count text line rest wide c few in
    let ends : has_endings w text ≡ true = has_endings-walk w text (omega arith) ∙ a.ends in
    let walk = joined-walk w text (omega arith) ends in
    let more = joined_some w text (omega arith) some in
    let len = a.len in
    record {
      ends = ends;
      walk_ends = a.ends;
      walk = walk;
      len = ap length walk ∙ len;
      some = omega arith;
      short = c.short;
      last = λ n four fits. (let l = a.last n four fits in (l.0, l.1 ∙ ap (drop (count + length rest - n)) (sym walk)));
    }

-- the last block
pub block_at : (w count n : ℕ) (text line rest : List ℕ) → Joined w count text line rest → n ≡ count + length rest - 4 * ((count + length rest - 1) / 4)
    → (n ≤ 4) × (1 ≤ n) × (n ≤ length line + length rest) × (drop (length line + length rest - n) (line ++ rest)
    ≡ drop (last_at (length (joined w text))) (joined w text))
block_at w count n text line rest j is =
    let some = j.some in
    let l = j.last n (omega arith) (omega arith) in
    let e : count + length rest - n ≡ 4 * ((count + length rest - 1) / 4) = omega arith in
    (omega arith, omega arith, l.0, l.1 ∙ ap (λ k. drop k (joined w text)) e ∙ ap (λ k. drop (last_at k) (joined w text)) (sym j.len))

-- what is left at first are the items of the text
pub first_items : (end : End) (table : List ℕ) (padded : Bool) (t chars few last : List ℕ) (b : ℕ) → Facts table → 0 < length t → t ≡ chars
    → b ≡ (length t - 1) / 4 → few ≡ []
    → IsBytes last → drop (last_at (length t)) t ≡ encoding_of (form end table padded) last
    → map Some few ++ (block_items end table (take (4 * b) chars) ++ map Some last) ≡ items (form end table padded) t
first_items end table padded t chars few last b f some walk blocks none bytes is =
    ap (λ us. map Some us ++ (block_items end table (take (4 * b) chars) ++ map Some last)) none
    ∙ ap (λ us. block_items end table (take (4 * b) us) ++ map Some last) (sym walk)
    ∙ ap (λ n. block_items end table (take (4 * n) t) ++ map Some last) blocks
    ∙ ap (λ us. block_items end table (take (last_at (length t)) t) ++ map Some us) (sym (canonical_loose end table padded t last f some bytes is))

pub no_endings : (w : ℕ) (text : List ℕ) → 0 < w → has_endings_from w w false text ≡ false → has_endings w text ≡ true → ⊥
no_endings w text low bad good = both_ways (has_endings w text) (has_endings-walk w text low ∙ bad) good

pub no_end : (end : End) (table : List ℕ) (padded : Bool) (t block : List ℕ) → block ≡ drop (last_at (length t)) t → IsNoEncoding (form end table padded) block
    → HasCanonicalEnd (form end table padded) t → ⊥
no_end end table padded t block at none (b, bytes, is) = none b bytes (at ∙ is)

-- a text that is no longer than the width is one line
flat_join : (n w : ℕ) (text : List ℕ) → length text ≤ w → joined_within n w text ≡ text
flat_join zero w text le = refl
flat_join (suc n) w text le = rw (le-ltb w (length text) le) refl

flat_ends : (n w : ℕ) (text : List ℕ) → length text ≤ w → has_endings_within n w text ≡ true
flat_ends zero w text le = refl
flat_ends (suc n) w text le = rw (le-ltb w (length text) le) refl

pub one_line : (w : ℕ) (text : List ℕ) → length text ≤ w → (joined w text ≡ text) × (has_endings w text ≡ true)
one_line w text le = (flat_join (length text) w text le, flat_ends (length text) w text le)

-- ---- answers of a call

pub ok_then : {X : Type 0} (P R : X → Type 0) (r : Result X Error) → IfOk r P → ((x : X) → P x → R x) → IfOk r R
ok_then P R (Ok x) p f = f x p
ok_then P R (Err e) p f = p

pub ok_both : {X : Type 0} (P Q : X → Type 0) (r : Result X Error) → IfOk r P → IfOk r Q → IfOk r (λ x. P x × Q x)
ok_both P Q (Ok x) p q = (p, q)
ok_both P Q (Err e) p q = p

pub err_then : {X : Type 0} (P R : Error → Type 0) (r : Result X Error) → IfErr r P → ((e : Error) → P e → R e) → IfErr r R
err_then P R (Ok x) p f = p
err_then P R (Err e) p f = f e p

pub ok_when : {X : Type 0} (P R : X → Type 0) (Q : Error → Type 0) (r : Result X Error) → IfOk r P → IfErr r Q → ((x : X) → P x → R x)
    → ((e : Error) → Q e → ⊥) → IsOkAnd r R
ok_when P R Q (Ok x) p q f bad = f x p
ok_when P R Q (Err e) p q f bad = bad e q

pub err_at : {X : Type 0} (Q : Error → Type 0) (r : Result X Error) (e : Error) → r ≡ Err e → IfErr r Q → Q e
err_at {X} Q r e is h = let P : Result X Error → Type 0 = λ x. IfErr x Q in subst P is h

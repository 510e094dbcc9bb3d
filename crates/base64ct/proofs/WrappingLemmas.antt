-- Texts cut into lines, and the walk over their characters.
use Rattle.std.proofs.Common.{◌≡◌, ℕ, zero, suc, ◌+◌, ◌-◌, ◌*◌, ◌/◌, ◌%◌, ◌<◌, ◌≤◌, List, [], ◌∷◌, ◌++◌, length, take, drop, arith, refl, ap, sym, ◌∙◌}
use Rattle.std.proofs.Common.{append_assoc, length-append, length-drop, inl, inr, subst}
use Rattle.std.proofs.lemmas.Bool.{cases_lt}
use Rattle.std.proofs.lemmas.List.{drop-drop, take-append-drop, length-take-le}
use Rattle.std.proofs.lemmas.Nat.{div-mul-add, div-add-mod'}
use Rattle.std.proofs.Math.Nat.{mod-lt}
use Rattle.std.specs.List.{flat_map}
use Rattle.std.specs.Simd.{first_chunks}
use Rattle.base64ct.specs.Lines.{IsEnding, Cr, Lf, Crlf, IsLine, Last, Lines, More, joined}
use Rattle.base64ct.specs.Wrapping.{ending_bytes, line_count, wrapped, wrapped_len}
use Rattle.base64ct.specs.LineWrapper.{left_from, wrapped_from}
use Rattle.base64ct.specs.declared.line_ending.LineEnding.{LineEnding}
use Rattle.base64ct.specs.declared.line_ending.LineEnding.TheVariants.{CR, LF, CRLF}
use Rattle.base64ct.proofs.LinesLemmas.{line_parts, lines_are}

-- the line that is begun comes first
take_line : (w : ℕ) (ending : List ℕ) (n : ℕ) (t : List ℕ) → wrapped_from w ending n t ≡ take n t ++ wrapped_from w ending 0 (drop n t)
take_line w ending zero [] = refl
take_line w ending zero (c ∷ t) = refl
take_line w ending (suc n) [] = refl
take_line w ending (suc n) (c ∷ t) = ap (λ xs. c ∷ xs) (take_line w ending n t)

-- a text that fits is one line
one_line : (w : ℕ) (ending : List ℕ) (n : ℕ) (t : List ℕ) → length t ≤ n → wrapped_from w ending n t ≡ t
one_line w ending zero [] le = refl
one_line w ending (suc n) [] le = refl
one_line w ending zero (c ∷ t) le = absurd (omega arith)
one_line w ending (suc n) (c ∷ t) le = ap (λ xs. c ∷ xs) (one_line w ending n t (omega arith))

-- behind a full line the ending comes first
full_line : (w : ℕ) (ending t : List ℕ) → 0 < w → 0 < length t → wrapped_from w ending 0 t ≡ ending ++ wrapped_from w ending w t
full_line w ending [] low some = absurd (omega arith)
full_line zero ending (c ∷ t) low some = absurd (omega arith)
full_line (suc w) ending (c ∷ t) low some = let e : suc w - 1 ≡ w = omega arith in rw e refl

-- a text and a further one
pub wrapped_from-append : (w : ℕ) (ending : List ℕ) (n : ℕ) (t u : List ℕ)
    → wrapped_from w ending n (t ++ u) ≡ wrapped_from w ending n t ++ wrapped_from w ending (left_from w n t) u
wrapped_from-append w ending zero [] u = refl
wrapped_from-append w ending (suc n) [] u = refl
wrapped_from-append w ending zero (c ∷ t) u =
    ap (λ xs. ending ++ c ∷ xs) (wrapped_from-append w ending (w - 1) t u)
    ∙ sym (append_assoc ending (c ∷ wrapped_from w ending (w - 1) t) (wrapped_from w ending (left_from w (w - 1) t) u))
wrapped_from-append w ending (suc n) (c ∷ t) u = ap (λ xs. c ∷ xs) (wrapped_from-append w ending n t u)

pub left_from-append : (w n : ℕ) (t u : List ℕ) → left_from w n (t ++ u) ≡ left_from w (left_from w n t) u
left_from-append w zero [] u = refl
left_from-append w (suc n) [] u = refl
left_from-append w zero (c ∷ t) u = left_from-append w (w - 1) t u
left_from-append w (suc n) (c ∷ t) u = left_from-append w n t u

-- no character is lost
pub length-wrapped_from : (w : ℕ) (ending : List ℕ) (n : ℕ) (t : List ℕ) → length t ≤ length (wrapped_from w ending n t)
length-wrapped_from w ending zero [] = omega arith
length-wrapped_from w ending (suc n) [] = omega arith
length-wrapped_from w ending zero (c ∷ t) = omega (arith, length-append ending (c ∷ wrapped_from w ending (w - 1) t), length-wrapped_from w ending (w - 1) t)
length-wrapped_from w ending (suc n) (c ∷ t) = omega (arith, length-wrapped_from w ending n t)

-- k further lines are the rest of a text that they hold
record Later (w k : ℕ) (ending t : List ℕ) : Type 0 where
  text : flat_map (λ line. ending ++ line) (first_chunks w k t) ≡ wrapped_from w ending 0 t
  len : length (wrapped_from w ending 0 t) ≡ k * length ending + length t

later_lines : (w k : ℕ) (ending t : List ℕ) → 0 < w → k * w < length t + w → length t ≤ k * w → Later w k ending t
later_lines w zero ending [] low more most = record { text = refl; len = omega arith }
later_lines w zero ending (c ∷ t) low more most = absurd (omega arith)
later_lines w (suc k) ending [] low more most = absurd (omega arith)
later_lines w (suc k) ending (c ∷ t) low more most =
    let rest : length (drop w (c ∷ t)) ≡ length (c ∷ t) - w = length-drop w (c ∷ t) in
    elim (cases_lt w (length (c ∷ t))) [
      | inl lt ↦ (let r = later_lines w k ending (drop w (c ∷ t)) low (omega arith) (omega arith) in
          let cut = full_line w ending (c ∷ t) low (omega arith) ∙ ap (λ xs. ending ++ xs) (take_line w ending w (c ∷ t)) in
          record {
            text = append_assoc ending (take w (c ∷ t)) (flat_map (λ line. ending ++ line) (first_chunks w k (drop w (c ∷ t))))
                ∙ ap (λ xs. ending ++ (take w (c ∷ t) ++ xs)) r.text ∙ sym cut;
            len = (let e = ap length cut in
                let l = length-append ending (take w (c ∷ t) ++ wrapped_from w ending 0 (drop w (c ∷ t))) in
                let m = length-append (take w (c ∷ t)) (wrapped_from w ending 0 (drop w (c ∷ t))) in
                let n : length (take w (c ∷ t)) ≡ w = length-take-le w (c ∷ t) (omega arith) in
                let h = r.len in omega arith);
          })
      | inr le ↦ (let r = later_lines w k ending (drop w (c ∷ t)) low (omega arith) (omega arith) in
          let cut = full_line w ending (c ∷ t) low (omega arith) ∙ ap (λ xs. ending ++ xs) (take_line w ending w (c ∷ t)) in
          record {
            text = append_assoc ending (take w (c ∷ t)) (flat_map (λ line. ending ++ line) (first_chunks w k (drop w (c ∷ t))))
                ∙ ap (λ xs. ending ++ (take w (c ∷ t) ++ xs)) r.text ∙ sym cut;
            len = (let e = ap length cut in
                let l = length-append ending (take w (c ∷ t) ++ wrapped_from w ending 0 (drop w (c ∷ t))) in
                let m = length-append (take w (c ∷ t)) (wrapped_from w ending 0 (drop w (c ∷ t))) in
                let n = ap length (take-append-drop w (c ∷ t)) in
                let o = length-append (take w (c ∷ t)) (drop w (c ∷ t)) in
                let h = r.len in omega arith);
          })
    ]

-- how many lines n + 1 characters take
pub line_count-suc : (w n : ℕ) → 0 < w → line_count w (suc n) ≡ suc (n / w)
line_count-suc w n low =
    let d = div-add-mod' n w in
    let m : n % w < w = mod-lt n low in
    let e : suc n + w - 1 ≡ suc (n / w) * w + n % w = omega arith in
    ap (λ k. k / w) e ∙ div-mul-add (suc (n / w)) w (n % w) m

pub line_count-zero : (w : ℕ) → 0 < w → line_count w 0 ≡ 0
line_count-zero w low = let e : 0 + w - 1 ≡ 0 * w + (w - 1) = omega arith in ap (λ k. k / w) e ∙ div-mul-add 0 w (w - 1) (omega arith)

-- how many endings part the lines of n characters
pub ending_count : (w n : ℕ) → 0 < w → line_count w n - 1 ≡ (n - 1) / w
ending_count w zero low =
    let e : 0 - 1 ≡ 0 * w + 0 = omega arith in
    let z : (0 - 1) / w ≡ 0 = ap (λ k. k / w) e ∙ div-mul-add 0 w 0 low in
    let c = line_count-zero w low in
    omega arith
ending_count w (suc n) low = let e : suc n - 1 ≡ n = omega arith in let c = line_count-suc w n low in rw e (omega arith)

-- the chunks, joined by the ending, are the walk
record AreChunks (w : ℕ) (ending : LineEnding) (t : List ℕ) : Type 0 where
  text : wrapped w ending t ≡ wrapped_from w (ending_bytes ending) w t
  len : length (wrapped_from w (ending_bytes ending) w t) ≡ wrapped_len w ending (length t)

chunks : (w : ℕ) (ending : LineEnding) (t : List ℕ) → 0 < w → AreChunks w ending t
unfolding wrapped
chunks w ending [] low = let none = line_count-zero w low in record {
  text = rw none (sym (one_line w (ending_bytes ending) w [] (omega arith)));
  len = ap length (one_line w (ending_bytes ending) w [] (omega arith)) ∙ rw none (omega arith);
}
chunks w ending (c ∷ t) low =
    let e : List ℕ = ending_bytes ending in
    let q : ℕ = length t / w in
    let d = div-add-mod' (length t) w in
    let m : length t % w < w = mod-lt (length t) low in
    let count : line_count w (suc (length t)) ≡ suc q = line_count-suc w (length t) low in
    let rest : length (drop w (c ∷ t)) ≡ length (c ∷ t) - w = length-drop w (c ∷ t) in
    let cut = take_line w e w (c ∷ t) in
    let whole = ap length (take-append-drop w (c ∷ t)) in
    let parts = length-append (take w (c ∷ t)) (drop w (c ∷ t)) in
    let lines = length-append (take w (c ∷ t)) (wrapped_from w e 0 (drop w (c ∷ t))) in
    let r = later_lines w q e (drop w (c ∷ t)) low (omega arith) (omega arith) in
    record {
      text = rw count (ap (λ xs. take w (c ∷ t) ++ xs) r.text ∙ sym cut);
      len = rw count (let k : suc q - 1 ≡ q = omega arith in rw k (let h = r.len in let l = ap length cut in omega arith));
    }

pub wrapped-walk : (w : ℕ) (ending : LineEnding) (t : List ℕ) → 0 < w → wrapped w ending t ≡ wrapped_from w (ending_bytes ending) w t
wrapped-walk w ending t low = (chunks w ending t low).text

pub length-wrapped : (w : ℕ) (ending : LineEnding) (t : List ℕ) → 0 < w → length (wrapped w ending t) ≡ wrapped_len w ending (length t)
length-wrapped w ending t low = ap length (wrapped-walk w ending t low) ∙ (chunks w ending t low).len

pub wrapped-empty : (w : ℕ) (ending : LineEnding) → 0 < w → wrapped w ending [] ≡ []
wrapped-empty w ending low = wrapped-walk w ending [] low ∙ one_line w (ending_bytes ending) w [] (omega arith)

-- ---- lines

is_ending : (ending : LineEnding) → IsEnding (ending_bytes ending)
is_ending CR = Cr
is_ending LF = Lf
is_ending CRLF = Crlf

lines_up_to : (k w : ℕ) (ending : LineEnding) (t : List ℕ) → 0 < w → 0 < length t → IsLine t → length t ≤ k
    → Lines w (wrapped_from w (ending_bytes ending) w t) t
lines_up_to zero w ending t low some is le = absurd (omega arith)
lines_up_to (suc k) w ending t low some is le = elim (cases_lt w (length t)) [
  | inl lt ↦ (let e : List ℕ = ending_bytes ending in
      let rest : length (drop w t) ≡ length t - w = length-drop w t in
      let full : length (take w t) ≡ w = length-take-le w t (omega arith) in
      let whole = take-append-drop w t in
      let parts = line_parts (take w t) (drop w t) (subst IsLine (sym whole) is) in
      let r = lines_up_to k w ending (drop w t) low (omega arith) parts.1 (omega arith) in
      let cut : wrapped_from w e w t ≡ take w t ++ e ++ wrapped_from w e w (drop w t)
      = take_line w e w t ∙ ap (λ xs. take w t ++ xs) (full_line w e (drop w t) low (omega arith))
      ∙ sym (append_assoc (take w t) e (wrapped_from w e w (drop w t))) in
      let lines : Lines w (take w t ++ e ++ wrapped_from w e w (drop w t)) (take w t ++ drop w t)
      = More (take w t) e (wrapped_from w e w (drop w t)) (drop w t) parts.0 full (is_ending ending) r in
      subst (λ xs. Lines w xs t) (sym cut) (subst (λ xs. Lines w (take w t ++ e ++ wrapped_from w e w (drop w t)) xs) whole lines))
  | inr le' ↦ subst (λ xs. Lines w xs t) (sym (one_line w (ending_bytes ending) w t le')) (Last t is some le')
]

pub wrapped_lines : (w : ℕ) (ending : LineEnding) (t : List ℕ) → 0 < w → 0 < length t → IsLine t → Lines w (wrapped w ending t) t
wrapped_lines w ending t low some is = rw (wrapped-walk w ending t low) (lines_up_to (length t) w ending t low some is (omega arith))

-- the lines of a text join to it
pub joined-wrapped : (w : ℕ) (ending : LineEnding) (t : List ℕ) → 0 < w → IsLine t → joined w (wrapped w ending t) ≡ t
joined-wrapped w ending [] low is = rw (wrapped-empty w ending low) refl
joined-wrapped w ending (c ∷ t) low is = (lines_are w (wrapped w ending (c ∷ t)) (c ∷ t) low (wrapped_lines w ending (c ∷ t) low (omega arith) is)).is_joined

-- ---- one text

same_behind : (xs t u : List ℕ) → xs ++ t ≡ xs ++ u → t ≡ u
same_behind [] t u e = e
same_behind (x ∷ xs) t u e = same_behind xs t u (cc)

wrapped_from-injective : (w : ℕ) (ending : List ℕ) (n : ℕ) (t u : List ℕ) → wrapped_from w ending n t ≡ wrapped_from w ending n u → t ≡ u
wrapped_from-injective w ending n [] [] e = refl
wrapped_from-injective w ending zero [] (d ∷ u) e = absurd (omega (arith, ap length e, length-append ending (d ∷ wrapped_from w ending (w - 1) u)))
wrapped_from-injective w ending (suc n) [] (d ∷ u) e = absurd (cc)
wrapped_from-injective w ending zero (c ∷ t) [] e = absurd (omega (arith, ap length e, length-append ending (c ∷ wrapped_from w ending (w - 1) t)))
wrapped_from-injective w ending (suc n) (c ∷ t) [] e = absurd (cc)
wrapped_from-injective w ending zero (c ∷ t) (d ∷ u) e =
    let same = same_behind ending (c ∷ wrapped_from w ending (w - 1) t) (d ∷ wrapped_from w ending (w - 1) u) e in
    let first : c ≡ d = cc in
    let rest : wrapped_from w ending (w - 1) t ≡ wrapped_from w ending (w - 1) u = cc in
    let r = wrapped_from-injective w ending (w - 1) t u rest in
    cc
wrapped_from-injective w ending (suc n) (c ∷ t) (d ∷ u) e =
    let first : c ≡ d = cc in
    let rest : wrapped_from w ending n t ≡ wrapped_from w ending n u = cc in
    let r = wrapped_from-injective w ending n t u rest in
    cc

pub wrapped-injective : (w : ℕ) (ending : LineEnding) (t u : List ℕ) → 0 < w → wrapped w ending t ≡ wrapped w ending u → t ≡ u
wrapped-injective w ending t u low e =
    wrapped_from-injective w (ending_bytes ending) w t u (sym (wrapped-walk w ending t low) ∙ e ∙ wrapped-walk w ending u low)

-- ---- the loop that parts lines in place

-- a run of characters that fit into the line
take_run : (w : ℕ) (ending : List ℕ) (k n : ℕ) (t : List ℕ) → k ≤ n → k ≤ length t
    → wrapped_from w ending n t ≡ take k t ++ wrapped_from w ending (n - k) (drop k t)
take_run w ending zero n t fits long = let e : n - 0 ≡ n = omega arith in rw e refl
take_run w ending (suc k) zero t fits long = absurd (omega arith)
take_run w ending (suc k) (suc n) [] fits long = absurd (omega arith)
take_run w ending (suc k) (suc n) (c ∷ t) fits long =
    let e : suc n - suc k ≡ n - k = omega arith in
    rw e (ap (λ xs. c ∷ xs) (take_run w ending k n t (omega arith) (omega arith)))

left_run : (w k n : ℕ) (t : List ℕ) → k ≤ n → k ≤ length t → left_from w n t ≡ left_from w (n - k) (drop k t)
left_run w zero n t fits long = let e : n - 0 ≡ n = omega arith in rw e refl
left_run w (suc k) zero t fits long = absurd (omega arith)
left_run w (suc k) (suc n) [] fits long = absurd (omega arith)
left_run w (suc k) (suc n) (c ∷ t) fits long =
    let e : suc n - suc k ≡ n - k = omega arith in
    rw e (left_run w k n t (omega arith) (omega arith))

left_full : (w : ℕ) (t : List ℕ) → 0 < w → 0 < length t → left_from w 0 t ≡ left_from w w t
left_full w [] low some = absurd (omega arith)
left_full zero (c ∷ t) low some = absurd (omega arith)
left_full (suc w) (c ∷ t) low some = let e : suc w - 1 ≡ w = omega arith in rw e refl

-- what was written and the lines of the characters from `read` on are the whole text, whose last line takes `last`
-- more characters
pub record IsParted (w : ℕ) (ending whole : List ℕ) (last : ℕ) (out : List ℕ) (read written left : ℕ) : Type 0 where
  pub within : read ≤ length out
  pub room : written + length (wrapped_from w ending left (drop read out)) ≡ length out
  pub text : take written out ++ wrapped_from w ending left (drop read out) ≡ whole
  pub ends : left_from w left (drop read out) ≡ last

-- nothing is written above what was read
pub parted_low : (w : ℕ) (ending whole : List ℕ) (last : ℕ) (out : List ℕ) (read written left : ℕ) → IsParted w ending whole last out read written left
    → written ≤ read
parted_low w ending whole last out read written left p =
    let l = length-wrapped_from w ending left (drop read out) in
    let d : length (drop read out) ≡ length out - read = length-drop read out in
    let r = p.room in let i = p.within in omega arith

pub parted_ending : (w : ℕ) (ending whole : List ℕ) (last : ℕ) (out : List ℕ) (read written left : ℕ) → IsParted w ending whole last out read written left
    → 0 < w → left ≡ 0 → read < length out → written + length ending ≤ read
parted_ending w ending whole last out read written left p low full more =
    let d : length (drop read out) ≡ length out - read = length-drop read out in
    let e : length (wrapped_from w ending left (drop read out)) ≡ length (ending ++ wrapped_from w ending w (drop read out))
    = ap (λ n. length (wrapped_from w ending n (drop read out))) full ∙ ap length (full_line w ending (drop read out) low (omega arith)) in
    let l = length-append ending (wrapped_from w ending w (drop read out)) in
    let m = length-wrapped_from w ending w (drop read out) in
    let r = p.room in let i = p.within in omega arith

-- the ending behind a full line is written
pub parted_line : (w : ℕ) (ending whole : List ℕ) (last : ℕ) (out new : List ℕ) (read written left : ℕ) → IsParted w ending whole last out read written left
    → 0 < w → left ≡ 0 → read < length out → length new ≡ length out → take (written + length ending) new ≡ take written out ++ ending
    → drop read new ≡ drop read out
    → IsParted w ending whole last new read (written + length ending) w
parted_line w ending whole last out new read written left p low full more len front back =
    let d : length (drop read out) ≡ length out - read = length-drop read out in
    let e : wrapped_from w ending left (drop read out) ≡ ending ++ wrapped_from w ending w (drop read out)
    = ap (λ n. wrapped_from w ending n (drop read out)) full ∙ full_line w ending (drop read out) low (omega arith) in
    let l = length-append ending (wrapped_from w ending w (drop read out)) in
    record {
      within = (let i = p.within in omega arith);
      room = rw back (let r = p.room in let m = ap length e in omega arith);
      text = rw (front, back) (append_assoc (take written out) ending (wrapped_from w ending w (drop read out)) ∙ ap (λ xs. take written out ++ xs) (sym e)
          ∙ p.text);
      ends = rw back (sym (left_full w (drop read out) low (omega arith)) ∙ ap (λ n. left_from w n (drop read out)) (sym full) ∙ p.ends);
    }

-- a run of characters is moved
pub parted_run : (w : ℕ) (ending whole : List ℕ) (last : ℕ) (out new : List ℕ) (read written left run : ℕ) → IsParted w ending whole last out read written left
    → run ≤ left → read + run ≤ length out → length new ≡ length out
    → take (written + run) new ≡ take written out ++ take run (drop read out) → drop (read + run) new ≡ drop (read + run) out
    → IsParted w ending whole last new (read + run) (written + run) (left - run)
parted_run w ending whole last out new read written left run p fits more len front back =
    let d : length (drop read out) ≡ length out - read = length-drop read out in
    let behind : drop run (drop read out) ≡ drop (read + run) out = drop-drop run read out in
    let e : wrapped_from w ending left (drop read out) ≡ take run (drop read out) ++ wrapped_from w ending (left - run) (drop (read + run) out)
    = take_run w ending run left (drop read out) fits (omega arith) ∙ ap (λ xs. take run (drop read out) ++ wrapped_from w ending (left - run) xs) behind in
    let l = length-append (take run (drop read out)) (wrapped_from w ending (left - run) (drop (read + run) out)) in
    let k : length (take run (drop read out)) ≡ run = length-take-le run (drop read out) (omega arith) in
    record {
      within = omega arith;
      room = rw back (let r = p.room in let m = ap length e in omega arith);
      text = rw (front, back) (append_assoc (take written out) (take run (drop read out)) (wrapped_from w ending (left - run) (drop (read + run) out))
          ∙ ap (λ xs. take written out ++ xs) (sym e) ∙ p.text);
      ends = rw back (sym (left_run w run left (drop read out) fits (omega arith) ∙ ap (left_from w (left - run)) behind) ∙ p.ends);
    }

-- What stands ahead, and what may still come behind it.
use Rattle.std.proofs.Common.{◌≡◌, ℕ, ◌+◌, ◌-◌, ◌<◌, ◌≤◌, List, [], ◌∷◌, ◌++◌, length, take, drop, get_or, codes, decimal, None, Some, IfSome, refl, sym, ◌∙◌}
use Rattle.std.proofs.Common.{ap, subst, inl, inr, arith, append_assoc, length-append, length-drop, length-take, drop-cons, add-one}
use Rattle.std.proofs.lemmas.List.{get_or_append_left, get_or-drop, get_or-take, take-append-drop, take-append-le, append-nil, drop-drop}
use Rattle.std.proofs.lemmas.Grind.{common_steps}
use Rattle.std.specs.declared.option.Option.{Option}
use Rattle.std.specs.Io.KnownBytes.{Keeps, Consumes, IsAtEnd, prepend_known}
use Rattle.tool_script.specs.Request.{PlainRequest, first_line, behind_line, spelled, IsRequest, Names, NoEnd}
use Rattle.tool_script.specs.Request.PlainRequest.{Update, Bundle}
use Rattle.tool_script.specs.Line.{Says}
use Rattle.tool_script.specs.Script.{EndsAs, Starts, HasBlock}
use Rattle.tool_script.specs.declared.line.Form.{Form}
use Rattle.tool_script.specs.declared.line.Form.TheVariants as form
use Rattle.tool_script.specs.declared.line.Line.{Line}
use Rattle.tool_script.specs.declared.line.Line.TheVariants as says
use Rattle.tool_script.specs.declared.request.Ending.{Ending}
use Rattle.tool_script.specs.declared.request.Ending.TheVariants.{TooLong, BadScript}

-- a fact of the bytes ahead, whatever comes behind them, is one of the pending bytes
pub known_end : (ahead : List ℕ) (left : Option (List ℕ)) (count most : ℕ) (e : Ending) → ((more : List ℕ) → EndsAs count most (ahead ++ more) e)
    → IfSome (prepend_known ahead left) (λ bytes. EndsAs count most bytes e)
known_end ahead None count most e f = tt
known_end ahead (Some xs) count most e f = f xs

-- a fact of the bytes ahead is one of the pending bytes, where the source is at its end
pub known_at_end : (ahead : List ℕ) (left : Option (List ℕ)) (count most : ℕ) (e : Ending) → IsAtEnd left → EndsAs count most (ahead ++ []) e
    → IfSome (prepend_known ahead left) (λ bytes. EndsAs count most bytes e)
known_at_end ahead None count most e end f = tt
known_at_end ahead (Some xs) count most e end f = subst (λ (ys : List ℕ). EndsAs count most (ahead ++ ys) e) (sym end) f

-- what holds of the pending bytes after a reading held before it
pub kept_back : (old new : Option (List ℕ)) (count most : ℕ) (e : Ending) → Keeps old new → IfSome new (λ bytes. EndsAs count most bytes e)
    → IfSome old (λ bytes. EndsAs count most bytes e)
kept_back None new count most e k f = tt
kept_back (Some xs) None count most e k f = absurd k
kept_back (Some xs) (Some ys) count most e k f = subst (λ (zs : List ℕ). EndsAs count most zs e) k f

pub no_end_more : (a more : List ℕ) (n : ℕ) → n ≤ length a → NoEnd a n → NoEnd (a ++ more) n
no_end_more a more n fits h = record {
  none = λ k low _ here. let inside : k < length a = omega arith in
      h.none k low inside (sym (get_or_append_left a more 0 k inside) ∙ here);
}

-- a line stands ahead, whatever comes behind it
pub starts_more : (a more : List ℕ) (n : ℕ) (h : Line) → Starts a n h → Starts (a ++ more) n h
starts_more a more n h s =
    let low : n ≤ length a = omega (arith, s.fits) in
    record {
      fits = omega (arith, s.fits, length-append a more);
      short = s.short;
      one = no_end_more a more n low s.one;
      ended = get_or_append_left a more 0 n s.fits ∙ s.ended;
      is = subst (λ (l : List ℕ). Says l h) (sym (take-append-le n a more low)) s.is;
    }

pub starts_grown : (a b : List ℕ) (n : ℕ) (h : Line) → (more : List ℕ) × (b ≡ a ++ more) → Starts a n h → Starts b n h
starts_grown a b n h (more, e) s = subst (λ (ys : List ℕ). Starts ys n h) (sym e) (starts_more a more n h s)

-- a line's update is longer than the limit
pub too_long : (a : List ℕ) (left : Option (List ℕ)) (n size count most : ℕ) → Starts a n (says.Request (form.Update size)) → most < size
    → IfSome (prepend_known a left) (λ bytes. EndsAs count most bytes TooLong)
too_long a left n size count most s over = known_end a left count most TooLong
    (λ more. inr (size, (n, starts_more a more n (says.Request (form.Update size)) s), over))

-- there are too many requests before this line's
pub too_many : (a : List ℕ) (old left : Option (List ℕ)) (n count most : ℕ) (f : Form) → Starts a n (says.Request f) → 10000 ≤ count
    → Keeps old (prepend_known a left) → IfSome old (λ bytes. EndsAs count most bytes TooLong)
too_many a old left n count most f s many kept =
    kept_back old (prepend_known a left) count most TooLong kept
    (known_end a left count most TooLong (λ more. inl (many, (f, (n, starts_more a more n (says.Request f) s)))))

-- fewer bytes stand ahead than the update has
pub short_block : (a : List ℕ) (n size : ℕ) → length a < n + size + 2 → HasBlock size (drop (n + 1) a) → ⊥
short_block a n size few has = omega (arith, has.0, length-drop (n + 1) a)

-- the byte behind the update's text isn't a line's end
pub wrong_block : (a more : List ℕ) (n size : ℕ) → n + size + 2 ≤ length a → (get_or a (n + size + 2 - 1) 0 ≡ 10 → ⊥)
    → HasBlock size (drop (n + 1) (a ++ more)) → ⊥
wrong_block a more n size fits wrong has =
    let place : n + 1 + size ≡ n + size + 2 - 1 = omega arith in
    let low : n + 1 + size < length a = omega arith in
    let there : get_or (a ++ more) (n + 1 + size) 0 ≡ 10 = sym (get_or-drop (n + 1) (a ++ more) size 0) ∙ has.1 in
    wrong (ap (λ i. get_or a i 0) (sym place) ∙ sym (get_or_append_left a more 0 (n + 1 + size) low) ∙ there)

pub cut_ahead : (a b : List ℕ) (n size count most : ℕ) → (more : List ℕ) × (b ≡ a ++ more) → Starts a n (says.Request (form.Update size)) → count < 10000
    → size ≤ most → length b < n + size + 2 → EndsAs count most b BadScript
cut_ahead a b n size count most grows s free small few =
    inr (inr (record {
      few = free;
      n = n;
      size = size;
      small = small;
      starts = starts_grown a b n (says.Request (form.Update size)) grows s;
      missing =
          short_block b n size few;
    }))

pub cut_at_end : (a b : List ℕ) (old left : Option (List ℕ)) (n size count most : ℕ) → (more : List ℕ) × (b ≡ a ++ more)
    → Starts a n (says.Request (form.Update size)) → count < 10000 → size ≤ most → length b < n + size + 2 → IsAtEnd left
    → Keeps old (prepend_known b left) → IfSome old (λ bytes. EndsAs count most bytes BadScript)
cut_at_end a b old left n size count most (more, e) s free small few end kept =
    kept_back old (prepend_known b left) count most BadScript kept (known_at_end b left count most BadScript end
    (cut_ahead a (b ++ []) n size count most (more, rw (append-nil b) e) s free small (omega (arith, ap length (append-nil b)))))

pub cut_wrong : (a b : List ℕ) (old left : Option (List ℕ)) (n size count most : ℕ) → (more : List ℕ) × (b ≡ a ++ more)
    → Starts a n (says.Request (form.Update size)) → count < 10000 → size ≤ most → n + size + 2 ≤ length b
    → (get_or b (n + size + 2 - 1) 0 ≡ 10 → ⊥) → Keeps old (prepend_known b left) → IfSome old (λ bytes. EndsAs count most bytes BadScript)
cut_wrong a b old left n size count most grows s free small fits wrong kept =
    let t : Starts b n (says.Request (form.Update size)) = starts_grown a b n (says.Request (form.Update size)) grows s in
    kept_back old (prepend_known b left) count most BadScript kept (known_end b left count most BadScript
    (λ rest. inr (inr (record {
      few = free;
      n = n;
      size = size;
      small = small;
      starts = starts_more b rest n (says.Request (form.Update size)) t;
      missing =
          wrong_block b rest n size fits wrong;
    }))))

-- a list around one place
pub around : (xs : List ℕ) (n : ℕ) → n < length xs → xs ≡ take n xs ++ get_or xs n 0 ∷ drop (n + 1) xs
around xs n low = sym (take-append-drop n xs) ∙ ap (λ ys. take n xs ++ ys) (drop-cons xs n 0 low ∙ ap (λ k. get_or xs n 0 ∷ drop k xs) (sym (add-one n)))

-- a line and what stands behind its end
pub parted : (b : List ℕ) (n : ℕ) (h : Line) → Starts b n h → b ≡ take n b ++ 10 ∷ drop (n + 1) b
parted b n h s = around b n s.fits ∙ ap (λ x. take n b ++ x ∷ drop (n + 1) b) s.ended

pub spelled_more : (q : PlainRequest) (more : List ℕ) → spelled q ++ more ≡ first_line q ++ 10 ∷ (behind_line q ++ more)
spelled_more q more = append_assoc (first_line q) (10 ∷ behind_line q) more

-- a request of this line stands ahead, and nothing of it behind the line
pub line_spelled : (b : List ℕ) (n : ℕ) (h : Line) (q : PlainRequest) → Starts b n h → take n b ≡ first_line q → behind_line q ≡ []
    → b ≡ spelled q ++ drop (n + 1) b
line_spelled b n h q s line empty =
    parted b n h s ∙ (ap (λ l. l ++ 10 ∷ drop (n + 1) b) line
    ∙ (ap (λ l. first_line q ++ 10 ∷ (l ++ drop (n + 1) b)) (sym empty) ∙ sym (spelled_more q (drop (n + 1) b))))

-- a name that stands in a line is a query's
pub bundle_lawful : (b : List ℕ) (n : ℕ) (h : Line) (name domain : List ℕ) → Starts b n h → take n b ≡ codes "bundle " ++ name → Names name domain
    → IsRequest (Bundle name domain)
bundle_lawful b n h name domain s line names =
    let size : length (take n b) ≡ length name + 7 = ap length line ∙ omega (arith, length-append (codes "bundle ") name) in
    let fits : length name + 7 ≤ n = omega (arith, length-take n b) in (
      names,
      record {
        none = λ k low _ here.
            let within : 7 + k < n = omega arith in
            let inside : 7 + k < length b = omega (arith, s.fits) in
            s.one.none (7 + k) within inside (sym (get_or-take n b (7 + k) 0 within)
            ∙ (ap (λ l. get_or l (7 + k) 0) line ∙ (sym (get_or-drop 7 (codes "bundle " ++ name) k 0) ∙ here)));
      },
      omega (arith, s.short),
    )

-- a whole update stands ahead
pub block_spelled : (b text : List ℕ) (n size : ℕ) → Starts b n (says.Request (form.Update size)) → n + size + 2 ≤ length b
    → get_or b (n + size + 2 - 1) 0 ≡ 10 → text ≡ take size (drop (n + 1) b)
    → b ≡ spelled (Update text) ++ drop (n + size + 2) b
block_spelled b text n size s fits last is =
    let room : size < length (drop (n + 1) b) = omega (arith, length-drop (n + 1) b) in
    let many : length text ≡ size = ap length is ∙ length-take size (drop (n + 1) b) ∙ omega arith in
    let line : take n b ≡ codes "update " ++ decimal (length text) = s.is.0 ∙ ap (λ m. codes "update " ++ decimal m) (sym many) in
    let place : n + 1 + size ≡ n + size + 2 - 1 = omega arith in
    let byte : get_or (drop (n + 1) b) size 0 ≡ 10 = get_or-drop (n + 1) b size 0 ∙ ap (λ i. get_or b i 0) place ∙ last in
    let far : drop (size + 1) (drop (n + 1) b) ≡ drop (n + size + 2) b = drop-drop (size + 1) (n + 1) b ∙ ap (λ i. drop i b) (omega arith) in
    let behind : drop (n + 1) b ≡ text ++ 10 ∷ drop (n + size + 2) b =
    around (drop (n + 1) b) size room ∙ ap (λ x. take size (drop (n + 1) b) ++ x ∷ drop (size + 1) (drop (n + 1) b)) byte
    ∙ ap (λ ys. take size (drop (n + 1) b) ++ 10 ∷ ys) far ∙ ap (λ ys. ys ++ 10 ∷ drop (n + size + 2) b) (sym is) in
    let joined : text ++ 10 ∷ drop (n + size + 2) b ≡ (text ++ 10 ∷ []) ++ drop (n + size + 2) b = sym (append_assoc text (10 ∷ []) (drop (n + size + 2) b)) in
    parted b n (says.Request (form.Update size)) s ∙ ap (λ l. l ++ 10 ∷ drop (n + 1) b) line
    ∙ ap (λ ys. (codes "update " ++ decimal (length text)) ++ 10 ∷ ys) (behind ∙ joined)
    ∙ sym (spelled_more (Update text) (drop (n + size + 2) b))

-- a first part of the pending bytes is taken
pub taken_off : (b pre rest : List ℕ) (old left : Option (List ℕ)) → Keeps old (prepend_known b left) → b ≡ pre ++ rest
    → Consumes old (prepend_known rest left) pre
taken_off b pre rest None left k e = tt
taken_off b pre rest (Some xs) None k e = absurd k
taken_off b pre rest (Some xs) (Some ys) k e = grind (arith, common_steps, k, e)

-- a line that is no request stands ahead
pub no_request : (a : List ℕ) (old left : Option (List ℕ)) (n count most : ℕ) → Starts a n says.Other → Keeps old (prepend_known a left)
    → IfSome old (λ bytes. EndsAs count most bytes BadScript)
no_request a old left n count most s kept =
    kept_back old (prepend_known a left) count most BadScript kept
    (known_end a left count most BadScript (λ more. inr (inl (n, starts_more a more n says.Other s))))

taken_here : (b pre rest : List ℕ) (left : Option (List ℕ)) → b ≡ pre ++ rest → Consumes (prepend_known b left) (prepend_known rest left) pre
taken_here b pre rest None e = tt
taken_here b pre rest (Some ys) e = grind (arith, common_steps, e)

-- a query for the keys of a trust domain is taken
pub bundle_taken : (b rest : List ℕ) (left : Option (List ℕ)) (n : ℕ) (domain : List ℕ) → Starts b n (says.Request (form.Bundle domain)) → rest ≡ drop (n + 1) b
    → (name : List ℕ) × Consumes (prepend_known b left) (prepend_known rest left) (spelled (Bundle name domain)) × IsRequest (Bundle name domain)
bundle_taken b rest left n domain s is =
    let whole : b ≡ spelled (Bundle s.is.0 domain) ++ rest =
    line_spelled b n (says.Request (form.Bundle domain)) (Bundle s.is.0 domain) s s.is.1 refl ∙ ap (λ l. spelled (Bundle s.is.0 domain) ++ l) (sym is) in
    (s.is.0, taken_here b (spelled (Bundle s.is.0 domain)) rest left whole, bundle_lawful b n (says.Request (form.Bundle domain)) s.is.0 domain s s.is.1 s.is.2)

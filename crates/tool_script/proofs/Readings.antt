-- A script has one reading.
use Rattle.std.proofs.Common.{◌≡◌, ℕ, ◌+◌, ◌%◌, ◌<◌, ◌≤◌, ◌^◌, suc, List, [], ◌∷◌, ◌++◌, length, take, drop, get_or, codes, decimal, flat_map, All, refl, sym}
use Rattle.std.proofs.Common.{◌∙◌, ap, subst, inl, inr, arith, append_assoc, length-append, Result, Ok, Err}
use Rattle.std.proofs.lemmas.List.{get_or-take, length-take, append-nil}
use Rattle.std.proofs.lemmas.List.Elements.{All-head, All-tail}
use Rattle.std.proofs.lemmas.Fmt.{decimal_by_steps, decimal_injective, length-decimal-le}
use Rattle.std.proofs.Math.Seq.{get_or-append_seam}
use Rattle.spiffe_id.specs.declared.error.SpiffeIdError.{SpiffeIdError}
use Rattle.tool_script.specs.Request.{PlainRequest, first_line, behind_line, spelled, text_size, IsRequest, Names, NoEnd}
use Rattle.tool_script.specs.Request.PlainRequest.{Update, Svid, Bundle}
use Rattle.tool_script.specs.Line.{Says, Tells}
use Rattle.tool_script.specs.Script.{EndsAs, Starts, HasBlock, HaveRoom, HaveOneReading, LeadTheRequests}
use Rattle.tool_script.specs.declared.line.Form.{Form}
use Rattle.tool_script.specs.declared.line.Form.TheVariants as form
use Rattle.tool_script.specs.declared.line.Line.{Line}
use Rattle.tool_script.specs.declared.line.Line.TheVariants as says
use Rattle.tool_script.specs.declared.request.Ending.{Ending}
use Rattle.tool_script.specs.declared.request.Ending.TheVariants.{Done, TooLong, BadScript}
use Rattle.tool_script.proofs.Pending.{around, spelled_more}

-- no byte is a line's end
abbrev Clean : List ℕ → Type 0
Clean [] = Unit {0}
Clean (x ∷ xs) = (x ≡ 10 → ⊥) × Clean xs

clean_append : (xs ys : List ℕ) → Clean xs → Clean ys → Clean (xs ++ ys)
clean_append [] ys p q = q
clean_append (x ∷ xs) ys p q = (p.0, clean_append xs ys p.1 q)

clean_from : (xs : List ℕ) → ((k : ℕ) → k < length xs → get_or xs k 0 ≡ 10 → ⊥) → Clean xs
clean_from [] f = tt
clean_from (x ∷ xs) f = (f 0 (omega arith), clean_from xs (λ k low. f (suc k) (omega arith)))

clean_decimal : (n : ℕ) → n < 2 ^ 64 → Clean (decimal n)
clean_decimal n small = decimal_by_steps (λ n ds. Clean ds) (λ n low. (λ e. omega arith, tt))
    (λ n ds low h. clean_append ds ((48 + n % 10) ∷ []) h (λ e. omega arith, tt)) n small

-- a list is cut at its first line's end in one way
cut_once : (xs ys us vs : List ℕ) → Clean xs → Clean ys → xs ++ 10 ∷ us ≡ ys ++ 10 ∷ vs → (xs ≡ ys) × (us ≡ vs)
cut_once [] [] us vs p q e = (refl, ap (drop 1) e)
cut_once [] (y ∷ ys) us vs p q e = absurd (q.0 (sym (ap (λ l. get_or l 0 0) e)))
cut_once (x ∷ xs) [] us vs p q e = absurd (p.0 (ap (λ l. get_or l 0 0) e))
cut_once (x ∷ xs) (y ∷ ys) us vs p q e =
    let h = cut_once xs ys us vs p.1 q.1 (ap (drop 1) e) in
    (ap (λ l. x ∷ l) h.0 ∙ ap (λ z. z ∷ ys) (ap (λ l. get_or l 0 0) e), h.1)

-- two lists of one length before the rest
pieces_once : (xs ys us vs : List ℕ) → length xs ≡ length ys → xs ++ us ≡ ys ++ vs → (xs ≡ ys) × (us ≡ vs)
pieces_once [] [] us vs l e = (refl, e)
pieces_once [] (y ∷ ys) us vs l e = absurd (omega arith)
pieces_once (x ∷ xs) [] us vs l e = absurd (omega arith)
pieces_once (x ∷ xs) (y ∷ ys) us vs l e =
    let h = pieces_once xs ys us vs (omega arith) (ap (drop 1) e) in
    (ap (λ l. x ∷ l) h.0 ∙ ap (λ z. z ∷ ys) (ap (λ l. get_or l 0 0) e), h.1)

-- what stands behind a request's line, and behind the request
abbrev behind : PlainRequest → List ℕ → List ℕ
behind (Update text) more = text ++ 10 ∷ more
behind Svid more = more
behind (Bundle name domain) more = more

behind_is : (q : PlainRequest) (more : List ℕ) → behind_line q ++ more ≡ behind q more
behind_is (Update text) more = append_assoc text (10 ∷ []) more
behind_is Svid more = refl
behind_is (Bundle name domain) more = refl

spelled_behind : (q : PlainRequest) (more : List ℕ) → spelled q ++ more ≡ first_line q ++ 10 ∷ behind q more
spelled_behind q more = spelled_more q more ∙ ap (λ l. first_line q ++ 10 ∷ l) (behind_is q more)

clean_update : Clean (codes "update ")
clean_update = (λ e. omega arith, (λ e. omega arith, (λ e. omega arith, (λ e. omega arith, (λ e. omega arith, (λ e. omega arith, (λ e. omega arith, tt)))))))

clean_bundle : Clean (codes "bundle ")
clean_bundle = (λ e. omega arith, (λ e. omega arith, (λ e. omega arith, (λ e. omega arith, (λ e. omega arith, (λ e. omega arith, (λ e. omega arith, tt)))))))

clean_line : (q : PlainRequest) → IsRequest q → Clean (first_line q)
clean_line (Update text) small = clean_append (codes "update ") (decimal (length text)) clean_update (clean_decimal (length text) (omega arith))
clean_line Svid small = (λ e. omega arith, (λ e. omega arith, (λ e. omega arith, (λ e. omega arith, tt))))
clean_line (Bundle name domain) lawful = clean_append (codes "bundle ") name clean_bundle (clean_from name (λ k low ten. lawful.1.none k low low ten))

-- two updates have one line only where they have one length
one_size : (m n : ℕ) → m < 2 ^ 64 → n < 2 ^ 64 → codes "update " ++ decimal m ≡ codes "update " ++ decimal n → m ≡ n
one_size m n small less e = decimal_injective m n small less (ap (drop 7) e)

abbrev value_of : Result (List ℕ) SpiffeIdError → List ℕ
value_of (Ok domain) = domain
value_of (Err error) = []

-- a name is one of one trust domain
one_domain : (m n d e : List ℕ) → codes "bundle " ++ m ≡ codes "bundle " ++ n → Names m d → Names n e → (m ≡ n) × (d ≡ e)
one_domain m n d e line p q =
    let same : m ≡ n = ap (drop 7) line in
    let names : Names n d = subst (λ (l : List ℕ). Names l d) same p in
    (same, ap value_of (sym names.1 ∙ q.1))

update_svid : (xs : List ℕ) → codes "update " ++ xs ≡ codes "svid" → ⊥
update_svid xs l = let e : 117 ≡ 115 = ap (λ x. get_or x 0 0) l in omega (arith, e)

update_bundle : (xs ys : List ℕ) → codes "update " ++ xs ≡ codes "bundle " ++ ys → ⊥
update_bundle xs ys l = let e : 117 ≡ 98 = ap (λ x. get_or x 0 0) l in omega (arith, e)

svid_bundle : (ys : List ℕ) → codes "svid" ≡ codes "bundle " ++ ys → ⊥
svid_bundle ys l = let e : 115 ≡ 98 = ap (λ x. get_or x 0 0) l in omega (arith, e)

same_request : (q r : PlainRequest) (us vs : List ℕ) → IsRequest q → IsRequest r → first_line q ≡ first_line r → behind q us ≡ behind r vs → (q ≡ r) × (us ≡ vs)
same_request (Update xs) (Update ys) us vs p s l b =
    let size : length xs ≡ length ys = one_size (length xs) (length ys) (omega arith) (omega arith) l in
    let h = pieces_once xs ys (10 ∷ us) (10 ∷ vs) size b in
    (ap (λ x. Update x) h.0, ap (drop 1) h.1)
same_request (Update xs) Svid us vs p s l b = absurd (update_svid (decimal (length xs)) l)
same_request (Update xs) (Bundle name domain) us vs p s l b = absurd (update_bundle (decimal (length xs)) name l)
same_request Svid (Update ys) us vs p s l b = absurd (update_svid (decimal (length ys)) (sym l))
same_request Svid Svid us vs p s l b = (refl, b)
same_request Svid (Bundle name domain) us vs p s l b = absurd (svid_bundle name l)
same_request (Bundle name domain) (Update ys) us vs p s l b = absurd (update_bundle (decimal (length ys)) name (sym l))
same_request (Bundle name domain) Svid us vs p s l b = absurd (svid_bundle name (sym l))
same_request (Bundle name domain) (Bundle other place) us vs p s l b =
    let h = one_domain name other domain place l p.0 s.0 in
    (ap (λ n. Bundle n domain) h.0 ∙ ap (λ d. Bundle other d) h.1, b)

-- the first request is one
spelled_once : (q r : PlainRequest) (us vs : List ℕ) → IsRequest q → IsRequest r → spelled q ++ us ≡ spelled r ++ vs → (q ≡ r) × (us ≡ vs)
spelled_once q r us vs p s e =
    let h = cut_once (first_line q) (first_line r) (behind q us) (behind r vs) (clean_line q p) (clean_line r s)
    (sym (spelled_behind q us) ∙ e ∙ spelled_behind r vs) in
    same_request q r us vs p s h.0 h.1

-- a line that stands before the script's rest is the request's
line_first : (bytes : List ℕ) (n : ℕ) (h : Line) (q : PlainRequest) (more : List ℕ) → IsRequest q → bytes ≡ spelled q ++ more → Starts bytes n h
    → (take n bytes ≡ first_line q) × (drop (n + 1) bytes ≡ behind q more)
line_first bytes n h q more p e s =
    let clean : Clean (take n bytes) = clean_from (take n bytes) (λ k low ten.
    let within : k < n = omega (arith, length-take n bytes) in
    let inside : k < length bytes = omega (arith, length-take n bytes) in
    s.one.none k within inside (sym (get_or-take n bytes k 0 within) ∙ ten)) in
    cut_once (take n bytes) (first_line q) (drop (n + 1) bytes) (behind q more) clean (clean_line q p)
    (ap (λ x. take n bytes ++ x ∷ drop (n + 1) bytes) (sym s.ended) ∙ sym (around bytes n s.fits) ∙ e ∙ spelled_behind q more)

not_end : (q : PlainRequest) → codes "end" ≡ first_line q → ⊥
not_end (Update text) e = let f : 101 ≡ 117 = ap (λ x. get_or x 0 0) e in omega (arith, f)
not_end Svid e = let f : 101 ≡ 115 = ap (λ x. get_or x 0 0) e in omega (arith, f)
not_end (Bundle name domain) e = let f : 101 ≡ 98 = ap (λ x. get_or x 0 0) e in omega (arith, f)

not_over : (q : PlainRequest) (size most : ℕ) → IsRequest q → text_size q ≤ most → size < 2 ^ 64 → codes "update " ++ decimal size ≡ first_line q
    → most < size → ⊥
not_over (Update text) size most p fits small e over = let same : size ≡ length text = one_size size (length text) small (omega arith) e in omega arith
not_over Svid size most p fits small e over = update_svid (decimal size) e
not_over (Bundle name domain) size most p fits small e over = update_bundle (decimal size) name e

not_other : (q : PlainRequest) (line : List ℕ) → IsRequest q → line ≡ first_line q → Says line says.Other → ⊥
not_other (Update text) line p e other = other.1 (form.Update (length text)) (e, omega arith)
not_other Svid line p e other = other.1 form.Svid e
not_other (Bundle name domain) line p e other = other.1 (form.Bundle domain) (name, e, p.0)

not_cut : (q : PlainRequest) (size : ℕ) (rest more : List ℕ) → IsRequest q → size < 2 ^ 64 → codes "update " ++ decimal size ≡ first_line q
    → rest ≡ behind q more → HasBlock size rest
not_cut (Update text) size rest more p small e b =
    let same : size ≡ length text = one_size size (length text) small (omega arith) e in (
      omega (arith, ap length b, length-append text (10 ∷ more)),
      ap (λ i. get_or rest i 0) same ∙ ap (λ x. get_or x (length text) 0) b
          ∙ get_or-append_seam text 10 more 0,
    )
not_cut Svid size rest more p small e b = absurd (update_svid (decimal size) e)
not_cut (Bundle name domain) size rest more p small e b = absurd (update_bundle (decimal size) name e)

short_line : (q : PlainRequest) → IsRequest q → length (first_line q) < 4097
short_line (Update text) p = omega (
  arith,
  length-append (codes "update ") (decimal (length text)),
  length-decimal-le 20 (length text) (omega arith)
      (omega arith) (omega arith),
)
short_line Svid p = omega arith
short_line (Bundle name domain) p = omega (arith, p.2, length-append (codes "bundle ") name)

-- no script ends where a whole request stands
goes_on : (count most : ℕ) (bytes : List ℕ) (e : Ending) (q : PlainRequest) (more : List ℕ) → IsRequest q → count < 10000 → text_size q ≤ most
    → bytes ≡ spelled q ++ more → EndsAs count most bytes e → ⊥
goes_on count most bytes Done q more p few fits is (n, s) = not_end q (sym s.is ∙ (line_first bytes n says.End q more p is s).0)
goes_on count most bytes TooLong q more p few fits is (inl (many, other)) = omega arith
goes_on count most bytes TooLong q more p few fits is (inr (size, (n, s), over)) =
    not_over q size most p fits s.is.1 (sym s.is.0 ∙ (line_first bytes n (says.Request (form.Update size)) q more p is s).0) over
goes_on count most bytes BadScript q more p few fits is (inl none) =
    let line : bytes ≡ first_line q ++ 10 ∷ behind q more = is ∙ spelled_behind q more in
    none.none (length (first_line q)) (short_line q p) (omega (arith, ap length line, length-append (first_line q) (10 ∷ behind q more)))
    (ap (λ x. get_or x (length (first_line q)) 0) line ∙ get_or-append_seam (first_line q) 10 (behind q more) 0)
goes_on count most bytes BadScript q more p few fits is (inr (inl (n, s))) = not_other q (take n bytes) p (line_first bytes n says.Other q more p is s).0 s.is
goes_on count most bytes BadScript q more p few fits is (inr (inr cut)) =
    let h = line_first bytes cut.n (says.Request (form.Update cut.size)) q more p is cut.starts in
    cut.missing (not_cut q cut.size (drop (cut.n + 1) bytes) more p cut.starts.is.1 (sym cut.starts.is.0 ∙ h.0) h.1)

-- whole requests ps at the front of a script are the first ones of its requests rs, where both stand behind the same requests
front_first : (room : List PlainRequest → ℕ) (all before ps rs : List PlainRequest) (us rest : List ℕ) (e : Ending) → all ≡ before ++ rs
    → flat_map spelled ps ++ us ≡ flat_map spelled rs ++ rest
    → All IsRequest ps → All IsRequest rs → length before + length ps ≤ 10000 → HaveRoom room before ps → EndsAs (length all) (room all) rest e
    → (more : List PlainRequest) × (rs ≡ ps ++ more)
front_first room all before [] rs us rest e whole is lawful law few fit ends = (rs, refl)
front_first room all before (p ∷ ps) [] us rest e whole is lawful law few fit ends =
    let same : all ≡ before = whole ∙ append-nil before in
    absurd (goes_on (length all) (room all) rest e p (flat_map spelled ps ++ us) (All-head IsRequest p ps lawful) (omega (arith, ap length same))
    (omega (arith, ap room same, fit.0)) (sym is ∙ append_assoc (spelled p) (flat_map spelled ps) us) ends)
front_first room all before (p ∷ ps) (r ∷ rs) us rest e whole is lawful law few fit ends =
    let h = spelled_once p r (flat_map spelled ps ++ us) (flat_map spelled rs ++ rest) (All-head IsRequest p ps lawful) (All-head IsRequest r rs law)
    (sym (append_assoc (spelled p) (flat_map spelled ps) us) ∙ is ∙ append_assoc (spelled r) (flat_map spelled rs) rest) in
    let behind_both : all ≡ (before ++ p ∷ []) ++ rs = whole ∙ ap (λ q. before ++ q ∷ rs) (sym h.0) ∙ sym (append_assoc before (p ∷ []) rs) in
    let next = front_first room all (before ++ p ∷ []) ps rs us rest e behind_both h.1 (All-tail IsRequest p ps lawful) (All-tail IsRequest r rs law)
    (omega (arith, length-append before (p ∷ []))) fit.1 ends in
    (next.0, ap (λ x. r ∷ x) next.1 ∙ ap (λ q. q ∷ (ps ++ next.0)) (sym h.0))

pub lead_the_requests : LeadTheRequests
lead_the_requests room bytes first requests e p s =
    front_first room requests [] first requests p.rest s.front.rest e refl (sym p.whole ∙ s.front.whole) p.lawful s.front.lawful (omega (arith, p.few))
    p.fit s.ends

-- one line says one thing
forms_once : (line : List ℕ) (f g : Form) → Tells line f → Tells line g → f ≡ g
forms_once line form.Svid form.Svid p q = refl
forms_once line form.Svid (form.Bundle d) p q = absurd (svid_bundle q.0 (sym p ∙ q.1))
forms_once line form.Svid (form.Update n) p q = absurd (update_svid (decimal n) (sym q.0 ∙ p))
forms_once line (form.Bundle d) form.Svid p q = absurd (svid_bundle p.0 (sym q ∙ p.1))
forms_once line (form.Bundle d) (form.Bundle e) p q = ap (λ x. form.Bundle x) (one_domain p.0 q.0 d e (sym p.1 ∙ q.1) p.2 q.2).1
forms_once line (form.Bundle d) (form.Update n) p q = absurd (update_bundle (decimal n) p.0 (sym q.0 ∙ p.1))
forms_once line (form.Update n) form.Svid p q = absurd (update_svid (decimal n) (sym p.0 ∙ q))
forms_once line (form.Update n) (form.Bundle d) p q = absurd (update_bundle (decimal n) q.0 (sym p.0 ∙ q.1))
forms_once line (form.Update m) (form.Update n) p q = ap (λ x. form.Update x) (one_size m n p.1 q.1 (sym p.0 ∙ q.0))

end_alone : (line : List ℕ) (f : Form) → line ≡ codes "end" → Tells line f → ⊥
end_alone line form.Svid p q = let f : 101 ≡ 115 = ap (λ x. get_or x 0 0) (sym p ∙ q) in omega (arith, f)
end_alone line (form.Bundle d) p q = let f : 101 ≡ 98 = ap (λ x. get_or x 0 0) (sym p ∙ q.1) in omega (arith, f)
end_alone line (form.Update n) p q = let f : 101 ≡ 117 = ap (λ x. get_or x 0 0) (sym p ∙ q.0) in omega (arith, f)

says_once : (line : List ℕ) (g h : Line) → Says line g → Says line h → g ≡ h
says_once line says.End says.End p q = refl
says_once line says.End (says.Request f) p q = absurd (end_alone line f p q)
says_once line says.End says.Other p q = absurd (q.0 p)
says_once line (says.Request f) says.End p q = absurd (end_alone line f q p)
says_once line (says.Request f) (says.Request g) p q = ap (λ x. says.Request x) (forms_once line f g p q)
says_once line (says.Request f) says.Other p q = absurd (q.1 f p)
says_once line says.Other says.End p q = absurd (p.0 q)
says_once line says.Other (says.Request f) p q = absurd (p.1 f q)
says_once line says.Other says.Other p q = refl

-- the first line is one
starts_once : (bytes : List ℕ) (m n : ℕ) (g h : Line) → Starts bytes m g → Starts bytes n h → g ≡ h
starts_once bytes m n g h p q =
    let low : m < n → ⊥ = λ l. q.one.none m l p.fits p.ended in
    let high : n < m → ⊥ = λ l. p.one.none n l q.fits q.ended in
    let same : m ≡ n = omega arith in
    says_once (take n bytes) g h (subst (λ (k : ℕ). Says (take k bytes) g) same p.is) q.is

no_line : (bytes : List ℕ) (n : ℕ) (h : Line) → NoEnd bytes 4097 → Starts bytes n h → ⊥
no_line bytes n h none s = none.none n (omega (arith, s.short)) s.fits s.ended

abbrev update_size : Line → ℕ
update_size (says.Request (form.Update size)) = size
update_size (says.Request form.Svid) = 0
update_size (says.Request (form.Bundle d)) = 0
update_size says.End = 0
update_size says.Other = 0

done_alone : (count most : ℕ) (bytes : List ℕ) (f : Ending) → EndsAs count most bytes Done → EndsAs count most bytes f → Done ≡ f
done_alone count most bytes Done p q = refl
done_alone count most bytes TooLong (m, p) (inl (many, (f, (n, q)))) = absurd (cc (starts_once bytes m n says.End (says.Request f) p q))
done_alone count most bytes TooLong (m, p) (inr (size, (n, q), over)) = absurd (cc (starts_once bytes m n says.End (says.Request (form.Update size)) p q))
done_alone count most bytes BadScript (m, p) (inl none) = absurd (no_line bytes m says.End none p)
done_alone count most bytes BadScript (m, p) (inr (inl (n, q))) = absurd (cc (starts_once bytes m n says.End says.Other p q))
done_alone count most bytes BadScript (m, p) (inr (inr cut)) =
    absurd (cc (starts_once bytes m cut.n says.End (says.Request (form.Update cut.size)) p cut.starts))

long_alone : (count most : ℕ) (bytes : List ℕ) → EndsAs count most bytes TooLong → EndsAs count most bytes BadScript → TooLong ≡ BadScript
long_alone count most bytes (inl (many, (f, (m, p)))) (inl none) = absurd (no_line bytes m (says.Request f) none p)
long_alone count most bytes (inl (many, (f, (m, p)))) (inr (inl (n, q))) = absurd (cc (starts_once bytes m n (says.Request f) says.Other p q))
long_alone count most bytes (inl (many, (f, (m, p)))) (inr (inr cut)) = absurd (omega (arith, cut.few))
long_alone count most bytes (inr (size, (m, p), over)) (inl none) = absurd (no_line bytes m (says.Request (form.Update size)) none p)
long_alone count most bytes (inr (size, (m, p), over)) (inr (inl (n, q))) = absurd (cc (starts_once bytes m n (says.Request (form.Update size)) says.Other p q))
long_alone count most bytes (inr (size, (m, p), over)) (inr (inr cut)) =
    let sizes : size ≡ cut.size = ap update_size (starts_once bytes m cut.n (says.Request (form.Update size)) (says.Request (form.Update cut.size)) p
    cut.starts) in
    absurd (omega (arith, cut.small))

-- the rest of a script has one ending
ends_once : (count most : ℕ) (bytes : List ℕ) (e f : Ending) → EndsAs count most bytes e → EndsAs count most bytes f → e ≡ f
ends_once count most bytes Done f p q = done_alone count most bytes f p q
ends_once count most bytes TooLong Done p q = sym (done_alone count most bytes TooLong q p)
ends_once count most bytes TooLong TooLong p q = refl
ends_once count most bytes TooLong BadScript p q = long_alone count most bytes p q
ends_once count most bytes BadScript Done p q = sym (done_alone count most bytes BadScript q p)
ends_once count most bytes BadScript TooLong p q = sym (long_alone count most bytes q p)
ends_once count most bytes BadScript BadScript p q = refl

nothing_more : (xs ys us : List PlainRequest) → ys ≡ xs ++ us → length ys ≤ length xs → xs ≡ ys
nothing_more xs ys [] p l = sym (p ∙ append-nil xs)
nothing_more xs ys (u ∷ us) p l = absurd (omega (arith, ap length p, length-append xs (u ∷ us)))

pub have_one_reading : HaveOneReading
have_one_reading room bytes rs others e f p q =
    let there = lead_the_requests room bytes rs others f p.front q in
    let back = lead_the_requests room bytes others rs e q.front p in
    let same : rs ≡ others = nothing_more rs others there.0 there.1 (omega (arith, ap length back.1, length-append others back.0)) in
    let rests : flat_map spelled rs ++ q.front.rest ≡ flat_map spelled rs ++ p.front.rest = ap (λ l. flat_map spelled l ++ q.front.rest) same
    ∙ sym q.front.whole ∙ p.front.whole in
    let rest : q.front.rest ≡ p.front.rest = (pieces_once (flat_map spelled rs) (flat_map spelled rs) q.front.rest p.front.rest refl rests).1 in
    let ends : EndsAs (length others) (room others) p.front.rest f = subst (λ (l : List ℕ). EndsAs (length others) (room others) l f) rest q.ends in (
      same,
      ends_once (length rs) (room rs) p.front.rest e f p.ends
          (subst (λ (l : List PlainRequest). EndsAs (length l) (room l) p.front.rest f) (sym same) ends),
    )

-- The update that `make` makes.
use Rattle.std.proofs.Common.{◌≡◌, ℕ, ◌+◌, ◌-◌, ◌<◌, ◌≤◌, zero, suc, nat_lt, nat_eq, Bool, true, false, cond, ◌||◌, List, [], ◌∷◌, ◌++◌, Result, Ok, Err, IfOk}
use Rattle.std.proofs.Common.{Some, None, length, map, codes, decimal, string_bytes, refl, sym, ap, ◌∙◌, subst, arith, append_assoc, append-nil, length-append}
use Rattle.std.proofs.Common.{add-one}
use Rattle.std.specs.List.{repeat}
use Rattle.std.specs.Io.KnownBytes.{Appends}
use Rattle.base64ct.specs.declared.line_ending.LineEnding.TheVariants.{LF}
use Rattle.spiffe_id.specs.Path.{joined, segments_check}
use Rattle.spiffe_id.specs.Rules.{map_ok, then_ok}
use Rattle.spiffe_id.specs.SpiffeId.{Id, id_from, id_of_path, id_text}
use Rattle.spiffe_id.specs.TrustDomain.{trust_domain_of, written_trust_domain}
use Rattle.spiffe_id.specs.declared.error.SpiffeIdError.{SpiffeIdError}
use Rattle.std.specs.declared.option.Option.{Option}
use Rattle.identity_update.specs.Bundle.{plain_bundle}
use Rattle.identity_update.specs.Canonical.{update_der}
use Rattle.identity_update.specs.EntryParts.{listed, plain_entry}
use Rattle.identity_update.specs.declared.bundle.BundleParts.{BundleParts}
use Rattle.identity_update.specs.declared.entry_parts.EntryParts.{EntryParts}
use Rattle.identity_update.specs.Parts.{Bundle, Entry, UpdateParts}
use Rattle.identity_update.specs.PartsVerdict.{fits_check, key_sets_check, pairs_check, parts_verdict}
use Rattle.identity_update.specs.Verdict.{members_check, purpose_check}
use Rattle.identity_update.specs.declared.error.UpdateError.{UpdateError}
use Rattle.tool_commands.specs.Made.{id_line, last_line, lines_of, made_bundle, made_domain, made_entries, made_entry, made_id, made_lines, made_update}
use Rattle.tool_commands.specs.Made.{update_lines}

-- what is behind rules that hold is the value
then_value : {A B E : Type 0} (r : Result A E) (f : A → Result B E) (b : B) (P : Type 0) → then_ok r f ≡ Ok b → ((a : A) → f a ≡ Ok b → P) → P
then_value (Ok a) f b P e k = k a e
then_value (Err x) f b P e k = absurd (cc e)

map_value : {A B E : Type 0} (f : A → B) (r : Result A E) (b : B) (P : Type 0) → map_ok f r ≡ Ok b → ((a : A) → r ≡ Ok a → f a ≡ b → P) → P
map_value f (Ok a) b P e k = k a refl (cc e)
map_value f (Err x) b P e k = absurd (cc e)

-- parts that break no rule are the update
pub verdict_gives : (u v : UpdateParts) → parts_verdict u ≡ Ok v → v ≡ u
unfolding parts_verdict
verdict_gives u v e =
    then_value (fits_check u) _ v (v ≡ u) e
    (λ _ e1. then_value (purpose_check u.entries u.reason) _ v (v ≡ u) e1
    (λ _ e2. then_value (pairs_check 0 u.entries) _ v (v ≡ u) e2
    (λ _ e3. then_value (key_sets_check 0 u.bundles) _ v (v ≡ u) e3
    (λ _ e4. map_value (λ _. u) (members_check 0 u.bundles u.entries) v (v ≡ u) e4 (λ _ _ e5. sym e5)))))

limit_value : (b : Bool) (x : Id) (error : SpiffeIdError) (y : Id) → cond b (Err error) (Ok x) ≡ Ok y → y ≡ x
limit_value true x error y e = absurd (cc e)
limit_value false x error y e = sym (cc e)

-- an id that is made of segments has the path that these make
pub id_gives : (domain : List ℕ) (segments : List (List ℕ)) (id : Id) → id_from domain segments ≡ Ok id → id ≡ id_of_path domain (joined segments)
unfolding id_from
id_gives domain segments id e =
    then_value (segments_check segments) _ id (id ≡ id_of_path domain (joined segments)) e
    (λ _ f. limit_value (nat_lt 2048 (length (id_text (id_of_path domain (joined segments))))) (id_of_path domain (joined segments)) _ id f)

-- one more time
pub repeat_more : (n : ℕ) (xs : List ℕ) → 0 < n → repeat n xs ≡ xs ++ repeat (n - 1) xs
repeat_more zero xs some = absurd (omega (arith, some))
repeat_more (suc n) xs some = ap (λ k. xs ++ repeat k xs) (omega arith)

pub entries_more : (n : ℕ) → made_entries (n + 1) ≡ made_entries n ++ made_entry n ∷ []
entries_more n = ap made_entries (add-one n)

pub last_snoc : (es : List Entry) (e : Entry) → last_line (es ++ e ∷ []) ≡ id_line e.id
last_snoc [] e = refl
last_snoc (x ∷ []) e = refl
last_snoc (x ∷ y ∷ es) e = last_snoc (y ∷ es) e

many : (n : ℕ) → length (made_entries n) ≡ n
many zero = refl
many (suc n) = omega (arith, length-append (made_entries n) (made_entry n ∷ []), many n)

-- the lines of the update that was made
pub lines_made : (n : ℕ) → 1 ≤ n → (text : ℕ) → update_lines (made_update n) text
    ≡ lines_of n (length (update_der (made_update n))) text (id_line (made_id (n - 1)))
lines_made zero some text = absurd (omega (arith, some))
lines_made (suc n) some text =
    ap (λ k. lines_of k (length (update_der (made_update (suc n)))) text (last_line (made_entries (suc n)))) (many (suc n))
    ∙ ap (λ l. lines_of (suc n) (length (update_der (made_update (suc n)))) text l)
    (last_snoc (made_entries n) (made_entry n) ∙ ap (λ k. id_line (made_id k)) (omega arith))

abbrev value_of : Result (List ℕ) SpiffeIdError → List ℕ
value_of (Ok domain) = domain
value_of (Err error) = []

-- the trust domain of the entries
pub domain_is : (domain : List ℕ) → trust_domain_of (codes "example.org") ≡ Ok domain → domain ≡ made_domain
unfolding trust_domain_of written_trust_domain
domain_is domain e = sym (ap value_of e)

pub id_is : (domain : List ℕ) (segments : List (List ℕ)) (id : Id) (n : ℕ) → id_from domain segments ≡ Ok id → domain ≡ made_domain
    → segments ≡ codes "w" ∷ decimal n ∷ [] → id ≡ made_id n
id_is domain segments id n e known are =
    id_gives domain segments id e ∙ (ap (λ d. id_of_path d (joined segments)) known
    ∙ (ap (λ l. id_of_path made_domain (joined l)) are ∙ ap (λ l. id_of_path made_domain (codes "/w/" ++ l)) (append-nil (decimal n))))

abbrev with_parts : List Entry → List Bundle → UpdateParts
with_parts entries bundles = record { entries = entries; bundles = bundles; reason = None }

pub update_is : (entries : List EntryParts) (bundles : List BundleParts) (bundle : BundleParts) (u : UpdateParts) (n : ℕ)
    → parts_verdict (listed entries bundles) ≡ Ok u → map plain_entry entries ≡ made_entries n
    → bundles ≡ bundle ∷ [] → plain_bundle bundle ≡ made_bundle → u ≡ made_update n
update_is entries bundles bundle u n e made one known =
    verdict_gives (listed entries bundles) u e
    ∙ (ap (λ (es : List Entry). with_parts es (map plain_bundle bundles)) made
    ∙ (ap (λ l. with_parts (made_entries n) (map plain_bundle l)) one ∙ ap (λ (b : Bundle). with_parts (made_entries n) (b ∷ [])) known))

-- the line of the last of some entries, behind an entry of this id
abbrev pub last_of : Option Id → List Entry → List ℕ
last_of None es = last_line es
last_of (Some id) [] = id_line id
last_of (Some id) (e ∷ es) = last_of (Some e.id) es

behind_none : (e : Entry) (es : List Entry) → last_line (e ∷ es) ≡ last_of (Some e.id) es
behind_none e [] = refl
behind_none e (f ∷ es) = behind_none f es

pub last_step : (o : Option Id) (e : Entry) (es : List Entry) → last_of o (e ∷ es) ≡ last_of (Some e.id) es
last_step None e es = behind_none e es
last_step (Some id) e es = refl

pub if_says : {V E : Type 0} (r : Result V E) (says : V → List ℕ) (a b : List ℕ) → IfOk r (λ v. says v ≡ a) → a ≡ b → IfOk r (λ v. says v ≡ b)
if_says (Ok v) says a b p e = p ∙ e
if_says (Err x) says a b p e = tt

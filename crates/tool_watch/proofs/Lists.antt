-- Lists of states whose revisions count from 0, and what applying does to them.
use Rattle.std.proofs.Common.{◌≡◌, ℕ, zero, suc, ◌+◌, ◌<◌, ◌≤◌, ◌⊎◌, inl, inr, List, length, [], ◌∷◌, ◌++◌, get_or, cond, Result, Ok, Err, refl, sym, ◌∙◌, ap}
use Rattle.std.proofs.Common.{subst, arith, append_assoc, length-append}
use Rattle.std.proofs.lemmas.List.{append-nil}
use Rattle.std.specs.Prelude.{OnOk, is_ok}
use Rattle.identity_source.specs.State.{PlainState, opening}
use Rattle.identity_source.specs.History.{Follows, IsHistory, StartsWith, EndsWith, first_revision, last_from, last_revision}
use Rattle.tool_script.specs.Request.{PlainRequest}
use Rattle.tool_script.specs.Request.PlainRequest.{Update, Svid, Bundle}
use Rattle.tool_script.specs.Replies.{Accepts, Refuses, AreReplies}
use Rattle.tool_script.proofs.Sessions.{replies_snoc}
use Rattle.tool_watch.specs.Applied.{IsList, HaveReplies}

place_behind : (r : ℕ) (xs : List PlainState) (i : ℕ) (d : PlainState) → Follows r xs → i < length xs → (get_or xs i d).revision ≡ r + 1 + i
place_behind r [] i d h low = absurd (omega arith)
place_behind r (x ∷ xs) zero d h low = omega (arith, h.0)
place_behind r (x ∷ xs) (suc i) d h low = let e : (get_or xs i d).revision ≡ r + 1 + 1 + i = place_behind (r + 1) xs i d h.2 (omega arith) in omega arith

-- a state stands at the place of its revision
pub placed : (xs : List PlainState) (i : ℕ) (d : PlainState) → IsList xs → i < length xs → (get_or xs i d).revision ≡ i
placed [] i d h low = absurd (omega arith)
placed (x ∷ xs) zero d h low = h.first
placed (x ∷ xs) (suc i) d h low = let e : (get_or xs i d).revision ≡ x.revision + 1 + i = place_behind x.revision xs i d h.history.1 (omega arith) in
    omega (arith, h.first)

count_behind : (r : ℕ) (xs : List PlainState) → Follows r xs → last_from r xs ≡ r + length xs
count_behind r [] h = omega arith
count_behind r (x ∷ xs) h = let e : last_from (r + 1) xs ≡ r + 1 + length xs = count_behind (r + 1) xs h.2 in omega (arith, ap (λ n. last_from n xs) h.0)

-- the last revision tells how many states there are
pub last_place : (xs : List PlainState) → IsList xs → last_revision xs + 1 ≡ length xs
last_place [] h = absurd h.history
last_place (x ∷ xs) h = let e : last_from x.revision xs ≡ x.revision + length xs = count_behind x.revision xs h.history.1 in omega (arith, h.first)

rise_behind : (r : ℕ) (xs more : List PlainState) → Follows r (xs ++ more) → last_from r xs ≤ last_from r (xs ++ more)
rise_behind r [] more h = omega (arith, count_behind r more h)
rise_behind r (x ∷ xs) more h = rise_behind x.revision xs more (subst (λ (n : ℕ). Follows n (xs ++ more)) (sym h.0) h.2)

rise_whole : (xs more : List PlainState) → IsHistory (xs ++ more) → last_revision xs ≤ last_revision (xs ++ more)
rise_whole [] more h = omega arith
rise_whole (x ∷ xs) more h = rise_behind x.revision xs more h.1

-- a list that goes on doesn't fall
pub rises_on : (now before : List PlainState) → StartsWith now before → IsHistory now → last_revision before ≤ last_revision now
rises_on now before t h =
    let e : last_revision now ≡ last_revision (before ++ t.0) = ap last_revision t.1 in
    omega (arith, rise_whole before t.0 (subst IsHistory t.1 h))

-- the opening state alone
pub opened_list : (xs : List PlainState) → xs ≡ opening 0 ∷ [] → IsList xs
opened_list xs is = record { history = subst IsHistory (sym is) (refl, tt); first = ap first_revision is }

-- a list of one state is the opening state alone
pub short_list : (xs : List PlainState) → IsList xs → length xs ≤ 1 → xs ≡ opening 0 ∷ []
short_list [] h short = absurd h.history
short_list (x ∷ []) h short = ap (λ y. y ∷ []) (h.history.0 ∙ ap opening h.first)
short_list (x ∷ y ∷ ys) h short = absurd (omega arith)

-- a list that goes on by one state under a history
pub more_list : (xs ys more : List PlainState) → IsList xs → ys ≡ xs ++ more → IsHistory ys → IsList ys
more_list [] ys more l is h = absurd l.history
more_list (x ∷ xs) ys more l is h = record { history = h; first = ap first_revision is ∙ l.first }

-- the list never gets shorter
pub replies_long : (width : ℕ) (list : List PlainState) (qs : List PlainRequest) (list' : List PlainState) (text : List ℕ)
    → AreReplies width list qs list' text → length list ≤ length list'
replies_long width list [] list' text p = omega (arith, ap length p.0)
replies_long width list (Update t ∷ qs) list' text (next, (reply, (more, (inl a, rest, e)))) =
    omega (arith, ap length a.goes_on, length-append list (a.state ∷ []), replies_long width next qs list' more rest)
replies_long width list (Update t ∷ qs) list' text (next, (reply, (more, (inr a, rest, e)))) =
    omega (arith, ap length a.stays, replies_long width next qs list' more rest)
replies_long width list (Svid ∷ qs) list' text (next, (reply, (more, (a, rest, e)))) =
    omega (arith, ap length a.stays, replies_long width next qs list' more rest)
replies_long width list (Bundle name domain ∷ qs) list' text (next, (reply, (more, (a, rest, e)))) =
    omega (arith, ap length a.stays, replies_long width next qs list' more rest)

-- nothing was answered yet
pub none_answered : (width : ℕ) (list : List PlainState) (before : List ℕ) → HaveReplies width list [] list before before
none_answered width list before = record { text = []; replies = (refl, refl); stand = sym (append-nil before) }

-- one more update is answered
pub one_answered : (width : ℕ) (list : List PlainState) (updates : List PlainRequest) (mid list' : List PlainState) (before now now' text reply : List ℕ)
    → HaveReplies width list updates mid before now
    → Accepts width mid text list' reply ⊎ Refuses width mid text list' reply → now' ≡ now ++ reply
    → HaveReplies width list (updates ++ Update text ∷ []) list' before now'
one_answered width list updates mid list' before now now' text reply p a e =
    record {
      text = p.text ++ reply;
      replies = replies_snoc width list updates mid list' p.text reply (Update text) p.replies a;
      stand = e ∙ (ap (λ l. l ++ reply) p.stand ∙ append_assoc before p.text reply);
    }

-- what one state more says of the last
pub ends_one : (xs ys : List PlainState) (x y : PlainState) → ys ≡ xs ++ x ∷ [] → EndsWith ys y
    → ((z w : PlainState) → EndsWith ys z → EndsWith ys w → w ≡ z) → xs ++ y ∷ [] ≡ ys
ends_one xs ys x y is ends law = ap (λ z. xs ++ z ∷ []) (law x y (xs, is) ends) ∙ sym is

-- what was appended, where it was
pub on_ok : {V E : Type 0} (r : Result V E) (now before reply : List ℕ) (P : List ℕ → Type 0) → now ≡ cond (is_ok r) (before ++ reply) before → P reply
    → OnOk r ((x : List ℕ) × (P x × (now ≡ before ++ x)))
on_ok (Ok v) now before reply P e p = (reply, (p, e))
on_ok (Err error) now before reply P e p = tt

-- A reader that is told of all that its source does.
use Rattle.std.proofs.Common.{◌≡◌, ◌≢◌, ℕ, ◌+◌, ◌<◌, ◌≤◌, ◌⊎◌, inl, inr, Bool, true, false, cond, nat_le, List, [], ◌∷◌, ◌++◌, length, length-append, refl}
use Rattle.std.proofs.Common.{sym, ap, ◌∙◌, subst, ⊎_elim, arith, Result, Ok, Err, IfOk}
use Rattle.std.proofs.lemmas.Bool.Decides.{leb_tells}
use Rattle.identity_source.specs.State.{PlainState, opening}
use Rattle.identity_source.specs.History.{IsHistory, StartsWith, EndsWith, first_revision, last_revision}
use Rattle.identity_source.specs.NamedList.{NamedList, appended}
use Rattle.identity_source.specs.Verdict.{Publishes}
use Rattle.identity_source.specs.Sight.{longer}
use Rattle.identity_source.specs.Reader.{PlainReader, IsFresh, Renewed, Told}
use Rattle.identity_source.proofs.Histories.{either, counted, ends_at, first_begins, begins_self, begins_through}
use Rattle.tool_script.specs.Reply.{accepted_reply}
use Rattle.tool_script.specs.Replies.{Accepts}
use Rattle.tool_script.specs.Session.{Attends}

-- a reader as it was opened with its source
pub fresh_attends : (source : NamedList) (reader : PlainReader) → source.list ≡ opening 0 ∷ [] → IsFresh source reader → Attends source reader
fresh_attends source reader opened fresh =
    let history : IsHistory source.list = subst IsHistory (sym opened) (refl, tt) in
    let first : first_revision source.list ≡ 0 = ap first_revision opened in
    record {
      name = fresh.name;
      history = history;
      first = first;
      read = subst IsHistory (sym fresh.list) history;
      read_first = ap first_revision fresh.list ∙ first;
      place = inl (subst (λ (l : List PlainState). StartsWith l source.list) (sym fresh.list) (begins_self source.list));
    }

-- the longer of two lists begins with the second, or has more states
longer_place : (xs ys : List PlainState) → StartsWith (longer xs ys) ys ⊎ (length ys < length (longer xs ys))
longer_place xs ys =
    ⊎_elim
    (λ (t : (nat_le (length xs) (length ys) ≡ true) × (length xs ≤ length ys)). inl
    (subst (λ (b : Bool). StartsWith (cond b ys xs) ys) (sym t.0) (begins_self ys)))
    (λ (t : (nat_le (length xs) (length ys) ≡ false) × (length ys < length xs)). inr (subst (λ (b : Bool). length ys < length (cond b ys xs)) (sym t.0) t.1))
    (leb_tells (length xs) (length ys))

-- a reader that was told of the source's whole list
pub told_attends : (old new : NamedList) (before now : PlainReader) → Attends old before → new.name ≡ old.name → StartsWith new.list old.list
    → IsHistory new.list
    → Told before now new.list → Attends new now
told_attends old new before now a name begins history told =
    let first : first_revision new.list ≡ 0 = first_begins new.list old.list begins a.history ∙ a.first in
    record {
      name = told.name ∙ (a.name ∙ sym name);
      history = history;
      first = first;
      read = subst IsHistory (sym told.list) (either IsHistory before.list new.list (nat_le (length before.list) (length new.list)) a.read history);
      read_first = ap first_revision told.list
          ∙ either (λ (l : List PlainState). first_revision l ≡ 0) before.list new.list (nat_le (length before.list) (length new.list)) a.read_first first;
      place = subst (λ (l : List PlainState). StartsWith l new.list ⊎ (length new.list < length l)) (sym told.list) (longer_place before.list new.list);
    }

pub published_begins : (old new : NamedList) (x : PlainState) → new ≡ appended old x → StartsWith new.list old.list
published_begins old new x is = (x ∷ [], ap (λ s. s.list) is)

-- a reader that has looked
pub looked_attends : (source : NamedList) (before now : PlainReader) → Attends source before → Renewed before now → Attends source now
looked_attends source before now a r =
    record {
      name = r.name ∙ a.name;
      history = a.history;
      first = a.first;
      read = r.history;
      read_first = first_begins now.list before.list r.begins a.read ∙ a.read_first;
      place = ⊎_elim
          (λ (s : StartsWith before.list source.list). inl (begins_through now.list before.list source.list r.begins s))
          (λ (long : length source.list < length before.list). inr (omega (arith, ap length r.begins.1, length-append before.list r.begins.0)))
          a.place;
    }

-- a revision names one state of a list
abbrev pub OneState : Type 0
OneState = (whole seen : List PlainState) (x y : PlainState) → IsHistory whole → IsHistory seen → StartsWith whole seen → EndsWith seen x → EndsWith whole y
    → y.revision ≡ x.revision → y ≡ x

-- at the source's revision it gives the source's last state
one_state : OneState → (source : NamedList) (reader : PlainReader) (seen latest : PlainState) → Attends source reader → EndsWith reader.list seen
    → EndsWith source.list latest
    → seen.revision ≡ latest.revision → seen ≡ latest
one_state law source reader seen latest a ends_seen ends_latest same =
    ⊎_elim
    (λ (s : StartsWith reader.list source.list). law reader.list source.list latest seen a.read a.history s ends_latest ends_seen same)
    (λ (long : length source.list < length reader.list).
    absurd (let p : seen.revision + 1 ≡ first_revision reader.list + length reader.list = counted reader.list seen a.read ends_seen in
    let q : latest.revision + 1 ≡ first_revision source.list + length source.list = counted source.list latest a.history ends_latest in
    omega (arith, a.first, a.read_first)))
    a.place

-- what is chosen of both is the source's last state
chosen_ends : OneState → (source : NamedList) (reader : PlainReader) (seen latest y : PlainState) (revision : ℕ) → Attends source reader
    → EndsWith reader.list seen → EndsWith source.list latest
    → revision ≡ latest.revision → ((seen.revision ≡ revision) × (y ≡ seen)) ⊎ ((seen.revision ≢ revision) × (y ≡ latest)) → EndsWith source.list y
chosen_ends law source reader seen latest y revision a ends_seen ends_latest at (inl p) =
    subst (λ (x : PlainState). EndsWith source.list x) (sym (p.1 ∙ one_state law source reader seen latest a ends_seen ends_latest (p.0 ∙ at))) ends_latest
chosen_ends law source reader seen latest y revision a ends_seen ends_latest at (inr p) =
    subst (λ (x : PlainState). EndsWith source.list x) (sym p.1) ends_latest

pub last_ends : OneState → (source : NamedList) (before : PlainReader) {now : PlainReader} (seen latest y : PlainState) (revision : ℕ)
    → Attends source before → Renewed before now × EndsWith now.list seen
    → EndsWith source.list latest → revision ≡ latest.revision → ((seen.revision ≡ revision) × (y ≡ seen)) ⊎ ((seen.revision ≢ revision) × (y ≡ latest))
    → EndsWith source.list y
last_ends law source before {now = now} seen latest y revision a looked ends_latest at chosen =
    chosen_ends law source now seen latest y revision (looked_attends source before now a looked.0) looked.1 ends_latest at chosen

-- an update is applied, and the reader is told
pub published_attends : (old new receipt : NamedList) (before now : PlainReader) (width : ℕ) (text : List ℕ) → Attends old before
    → Publishes old new width text → receipt ≡ new → new.name ≡ old.name
    → IsHistory receipt.list → Told before now receipt.list → Attends new now
published_attends old new receipt before now width text a p is name history told =
    told_attends old new before now a name (published_begins old new p.state p.list) (subst (λ (r : NamedList). IsHistory r.list) is history)
    (subst (λ (r : NamedList). Told before now r.list) is told)

pub accepted : (old new receipt : NamedList) (width : ℕ) (text reply : List ℕ) (revision : ℕ) → Publishes old new width text → receipt ≡ new
    → revision ≡ last_revision receipt.list
    → reply ≡ accepted_reply revision → Accepts width old.list text new.list reply
accepted old new receipt width text reply revision p is at says =
    let list : new.list ≡ old.list ++ p.state ∷ [] = ap (λ s. s.list) p.list in
    let last : last_revision new.list ≡ p.state.revision = ends_at new.list p.state (old.list, list) in
    record { state = p.state; next = p.next; goes_on = list; says = says ∙ ap (λ n. accepted_reply n) (at ∙ (ap (λ r. last_revision r.list) is ∙ last)) }

pub if_ok : {V E : Type 0} (r : Result V E) (P Q : V → Type 0) → ((v : V) → P v → Q v) → IfOk r P → IfOk r Q
if_ok (Ok v) P Q f p = f v p
if_ok (Err e) P Q f p = tt

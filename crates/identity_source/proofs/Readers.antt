-- What a reader's calls do, over any window.
use Rattle.std.proofs.Common.{◌≡◌, ℕ, ◌+◌, ◌-◌, ◌<◌, ◌≤◌, Bool, true, false, cond, nat_le, Option, Some, None, Result, Ok, Err}
use Rattle.std.proofs.Common.{List, ◌∷◌, length, take, length-append, refl}
use Rattle.std.proofs.Common.{sym, ap, ◌∙◌, subst, ⊎_elim, le_refl, arith}
use Rattle.std.proofs.lemmas.List.{take_all, length-take}
use Rattle.std.proofs.lemmas.Bool.{le-leb}
use Rattle.std.proofs.lemmas.Bool.Decides.{leb_tells}
use Rattle.identity_source.specs.State.{PlainState}
use Rattle.identity_source.specs.History.{IsHistory, StartsWith, EndsWith, EachBegins, first_revision}
use Rattle.identity_source.specs.NamedList.{NamedList}
use Rattle.identity_source.specs.Sight.{Sight, Goes, Looked as Looked_at, MissedBy, MissedWithin, Learned, longer, will_miss, with_misses}
use Rattle.identity_source.specs.Reader.{PlainReader, plain_reader, list_up_to, IsReader, Renewed, Told}
use Rattle.identity_source.specs.declared.kept_reader.Look.{Look}
use Rattle.identity_source.specs.declared.kept_reader.Look.TheVariants.{Looked, Missed}
use Rattle.identity_source.specs.declared.window.Missed.{Missed as Missed_why}
use Rattle.identity_source.specs.declared.window.Missed.TheVariants.{NoPlace, NoGuard, OutOfMemory}
use Rattle.identity_source.proofs.Histories.{either, counted, first_begins, begins_self, begins_take, begins_through, take_begins}

-- what a look at the window says of planned misses
pub record Tells (a b : Sight) (result : Result PlainState Missed_why) : Type 0 where
  pub planned : will_miss a ≡ true → result ≡ Err NoGuard
  pub passed : will_miss a ≡ false → result ≡ Err NoGuard → MissedWithin a.plan b.plan

abbrev why_of : Result PlainState Missed_why → Missed_why
why_of (Ok x) = NoPlace
why_of (Err m) = m

abbrev look_why : Option Look → Missed_why
look_why (Some (Missed m)) = m
look_why other = NoPlace

pub record Renews (a b : Sight) (x : PlainState) (told : Option NamedList) (old : PlainReader) (look : Option Look) : Type 0 where
  pub is_reader : IsReader b x told
  pub renewed : Renewed old (plain_reader b x told look)

-- the window gave the state y
pub looked : (a b : Sight) (x y : PlainState) (told : Option NamedList) (l : Option Look) → IsReader a x told → Goes a b → Looked_at a b y
    → Tells a b (Ok y)
    → Renews a b y None (plain_reader a x told l) (Some Looked)
looked a b x y told l r goes saw tells =
    let first : first_revision b.seen ≡ b.name.first = first_begins b.seen a.seen saw.more r.seen ∙ (r.first ∙ ap (λ n. n.first) (sym goes.name)) in
    let n : ℕ = y.revision + 1 - b.name.first in
    let count : y.revision + 1 ≡ first_revision b.seen + length b.seen = counted b.seen y saw.history saw.last in
    let whole : take n b.seen ≡ b.seen = take_all n b.seen (let f : first_revision b.seen ≡ b.name.first = first in omega arith) in
    let begins : StartsWith (take n b.seen) (list_up_to a x told) =
    subst (λ (z : List PlainState). StartsWith z (list_up_to a x told)) (sym whole) (r.known saw.live b.seen saw.all saw.more) in
    record {
      is_reader = record {
        seen = saw.history;
        first = first;
        history = subst IsHistory (sym whole) saw.history;
        own = ap first_revision whole ∙ first;
        last = (saw.last.0, whole ∙ saw.last.1);
        within = λ _. (let f : first_revision b.seen ≡ b.name.first = first in omega arith);
        known = λ live xs olds begins. begins_take n xs b.seen begins;
      };
      renewed = record {
        name = goes.name;
        is_live = goes.is_live;
        olds = goes.olds;
        look = record {
          live = saw.live;
          rose = saw.rose;
          misses = saw.misses;
          refused = saw.refused;
          whole = whole;
          told =
              subst (λ (z : List PlainState). EachBegins z a.olds) (sym whole) saw.all;
        };
        planned = record {
          goes = goes.plan;
          misses = λ e. let wrong : Ok y ≡ Err NoGuard = tells.planned e in absurd cc;
          passes = λ _ e. absurd cc;
        };
        begins = begins;
        history = subst IsHistory (sym whole) saw.history;
        first = ap first_revision whole ∙ first;
      };
    }

-- where the window's list goes on, the reader's stays
stays : (a b : Sight) (x : PlainState) (told : Option NamedList) → IsReader a x told → Goes a b → StartsWith b.seen a.seen
    → list_up_to b x told ≡ list_up_to a x told
stays a b x (Some h) r goes more = refl
stays a b x None r goes more =
    let same : take (x.revision + 1 - b.name.first) b.seen ≡ take (x.revision + 1 - a.name.first) b.seen =
    ap (λ n. take (x.revision + 1 - n.first) b.seen) goes.name in
    same ∙ take_begins _ a.seen b.seen more (let w : x.revision + 1 ≤ a.name.first + length a.seen = r.within refl in omega arith)

within_more : (a b : Sight) (x : PlainState) (told : Option NamedList) → IsReader a x told → Goes a b → StartsWith b.seen a.seen → told ≡ None
    → x.revision + 1 ≤ b.name.first + length b.seen
within_more a b x told r goes more none =
    let w : x.revision + 1 ≤ a.name.first + length a.seen = r.within none in
    let e : b.name.first ≡ a.name.first = ap (λ n. n.first) goes.name in
    let l : length b.seen ≡ length a.seen + length more.0 = ap length more.1 ∙ length-append a.seen more.0 in omega arith

goes_on : (a b : Sight) (m : Missed_why) → MissedBy a b m → StartsWith b.seen a.seen
goes_on a b NoPlace why = subst (λ (z : List PlainState). StartsWith z a.seen) (sym why.same) (begins_self a.seen)
goes_on a b NoGuard why = why.more
goes_on a b OutOfMemory why = why.more

is_history : (a b : Sight) (m : Missed_why) → IsHistory a.seen → MissedBy a b m → IsHistory b.seen
is_history a b NoPlace h why = subst IsHistory (sym why.same) h
is_history a b NoGuard h why = why.history
is_history a b OutOfMemory h why = why.history

pub missed : (a b : Sight) (x : PlainState) (told : Option NamedList) (l : Option Look) (m : Missed_why) → IsReader a x told → Goes a b → MissedBy a b m
    → Tells a b (Err m)
    → Renews a b x told (plain_reader a x told l) (Some (Missed m))
missed a b x told l m r goes why tells =
    let more : StartsWith b.seen a.seen = goes_on a b m why in
    let history : IsHistory b.seen = is_history a b m r.seen why in
    let same = stays a b x told r goes more in
    let name : b.name.first ≡ a.name.first = ap (λ n. n.first) goes.name in
    record {
      is_reader = record {
        seen = history;
        first = first_begins b.seen a.seen more r.seen ∙ (r.first ∙ sym name);
        history = subst IsHistory (sym same) r.history;
        own = ap first_revision same ∙ (r.own ∙ sym name);
        last = (r.last.0, same ∙ r.last.1);
        within = within_more a b x told r goes more;
        known = λ live xs olds begins. subst (λ (z : List PlainState). StartsWith xs z) (sym same)
            (r.known (sym goes.is_live ∙ live) xs (subst (EachBegins xs) goes.olds olds) (begins_through xs b.seen a.seen begins more));
      };
      renewed = record {
        name = goes.name;
        is_live = goes.is_live;
        olds = goes.olds;
        look = record { why = why; same = same };
        planned = record {
          goes = goes.plan;
          misses = λ e. ap (λ r. Some (Missed (why_of r))) (tells.planned e);
          passes = λ no e. tells.passed no (ap (λ o. Err (look_why o)) e);
        };
        begins = subst (λ (z : List PlainState). StartsWith z (list_up_to a x told)) (sym same) (begins_self (list_up_to a x told));
        history = subst IsHistory (sym same) r.history;
        first = ap first_revision same ∙ (r.own ∙ sym name);
      };
    }

longer_second : (xs ys : List PlainState) → length xs ≤ length ys → longer xs ys ≡ ys
longer_second xs ys le = ap (λ (b : Bool). cond b ys xs) (le-leb _ _ le)

longer_first : (xs ys : List PlainState) → length ys < length xs → longer xs ys ≡ xs
longer_first xs ys lt = ⊎_elim (λ (t : (nat_le (length xs) (length ys) ≡ true) × (length xs ≤ length ys)). absurd
    (let a : length xs ≤ length ys = t.1 in omega arith))
    (λ (t : (nat_le (length xs) (length ys) ≡ false) × (length ys < length xs)). ap (λ (b : Bool). cond b ys xs) t.0) (leb_tells (length xs) (length ys))

pub record Heard (a b : Sight) (x : PlainState) (told : Option NamedList) (old : PlainReader) (list : List PlainState) : Type 0 where
  pub is_reader : IsReader b x told
  pub heard : Told old (plain_reader b x told old.look) list

-- a fact of the window's list after a receipt was taken in
learned_is : (P : List PlainState → Type 0) (a b : Sight) (list : List PlainState) → Learned a b list → P a.seen → P list → (live : Bool) → a.is_live ≡ live
    → P b.seen
learned_is P a b list l p q true e = subst P (sym (l.live e).seen) (either P a.seen list (nat_le (length a.seen) (length list)) p q)
learned_is P a b list l p q false e = subst P (sym (l.dead e).seen) p

-- what begins with all that was told begins with the reader's own list
keeps_own : (a b : Sight) (x : PlainState) (told : Option NamedList) (list : List PlainState) → IsReader a x told → Learned a b list → a.is_live ≡ true
    → (xs : List PlainState) → EachBegins xs b.olds → StartsWith xs (list_up_to a x told)
keeps_own a b x told list r l live xs olds = let o : EachBegins xs (a.seen ∷ list ∷ a.olds) = subst (EachBegins xs) (l.live live).olds olds in
    r.known live xs o.1.1 o.0

-- the receipt is not of an earlier place
heeds_later : (a b : Sight) (x y : PlainState) (told : Option NamedList) (look : Option Look) (h : NamedList) → IsReader a x told → Learned a b h.list
    → h.name ≡ a.name → IsHistory h.list → first_revision h.list ≡ h.name.first → EndsWith h.list y → x.revision ≤ y.revision
    → Heard a b y (Some h) (plain_reader a x told look) h.list
heeds_later a b x y told look h r l named history own last le =
    let name : b.name.first ≡ a.name.first = ap (λ n. n.first) l.name in
    let first : first_revision h.list ≡ a.name.first = own ∙ ap (λ n. n.first) named in
    let m : x.revision + 1 ≡ first_revision (list_up_to a x told) + length (list_up_to a x told) = counted _ x r.history r.last in
    let n : y.revision + 1 ≡ first_revision h.list + length h.list = counted _ y history last in
    let same : first_revision (list_up_to a x told) ≡ a.name.first = r.own in
    record {
      is_reader = record {
        seen = learned_is IsHistory a b h.list l r.seen history a.is_live refl;
        first = learned_is (λ z. first_revision z ≡ b.name.first) a b h.list l (r.first ∙ sym name) (first ∙ sym name) a.is_live refl;
        history = history;
        own = first ∙ sym name;
        last = last;
        within = λ e. cc;
        known = λ live xs olds begins. (subst (EachBegins xs) (l.live (sym l.is_live ∙ live)).olds olds).1.0;
      };
      heard = record {
        name = l.name;
        is_live = l.is_live;
        looks = l.looks;
        misses = l.misses;
        refused = l.refused;
        list = sym (longer_second (list_up_to a x told) h.list (omega arith));
        look = refl;
        learned = l;
        keeps = keeps_own a b x told h.list r l;
      };
    }

seen_kept : (a b : Sight) (list : List PlainState) → Learned a b list → length list < length a.seen → (live : Bool) → a.is_live ≡ live → b.seen ≡ a.seen
seen_kept a b list l lt true e = (l.live e).seen ∙ longer_first a.seen list lt
seen_kept a b list l lt false e = (l.dead e).seen

longer_than : (xs ys : List PlainState) → length xs ≤ length (longer xs ys)
longer_than xs ys = ⊎_elim (λ (t : (nat_le (length xs) (length ys) ≡ true) × (length xs ≤ length ys)). subst
    (λ (b : Bool). length xs ≤ length (cond b ys xs)) (sym t.0) t.1)
    (λ (t : (nat_le (length xs) (length ys) ≡ false) × (length ys < length xs)). subst (λ (b : Bool). length xs ≤ length (cond b ys xs)) (sym t.0)
    (le_refl _)) (leb_tells (length xs) (length ys))

seen_grows : (a b : Sight) (list : List PlainState) → Learned a b list → (live : Bool) → a.is_live ≡ live → length a.seen ≤ length b.seen
seen_grows a b list l true e = subst (λ (z : List PlainState). length a.seen ≤ length z) (sym (l.live e).seen) (longer_than a.seen list)
seen_grows a b list l false e = subst (λ (z : List PlainState). length a.seen ≤ length z) (sym (l.dead e).seen) (le_refl _)

within_longer : (a b : Sight) (x : PlainState) (told : Option NamedList) (list : List PlainState) → IsReader a x told → Learned a b list → told ≡ None
    → x.revision + 1 ≤ b.name.first + length b.seen
within_longer a b x told list r l none =
    let w : x.revision + 1 ≤ a.name.first + length a.seen = r.within none in
    let e : b.name.first ≡ a.name.first = ap (λ n. n.first) l.name in
    let g : length a.seen ≤ length b.seen = seen_grows a b list l a.is_live refl in omega arith

-- the receipt is of an earlier place
kept_list : (a b : Sight) (x : PlainState) (told : Option NamedList) (list : List PlainState) → IsReader a x told → Learned a b list
    → length list < length (list_up_to a x told) → list_up_to b x told ≡ list_up_to a x told
kept_list a b x (Some h) list r l lt = refl
kept_list a b x None list r l lt = let e : b.name ≡ a.name = l.name in
    let n : ℕ = x.revision + 1 - a.name.first in
    let short : length (take n a.seen) ≤ length a.seen = omega (arith, length-take n a.seen) in
    let seen : b.seen ≡ a.seen = seen_kept a b list l (omega arith) a.is_live refl in
    λ i. take (x.revision + 1 - (e i).first) (seen i)

heeds_earlier : (a b : Sight) (x y : PlainState) (told : Option NamedList) (look : Option Look) (h : NamedList) → IsReader a x told → Learned a b h.list
    → h.name ≡ a.name → IsHistory h.list → first_revision h.list ≡ h.name.first → EndsWith h.list y → y.revision < x.revision
    → Heard a b x told (plain_reader a x told look) h.list
heeds_earlier a b x y told look h r l named history own last lt =
    let name : b.name.first ≡ a.name.first = ap (λ n. n.first) l.name in
    let first : first_revision h.list ≡ a.name.first = own ∙ ap (λ n. n.first) named in
    let m : x.revision + 1 ≡ first_revision (list_up_to a x told) + length (list_up_to a x told) = counted _ x r.history r.last in
    let n : y.revision + 1 ≡ first_revision h.list + length h.list = counted _ y history last in
    let own_first : first_revision (list_up_to a x told) ≡ a.name.first = r.own in
    let shorter : length h.list < length (list_up_to a x told) = omega arith in
    let same = kept_list a b x told h.list r l shorter in
    record {
      is_reader = record {
        seen = learned_is IsHistory a b h.list l r.seen history a.is_live refl;
        first = learned_is (λ z. first_revision z ≡ b.name.first) a b h.list l (r.first ∙ sym name) (first ∙ sym name) a.is_live refl;
        history = subst IsHistory (sym same) r.history;
        own = ap first_revision same ∙ (r.own ∙ sym name);
        last = (r.last.0, same ∙ r.last.1);
        within = λ e. within_longer a b x told h.list r l e;
        known = λ live xs olds begins. let o : EachBegins xs (a.seen ∷ h.list ∷ a.olds) = subst (EachBegins xs) (l.live (sym l.is_live ∙ live)).olds olds in
            subst (λ (z : List PlainState). StartsWith xs z) (sym same) (r.known (sym l.is_live ∙ live) xs o.1.1 o.0);
      };
      heard = record {
        name = l.name;
        is_live = l.is_live;
        looks = l.looks;
        misses = l.misses;
        refused = l.refused;
        list = same ∙ sym (longer_first (list_up_to a x told) h.list shorter);
        look = refl;
        learned = l;
        keeps = keeps_own a b x told h.list r l;
      };
    }

pub after : (old r s : PlainReader) → r ≡ old → Renewed r s → Renewed old s
after old r s e t = subst (λ z. Renewed z s) e t

pub after_told : (old r s s' : PlainReader) (list : List PlainState) → r ≡ old → s ≡ s' → Told r s list → Told old s' list
after_told old r s s' list e f t = subst (λ (p : PlainReader × PlainReader). Told p.0 p.1 list) (λ i. (e i, f i)) t

pub looked_none : (a b : Sight) (x y : PlainState) (told t : Option NamedList) (l : Option Look) → t ≡ None → IsReader a x told → Goes a b → Looked_at a b y
    → Tells a b (Ok y)
    → Renews a b y t (plain_reader a x told l) (Some Looked)
looked_none a b x y told t l e r goes saw tells = subst (λ z. Renews a b y z (plain_reader a x told l) (Some Looked)) (sym e)
    (looked a b x y told l r goes saw tells)

pub heeds_at : (a b : Sight) (x y : PlainState) (told t : Option NamedList) (look : Option Look) (h h' : NamedList) → h' ≡ h → t ≡ Some h
    → IsReader a x told → Learned a b h'.list → h.name ≡ a.name → IsHistory h.list → first_revision h.list ≡ h.name.first → EndsWith h'.list y
    → x.revision ≤ y.revision
    → Heard a b y t (plain_reader a x told look) h.list
heeds_at a b x y told t look h h' same e r l named history own last le =
    subst (λ z. Heard a b y z (plain_reader a x told look) h.list) (sym e)
    (heeds_later a b x y told look h r (subst (λ z. Learned a b z.list) same l) named history own (subst (λ z. EndsWith z.list y) same last) le)

pub keeps_at : (a b : Sight) (x y : PlainState) (told : Option NamedList) (look : Option Look) (h h' : NamedList) → h' ≡ h → IsReader a x told
    → Learned a b h'.list → h.name ≡ a.name → IsHistory h.list → first_revision h.list ≡ h.name.first → EndsWith h'.list y → y.revision < x.revision
    → Heard a b x told (plain_reader a x told look) h.list
keeps_at a b x y told look h h' same r l named history own last lt =
    heeds_earlier a b x y told look h r (subst (λ z. Learned a b z.list) same l) named history own (subst (λ z. EndsWith z.list y) same last) lt

pub along : (old r s : PlainReader) (list : List PlainState) → r ≡ old → Told r s list → Told old s list
along old r s list e t = subst (λ z. Told z s list) e t

relabelled_same : (s : Sight) (numbers : List ℕ) (k n : ℕ) (x : PlainState) (told : Option NamedList) → IsReader s x told
    → IsReader (with_misses s numbers k n) x told
relabelled_same s numbers k n x None r = record {
  seen = r.seen;
  first = r.first;
  history = r.history;
  own = r.own;
  last = r.last;
  within = r.within;
  known = r.known;
}
relabelled_same s numbers k n x (Some h) r = record {
  seen = r.seen;
  first = r.first;
  history = r.history;
  own = r.own;
  last = r.last;
  within = r.within;
  known =
      r.known;
}

-- a plan of misses and other counts leave the reader as it is
pub relabelled : (s t : Sight) (numbers : List ℕ) (k n : ℕ) (x : PlainState) (told : Option NamedList) → t ≡ with_misses s numbers k n → IsReader s x told
    → IsReader t x told
relabelled s t numbers k n x told e r = subst (λ (z : Sight). IsReader z x told) (sym e) (relabelled_same s numbers k n x told r)

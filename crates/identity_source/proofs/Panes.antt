-- What a pane knows after a glance, and after a receipt.
use Rattle.std.proofs.Common.{◌≡◌, ℕ, ◌+◌, ◌-◌, ◌^◌, min, ◌<◌, Bool, true, nat_le, option_map, is_some, MatchResult, Result, Ok, Err, Option, Some, None, List}
use Rattle.std.proofs.Common.{length, refl, sym, ap, ◌∙◌, subst, arith}
use Rattle.identity_io.specs.Causes.{Rose}
use Rattle.identity_source.specs.State.{PlainState}
use Rattle.identity_source.specs.History.{IsHistory, StartsWith, EndsWith, first_revision}
use Rattle.identity_source.specs.NamedList.{NamedList, SourceName, IsListed}
use Rattle.identity_source.specs.Rule.{Knows}
use Rattle.identity_source.specs.Sight.{Sight, Looked}
use Rattle.identity_source.specs.Pane.{seen_of, noted_seen, noted_told, sight_of, Glanced, Heeds, Named, Bound, Fits, Later}
use Rattle.identity_source.specs.declared.window.Missed.{Missed}
use Rattle.identity_source.specs.declared.window.Missed.TheVariants.{NoPlace, NoGuard, OutOfMemory}
use Rattle.identity_source.proofs.Histories.{either, begins_through, first_begins}
use Rattle.identity_source.proofs.Steps.{goes_along}

named_along : (name : SourceName) (v : Option NamedList) (x : NamedList) → Named name v → Knows x v → x.name ≡ name
named_along name None x n k = absurd n
named_along name (Some h) x n k = k.0 ∙ n

heeds_along : (x z : NamedList) (told : Option NamedList) → StartsWith z.list x.list → Heeds x told → Heeds z told
heeds_along x z None t h = tt
heeds_along x z (Some r) t h = begins_through z.list x.list r.list t h

-- the reader saw x
moved_on : (name : SourceName) (memo : List (List PlainState)) (told v : Option NamedList) (x : NamedList) → Bound name memo told v → Knows x v
    → Bound name memo told (Some x)
moved_on name memo told v x b k = record {
  history = b.history;
  first = b.first;
  named = named_along name v x b.named k;
  told_named = b.told_named;
  known = λ z knows heeds. b.known z (goes_along x z v knows.0 knows.1 k) heeds;
}

pub moved : (name : SourceName) (memo : List (List PlainState)) (told v w : Option NamedList) (x : NamedList) → Bound name memo told v → w ≡ Some x
    → Knows x v → Bound name memo told w
moved name memo told v w x b e k = subst (Bound name memo told) (sym e) (moved_on name memo told v x b k)

pub missed : (name : SourceName) (memo : List (List PlainState)) (told v w : Option NamedList) (m : Missed) → Bound name memo told v → Glanced v w m
    → Bound name memo told w
missed name memo told v w NoPlace b g = absurd g
missed name memo told v w NoGuard b g = subst (Bound name memo told) (sym g) b
missed name memo told v w OutOfMemory b g = moved name memo told v w g.0 b g.1 g.2

-- x was looked at, and begins with what was told
looked_on : (name : SourceName) (memo : List (List PlainState)) (told v : Option NamedList) (x : NamedList) → Bound name memo told v → Knows x v
    → Heeds x told → IsHistory x.list → Bound name (noted_seen memo x) None (Some x)
looked_on name memo told v x b k heeds h = record {
  history = h;
  first = first_begins x.list (seen_of memo) (b.known x k heeds).1 b.history ∙ b.first;
  named = named_along name v x b.named k;
  told_named = tt;
  known = λ z knows _. ((b.known z (goes_along x z v knows.0 knows.1 k) (heeds_along x z told knows.1 heeds)).0, knows.1);
}

pub looked : (name : SourceName) (memo memo' : List (List PlainState)) (told v w : Option NamedList) (x : NamedList) → Bound name memo told v → w ≡ Some x
    → Knows x v → Heeds x told → IsHistory x.list → memo' ≡ noted_seen memo x → Bound name memo' None w
looked name memo memo' told v w x b e k heeds h is = subst (λ (p : List (List PlainState) × Option NamedList). Bound name p.0 None p.1)
    (λ i. (sym is i, sym e i)) (looked_on name memo told v x b k heeds h)

-- the pane was told of r, and keeps k
heard_of : (name : SourceName) (memo : List (List PlainState)) (told v : Option NamedList) (r k : NamedList) → Bound name memo told v → Later told r k
    → r.name ≡ name → IsListed r → Bound name (noted_told memo r) (Some k) v
heard_of name memo told v r k b later named listed = record {
  history = either IsHistory (seen_of memo) r.list (nat_le (length (seen_of memo)) (length r.list)) b.history listed.history;
  first = either (λ z. first_revision z ≡ name.first) (seen_of memo) r.list (nat_le (length (seen_of memo)) (length r.list)) b.first
      (sym listed.first ∙ ap (λ n. n.first) named);
  named = b.named;
  told_named = later.0 ∙ named;
  known = λ z knows heeds.
      let both = later.1 z heeds in
      let old = b.known z knows both.0 in
      ((old.1, (both.1, old.0)), either (StartsWith z.list) (seen_of memo) r.list (nat_le (length (seen_of memo)) (length r.list)) old.1 both.1);
}

heard_at : (name : SourceName) (memo : List (List PlainState)) (told : Option NamedList) (r k : NamedList) (o : Option (Option NamedList))
    → Fits name memo told o → Later told r k → r.name ≡ name → IsListed r → is_some o ≡ true → Fits name (noted_told memo r) (Some k) o
heard_at name memo told r k None f later named listed some = absurd cc
heard_at name memo told r k (Some v) f later named listed some = heard_of name memo told v r k f later named listed

pub heard : (name : SourceName) (memo memo' : List (List PlainState)) (told old : Option NamedList) (r r' k : NamedList) (o : Option (Option NamedList))
    → Fits name memo told o → old ≡ told → memo' ≡ noted_told memo r → r ≡ r' → Later old r k → r'.name ≡ name → IsListed r' → is_some o ≡ true
    → Fits name memo' (Some k) o
heard name memo memo' told old r r' k o f eo el er later named listed some =
    subst (λ (z : List (List PlainState)). Fits name z (Some k) o) (sym el)
    (heard_at name memo told r k o f (subst (λ z. Later z r k) eo later) (ap (λ h. h.name) er ∙ named) (subst IsListed (sym er) listed) some)

pub some_mapped : {A B : Type 0} (f : A → B) (o : Option A) → is_some o ≡ true → is_some (option_map f o) ≡ true
some_mapped f None e = e
some_mapped f (Some a) e = refl

pub mapped : {A B : Type 0} (o : Option A) (a : A) (f : A → B) → o ≡ Some a → option_map f o ≡ Some (f a)
mapped o a f e = ap (option_map f) e

pub fits_at : (name : SourceName) (memo : List (List PlainState)) (told : Option NamedList) (o : Option (Option NamedList)) (v : Option NamedList)
    → o ≡ Some v → Fits name memo told o → Bound name memo told v
fits_at name memo told o v e f = subst (Fits name memo told) e f

pub told_ok : (v w : Option NamedList) (r : Result NamedList Missed) (x : NamedList) → r ≡ Ok x
    → MatchResult r (λ x. (w ≡ Some x) × Knows x v) (λ m. Glanced v w m) → (w ≡ Some x) × Knows x v
told_ok v w r x e h = subst (λ z. MatchResult z (λ x. (w ≡ Some x) × Knows x v) (λ m. Glanced v w m)) e h

pub told_err : (v w : Option NamedList) (r : Result NamedList Missed) (m : Missed) → r ≡ Err m
    → MatchResult r (λ x. (w ≡ Some x) × Knows x v) (λ m. Glanced v w m) → Glanced v w m
told_err v w r m e h = subst (λ z. MatchResult z (λ x. (w ≡ Some x) × Knows x v) (λ m. Glanced v w m)) e h

pub rises : (m n : ℕ) → m < 2 ^ 64 → n ≡ min (m + 1) (2 ^ 64 - 1) → Rose m n
rises m n lt e = omega arith

look_says : (name : SourceName) (memo : List (List PlainState)) (told v : Option NamedList) (x : NamedList) (y : PlainState) (l l' m r : ℕ)
    → Bound name memo told v → Knows x v → Heeds x told → IsHistory x.list → EndsWith x.list y → Rose l l'
    → Looked (sight_of name memo l m r true) (sight_of name (noted_seen memo x) l' m r true) y
look_says name memo told v x y l l' m r b k heeds h last rose = record {
  live = refl;
  rose = rose;
  misses = refl;
  refused = refl;
  more = (b.known x k heeds).1;
  all = (b.known x k heeds).0;
  last = last;
  history = h;
}

pub pane_looks : (name : SourceName) (memo memo' : List (List PlainState)) (told v : Option NamedList) (x : NamedList) (y : PlainState) (l l' m r : ℕ)
    (live : Bool) (s : Sight) → sight_of name memo l m r live ≡ s → live ≡ true → Bound name memo told v → Knows x v → Heeds x told → IsHistory x.list
    → EndsWith x.list y → Rose l l' → memo' ≡ noted_seen memo x
    → Looked s (sight_of name memo' l' m r true) y
pane_looks name memo memo' told v x y l l' m r live s es on b k heeds h last rose el =
    let e : sight_of name memo l m r true ≡ s = ap (sight_of name memo l m r) (sym on) ∙ es in
    subst (λ (p : Sight × List (List PlainState)). Looked p.0 (sight_of name p.1 l' m r true) y) (λ i. (e i, sym el i))
    (look_says name memo told v x y l l' m r b k heeds h last rose)

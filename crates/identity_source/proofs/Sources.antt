-- What a round does to the source's list.
use Rattle.std.proofs.Common.{◌≡◌, ℕ, ◌+◌, List, [], ◌∷◌, ◌++◌, length, refl, sym, ap, ◌∙◌, subst, append-nil, length-append, arith}
use Rattle.logbook.specs.Pages.{Book}
use Rattle.round_log.specs.Logged.{Logged}
use Rattle.identity_source.specs.State.{PlainState, IsOpening}
use Rattle.identity_source.specs.declared.attempt.Attempt.{Attempt}
use Rattle.identity_source.specs.History.{IsHistory, StartsWith, first_revision, last_revision}
use Rattle.identity_source.specs.Attempts.{tried, finished, committed, IsPublished, IsMark}
use Rattle.identity_source.specs.NamedList.{NamedList, named_list, appended, IsListed}
use Rattle.identity_source.specs.SourceParts.{IsBase}
use Rattle.identity_source.proofs.Covers.{committed_append}
use Rattle.identity_source.proofs.Histories.{goes_after, first_begins}

-- y may come next
pub record Next (x : NamedList) (y : PlainState) : Type 0 where
  pub up : y.revision ≡ last_revision x.list + 1
  pub no_opening : IsOpening y → ⊥

grown_history : (x : NamedList) (old : Logged Attempt) (y : PlainState) → IsBase x old → Next x y → IsHistory (x.list ++ y ∷ [])
grown_history x old y base next = goes_after x.list y base.listed.history next.up next.no_opening

first_grown : (x : NamedList) (old : Logged Attempt) (y : PlainState) → IsBase x old → Next x y → first_revision (x.list ++ y ∷ []) ≡ x.name.first
first_grown x old y base next = first_begins (x.list ++ y ∷ []) x.list (y ∷ [], refl) base.listed.history ∙ sym base.listed.first

pub grown : (x : NamedList) (old : Logged Attempt) (y : PlainState) (b : Book) (list : List PlainState) → IsBase x old → Next x y → b ≡ old.book
    → list ≡ x.list ++ y ∷ [] → named_list b list ≡ appended x y
grown x old y b list base next eb el =
    let first : first_revision list ≡ x.name.first = ap first_revision el ∙ first_grown x old y base next in
    let book : b ≡ x.name.book = eb ∙ sym (ap (λ h. h.name.book) base.is) in
    λ i. record { name = record { book = book i; first = first i }; list = el i }

grown_listed : (x : NamedList) (old : Logged Attempt) (y : PlainState) → IsBase x old → Next x y → IsListed (appended x y)
grown_listed x old y base next = record { history = grown_history x old y base next; first = sym (first_grown x old y base next) }

list_tried : (x : NamedList) (old : Logged Attempt) (log : List Attempt) (m : PlainState) → IsBase x old → log ≡ old.entries ++ tried m ∷ []
    → committed log ≡ x.list
list_tried x old log m base e = ap committed e ∙ (committed_append old.entries (tried m ∷ [])
    ∙ (append-nil (committed old.entries) ∙ sym (ap (λ h. h.list) base.is)))

list_done : (x : NamedList) (old : Logged Attempt) (log done : List Attempt) (m : PlainState) → IsBase x old → log ≡ old.entries ++ tried m ∷ []
    → done ≡ log ++ finished m ∷ [] → committed done ≡ x.list ++ m ∷ []
list_done x old log done m base e d = ap committed d ∙ (committed_append log (finished m ∷ [])
    ∙ ap (λ (z : List PlainState). z ++ m ∷ []) (list_tried x old log m base e))

list_given_up : (x : NamedList) (old : Logged Attempt) (log done : List Attempt) (m : PlainState) → IsBase x old → log ≡ old.entries ++ tried m ∷ []
    → done ≡ log ++ tried m ∷ [] → committed done ≡ x.list
list_given_up x old log done m base e d = ap committed d ∙ (committed_append log (tried m ∷ []) ∙ (append-nil (committed log) ∙ list_tried x old log m base e))

pub is_published : (x : NamedList) (old : Logged Attempt) (log token : List Attempt) (m y : PlainState) (len : ℕ) → IsBase x old → Next x y → m ≡ y
    → log ≡ old.entries ++ tried m ∷ [] → token ≡ log → len ≡ length log → IsPublished token y len
is_published x old log token m y len base next same e t long = record {
  before = old.entries;
  log_is = t ∙ (e ∙ (λ i. old.entries ++ tried (same i) ∷ []));
  length_is = long ∙ ap length (sym t);
  history = subst (λ (z : List PlainState). IsHistory (z ++ y ∷ [])) (sym (ap committed t ∙ list_tried x old log m base e)) (grown_history x old y base next);
}

pub published_is : (x published : NamedList) (old : Logged Attempt) (b : Book) (log token : List Attempt) (m y : PlainState) → IsBase x old → Next x y
    → log ≡ old.entries ++ tried m ∷ [] → token ≡ log → b ≡ old.book → published ≡ named_list b (committed token ++ y ∷ []) → published ≡ appended x y
published_is x published old b log token m y base next e t eb is =
    is ∙ grown x old y b (committed token ++ y ∷ []) base next eb (ap (λ (z : List PlainState). z ++ y ∷ []) (ap committed t ∙ list_tried x old log m base e))

pub may_publish : (x published : NamedList) (y : PlainState) → published ≡ appended x y → (published.name ≡ x.name) × StartsWith published.list x.list
may_publish x published y e = (ap (λ h. h.name) e, (y ∷ [], ap (λ h. h.list) e))

pub is_mark : (x : NamedList) (old : Logged Attempt) (log done : List Attempt) (m y : PlainState) (len : ℕ) → IsBase x old → Next x y → m ≡ y
    → log ≡ old.entries ++ tried m ∷ [] → done ≡ log ++ finished m ∷ [] → len ≡ length log → IsMark done m len
is_mark x old log done m y len base next same e d long = record {
  before = old.entries;
  log_is = d ∙ ap (λ (z : List Attempt). z ++ finished m ∷ []) e;
  length_is = (let l : length done ≡ length log + 1 = ap length d ∙ length-append log (finished m ∷ []) in omega arith);
  history = subst IsHistory (sym (list_done x old log done m base e d))
      (subst (λ (z : PlainState). IsHistory (x.list ++ z ∷ [])) (sym same) (grown_history x old y base next));
}

pub mark_is : (x mark : NamedList) (old : Logged Attempt) (b : Book) (log done : List Attempt) (m y : PlainState) → IsBase x old → Next x y → m ≡ y
    → log ≡ old.entries ++ tried m ∷ [] → done ≡ log ++ finished m ∷ [] → b ≡ old.book → mark ≡ named_list b (committed done) → mark ≡ appended x y
mark_is x mark old b log done m y base next same e d eb is =
    is ∙ grown x old y b (committed done) base next eb (list_done x old log done m base e d ∙ (λ i. x.list ++ same i ∷ []))

pub base_done : (x x' : NamedList) (old new : Logged Attempt) (log : List Attempt) (m y : PlainState) → IsBase x old → Next x y → m ≡ y
    → log ≡ old.entries ++ tried m ∷ [] → new.book ≡ old.book → new.entries ≡ log ++ finished m ∷ [] → x' ≡ appended x y → IsBase x' new
base_done x x' old new log m y base next same e eb d is = record {
  is = is ∙ sym (mark_is x (named_list new.book (committed new.entries)) old new.book log new.entries m y base next same e d eb refl);
  listed = subst IsListed (sym is) (grown_listed x old y base next);
}

pub base_given_up : (x x' : NamedList) (old new : Logged Attempt) (log : List Attempt) (m : PlainState) → IsBase x old → log ≡ old.entries ++ tried m ∷ []
    → new.book ≡ old.book → new.entries ≡ log ++ tried m ∷ [] → x' ≡ x → IsBase x' new
base_given_up x x' old new log m base e eb d is = record {
  is = is ∙ (base.is ∙ (λ i. named_list (sym eb i) ((ap (λ h. h.list) (sym base.is) ∙ sym (list_given_up x old log new.entries m base e d)) i)));
  listed = subst IsListed (sym is) base.listed;
}

-- The text that is written, put together.
use Rattle.std.proofs.Common.{◌≡◌, ℕ, zero, suc, ◌+◌, ◌<◌, ◌≤◌, min, List, length, map, take, drop, All, [], ◌∷◌, ◌++◌, get_or, None, Some, IfSome, vec_len}
use Rattle.std.proofs.Common.{refl, sym, ◌∙◌, ap, subst, arith}
use Rattle.std.specs.Prelude.{Vec}
use Rattle.std.specs.Global.{Global}
use Rattle.std.specs.declared.option.Option.{Option}
use Rattle.std.specs.Io.KnownBytes.{Appends}
use Rattle.identity_io.specs.Whole.{AppendsPrefix}
use Rattle.identity_source.specs.State.{PlainState, opening}
use Rattle.identity_source.specs.History.{last_revision}
use Rattle.tool_script.specs.Request.{PlainRequest}
use Rattle.tool_script.specs.Replies.{AreReplies}
use Rattle.tool_script.specs.Script.{WatchScript}
use Rattle.tool_script.specs.declared.request.Ending.TheVariants as ending
use Rattle.tool_watch.specs.Applied.{IsList, HaveReplies}
use Rattle.tool_watch.specs.Asked.{IsAsked, updates_in, queries_of}
use Rattle.tool_watch.specs.Seen.{IsReady, IsSeen}
use Rattle.tool_watch.specs.WatchText.{AreWorkers, IsWatched, WatchText, WorksOn, workers_at}
use Rattle.tool_watch.specs.declared.asked.Query.{Query}
use Rattle.tool_watch.specs.declared.working.Job.{Job}
use Rattle.tool_watch.proofs.Lists.{last_place, replies_long}
use Rattle.tool_watch.proofs.Workers.{workers_are}

abbrev pub lists_of : List (Vec ℕ Global) → List (List ℕ)
lists_of all = map (λ revisions. revisions.items) all

-- what each worker saw
abbrev pub EachSaw : List Job → ℕ → List (Vec ℕ Global) → Type 0
EachSaw jobs count all = (i : ℕ) (d : Vec ℕ Global) (j : Job) → i < length jobs
    → IsSeen (last_revision (get_or jobs i j).reader.list) count (get_or all i d).items

length-lists : (all : List (Vec ℕ Global)) → length (lists_of all) ≡ length all
length-lists [] = refl
length-lists (a ∷ more) = ap suc (length-lists more)

lists_at : (all : List (Vec ℕ Global)) (k : ℕ) (d : Vec ℕ Global) (e : List ℕ) → k < length all → get_or (lists_of all) k e ≡ (get_or all k d).items
lists_at [] k d e low = absurd (omega arith)
lists_at (a ∷ more) zero d e low = refl
lists_at (a ∷ more) (suc k) d e low = lists_at more k d e (omega arith)

-- each saw what its reader may give from the list on
one_saw : (list : List PlainState) (count : ℕ) (jobs : List Job) (all : List (Vec ℕ Global)) (k : ℕ) (d : Vec ℕ Global) → All (IsReady list count) jobs
    → EachSaw jobs count all → k < length jobs
    → IsSeen (last_revision list) count (get_or all k d).items
one_saw list count [] all k d ready each low = absurd (omega arith)
one_saw list count (j ∷ js) all k d ready each low =
    let r : IsReady list count (get_or (j ∷ js) k j) = ready k j low in
    subst (λ (l : List PlainState). IsSeen (last_revision l) count (get_or all k d).items) r.at (each k d j low)

pub all_saw : (list : List PlainState) (count : ℕ) (jobs : List Job) (all : List (Vec ℕ Global)) → All (IsReady list count) jobs → EachSaw jobs count all
    → length all ≡ length jobs
    → All (IsSeen (last_revision list) count) (lists_of all)
all_saw list count jobs [] ready each many = λ k e low. absurd (omega (arith, low))
all_saw list count jobs (a ∷ more) ready each many = λ k e low.
    let inside : k < length (a ∷ more) = omega (arith, low, length-lists (a ∷ more)) in
    subst (λ (l : List ℕ). IsSeen (last_revision list) count l) (sym (lists_at (a ∷ more) k a e inside))
    (one_saw list count jobs (a ∷ more) k a ready each (omega (arith, inside, many)))

-- each saw as often as there are queries
pub all_many : (list : List PlainState) (count : ℕ) (jobs : List Job) (all : List (Vec ℕ Global)) → All (IsReady list count) jobs → EachSaw jobs count all
    → length all ≡ length jobs
    → All (λ revisions. vec_len revisions ≡ count) all
all_many list count jobs all ready each many = λ k d low.
    let s : IsSeen (last_revision list) count (get_or all k d).items = one_saw list count jobs all k d ready each (omega (arith, low, many)) in
    omega (arith, s.many, (get_or all k d).ok.0)

-- the rest of the updates is answered, and the workers stand behind
pub works_on : (width workers : ℕ) (list list' : List PlainState) (updates : List PlainRequest) (queries : List Query) (before replies text : List ℕ)
    (seen : List (Vec ℕ Global)) → IsList list → IsList list'
    → HaveReplies width list updates list' before replies → length seen ≡ workers → All (IsSeen (last_revision list) (length queries)) (lists_of seen)
    → text ≡ replies ++ workers_at list' queries (lists_of seen) (length seen) → WorksOn width workers list updates queries before text
works_on width workers list list' updates queries before replies text seen h h' r many all says =
    let low : last_revision list + 1 ≤ length list' = omega (arith, last_place list h, replies_long width list updates list' r.text r.replies) in
    record {
      accepted = list';
      more = r.text;
      own = workers_at list' queries (lists_of seen) (length seen);
      goes_on = r.replies;
      answers = subst (λ (n : ℕ). AreWorkers list' (last_revision list) queries n (workers_at list' queries (lists_of seen) (length seen))) many
          (workers_are list' (last_revision list) queries (lists_of seen) (length seen) h' (omega (arith, low)) (omega (arith, low)) all
          (omega (arith, length-lists seen)));
      says = says ∙ ap (λ l. l ++ workers_at list' queries (lists_of seen) (length seen)) r.stand;
    }

first_part : (texts : List (Vec ℕ Global)) → updates_in (take (min (length texts) 1) texts) ≡ take 1 (updates_in texts)
first_part [] = refl
first_part (t ∷ ts) = let one : min (length (t ∷ ts)) 1 ≡ 1 = omega arith in ap (λ n. updates_in (take n (t ∷ ts))) one

rest_part : (texts : List (Vec ℕ Global)) → updates_in (drop (min (length texts) 1) texts) ≡ drop 1 (updates_in texts)
rest_part [] = refl
rest_part (t ∷ ts) = let one : min (length (t ∷ ts)) 1 ≡ 1 = omega arith in ap (λ n. updates_in (drop n (t ∷ ts))) one

-- both parts of the updates together
pub whole_text : (width workers jobs : ℕ) (first : List PlainState) (texts lent front back : List (Vec ℕ Global)) (queries asked : List Query) (n : ℕ)
    (replies text : List ℕ) → jobs ≡ workers → lent ≡ texts → asked ≡ queries
    → n ≡ min (length lent) 1 → front ≡ take n lent → back ≡ drop n lent → HaveReplies width (opening 0 ∷ []) (updates_in front) first [] replies
    → WorksOn width jobs first (updates_in back) asked replies text
    → IsWatched width workers (updates_in texts) queries text
whole_text width workers jobs first texts lent front back queries asked n replies text many lends asks at begins rests r w =
    let fronts : updates_in front ≡ take 1 (updates_in texts) = ap updates_in (begins ∙ ap (λ k. take k lent) at)
    ∙ (first_part lent ∙ ap (λ l. take 1 (updates_in l)) lends) in
    let backs : updates_in back ≡ drop 1 (updates_in texts) = ap updates_in (rests ∙ ap (λ k. drop k lent) at)
    ∙ (rest_part lent ∙ ap (λ l. drop 1 (updates_in l)) lends) in
    record {
      first = first;
      accepted = w.accepted;
      reply = replies;
      more = w.more;
      own = w.own;
      begins = subst (λ (l : List ℕ). AreReplies width (opening 0 ∷ []) (take 1 (updates_in texts)) first l) (sym r.stand)
          (subst (λ (us : List PlainRequest). AreReplies width (opening 0 ∷ []) us first r.text) fronts r.replies);
      goes_on = subst (λ (us : List PlainRequest). AreReplies width first us w.accepted w.more) backs w.goes_on;
      answers = subst (λ (k : ℕ). AreWorkers w.accepted (last_revision first) queries k w.own) many
          (subst (λ (l : List Query). AreWorkers w.accepted (last_revision first) l jobs w.own) asks w.answers);
      says = w.says;
    }

-- the whole of it is written
pub all_written : (width workers : ℕ) (left w w' : Option (List ℕ)) (updates : List PlainRequest) (queries : List Query) (text : List ℕ)
    → IsAsked left updates queries → IsWatched width workers updates queries text → Appends w w' text
    → IfSome left (λ bytes. (requests : List PlainRequest) ×
    (WatchScript bytes requests ending.Done × ((written : List ℕ) × (WatchText width workers requests written × Appends w w' written))))
all_written width workers None w w' updates queries text asked is wrote = tt
all_written width workers (Some xs) w w' updates queries text (requests, (script, (ups, qs))) is wrote = (
  requests,
  (
    script,
    (
      text,
      (
        subst (λ (us : List PlainRequest). IsWatched width workers us (queries_of requests) text) ups
            (subst (λ (l : List Query). IsWatched width workers updates l text) qs is),
        wrote,
      ),
    ),
  ),
)

-- a first part of it is written
pub part_written : (width workers : ℕ) (left w w' : Option (List ℕ)) (updates : List PlainRequest) (queries : List Query) (text : List ℕ)
    → IsAsked left updates queries → IsWatched width workers updates queries text → AppendsPrefix w w' text
    → IfSome left (λ bytes. (requests : List PlainRequest) ×
    (WatchScript bytes requests ending.Done × ((written : List ℕ) × (WatchText width workers requests written × AppendsPrefix w w' written))))
part_written width workers None w w' updates queries text asked is wrote = tt
part_written width workers (Some xs) w w' updates queries text (requests, (script, (ups, qs))) is wrote = (
  requests,
  (
    script,
    (
      text,
      (
        subst (λ (us : List PlainRequest). IsWatched width workers us (queries_of requests) text) ups
            (subst (λ (l : List Query). IsWatched width workers updates l text) qs is),
        wrote,
      ),
    ),
  ),
)

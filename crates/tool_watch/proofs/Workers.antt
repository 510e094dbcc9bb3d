-- What the workers saw, and what is written of it.
use Rattle.std.proofs.Common.{◌≡◌, ℕ, zero, suc, ◌+◌, ◌-◌, ◌<◌, ◌≤◌, min, List, length, take, All, [], ◌∷◌, ◌++◌, get_or, Some, refl, sym, ◌∙◌, ap, subst}
use Rattle.std.proofs.Common.{arith, append_assoc, add-one}
use Rattle.std.proofs.lemmas.List.{append-nil}
use Rattle.std.proofs.lemmas.Option.{slice_get-get_or}
use Rattle.std.specs.Prelude.{slice_get}
use Rattle.identity_source.specs.State.{PlainState, opening}
use Rattle.tool_watch.specs.Applied.{IsList}
use Rattle.tool_watch.specs.Seen.{Rises, last_of, IsSeen}
use Rattle.tool_watch.specs.WatchText.{query_reply, IsStateOf, AreAnswers, AreWorkers, state_at, answers_at, workers_at, worker_line}
use Rattle.tool_watch.specs.declared.asked.Query.{Query}
use Rattle.tool_watch.proofs.Lists.{placed}

rises_snoc : (least : ℕ) (rs : List ℕ) (r : ℕ) → Rises least rs → last_of least rs ≤ r → Rises least (rs ++ r ∷ [])
rises_snoc least [] r h low = (low, tt)
rises_snoc least (x ∷ rs) r h low = (h.0, rises_snoc x rs r h.1 low)

last_snoc : (least : ℕ) (rs : List ℕ) (r : ℕ) → last_of least (rs ++ r ∷ []) ≡ r
last_snoc least [] r = refl
last_snoc least (x ∷ rs) r = last_snoc x rs r

-- a reader looks once more
pub seen_more : (least : ℕ) (rs rs' : List ℕ) (before now r : ℕ) → Rises least rs → last_of least rs ≤ before → before ≤ r → r ≡ now → rs' ≡ rs ++ r ∷ []
    → Rises least rs' × (last_of least rs' ≤ now)
seen_more least rs rs' before now r h low up is more = (
  subst (λ (l : List ℕ). Rises least l) (sym more) (rises_snoc least rs r h (omega arith)),
  omega (arith, ap (last_of least) more, last_snoc least rs r),
)

-- the state of a revision stands in the list
state_placed : (list : List PlainState) (r : ℕ) → IsList list → 0 < length list → (state_at list r).revision ≡ min r (length list - 1)
state_placed list r h some = placed list (min r (length list - 1)) (opening 0) h (omega arith)

state_is : (list : List PlainState) (r : ℕ) → IsList list → 0 < length list → IsStateOf list (state_at list r)
state_is list r h some =
    subst (λ (i : ℕ). slice_get list i ≡ Some (state_at list r)) (sym (state_placed list r h some))
    (slice_get-get_or list (min r (length list - 1)) (opening 0) (omega arith))

-- answers in the states of revisions that never fall
answers_rise : (list : List PlainState) (least bound : ℕ) (qs : List Query) (rs : List ℕ) → IsList list → 0 < length list → length rs ≡ length qs
    → least ≤ bound → Rises bound rs → least ≤ length list - 1
    → (last : ℕ) × AreAnswers list least qs last (answers_at list qs rs)
answers_rise list least bound [] rs h some many low rise within = (least, (refl, refl))
answers_rise list least bound (q ∷ qs) [] h some many low rise within = absurd (omega arith)
answers_rise list least bound (q ∷ qs) (r ∷ rs) h some many low rise within =
    let at : (state_at list r).revision ≡ min r (length list - 1) = state_placed list r h some in
    let next = answers_rise list (state_at list r).revision r qs rs h some (omega arith) (omega arith) rise.1 (omega arith) in
    (next.0, (state_at list r, (answers_at list qs rs, (state_is list r h some, (omega (arith, rise.0), (next.1, refl))))))

-- the workers, where each saw what a reader may give
pub workers_are : (list : List PlainState) (least : ℕ) (queries : List Query) (seen : List (List ℕ)) (n : ℕ) → IsList list → 0 < length list
    → least ≤ length list - 1 → All (IsSeen least (length queries)) seen
    → n ≤ length seen → AreWorkers list least queries n (workers_at list queries seen n)
workers_are list least queries seen zero h some within all few = refl
workers_are list least queries seen (suc n) h some within all few =
    let s : IsSeen least (length queries) (get_or seen n []) = all n [] (omega arith) in
    let a = answers_rise list least least queries (get_or seen n []) h some s.many (omega arith) s.rise within in (
      workers_at list queries seen n,
      (
        worker_line n ++ answers_at list queries (get_or seen n []),
        (
          workers_are list least queries seen n h some within all (omega arith),
          (record { last = a.0; answers = answers_at list queries (get_or seen n []); replies = a.1; says = refl }, refl),
        ),
      ),
    )

answers_suc : (list : List PlainState) (qs : List Query) (rs : List ℕ) (k : ℕ) (q : Query) → k < length qs → k < length rs → q ≡ get_or qs k q
    → answers_at list (take (suc k) qs) (take (suc k) rs) ≡ answers_at list (take k qs) (take k rs) ++ query_reply q (state_at list (get_or rs k 0))
answers_suc list [] rs k q low small is = absurd (omega arith)
answers_suc list (p ∷ qs) [] k q low small is = absurd (omega arith)
answers_suc list (p ∷ qs) (r ∷ rs) zero q low small is =
    append-nil (query_reply p (state_at list r)) ∙ ap (λ x. query_reply x (state_at list r)) (sym is)
answers_suc list (p ∷ qs) (r ∷ rs) (suc k) q low small is =
    ap (λ l. query_reply p (state_at list r) ++ l) (answers_suc list qs rs k q (omega arith) (omega arith) is)
    ∙ sym (append_assoc (query_reply p (state_at list r)) (answers_at list (take k qs) (take k rs)) (query_reply q (state_at list (get_or rs k 0))))

-- one more query is answered
pub answers_more : (list : List PlainState) (qs : List Query) (rs : List ℕ) (k : ℕ) (q : Query) (before text now reply : List ℕ) → k < length qs
    → k < length rs → q ≡ get_or qs k q
    → text ≡ before ++ answers_at list (take k qs) (take k rs) → reply ≡ query_reply q (state_at list (get_or rs k 0)) → now ≡ text ++ reply
    → now ≡ before ++ answers_at list (take (k + 1) qs) (take (k + 1) rs)
answers_more list qs rs k q before text now reply low small is so_far says more =
    more ∙ (ap (λ l. l ++ reply) so_far
    ∙ (append_assoc before (answers_at list (take k qs) (take k rs)) reply
    ∙ ap (λ l. before ++ l) (ap (λ l. answers_at list (take k qs) (take k rs) ++ l) says
    ∙ (sym (answers_suc list qs rs k q low small is) ∙ ap (λ n. answers_at list (take n qs) (take n rs)) (sym (add-one k))))))

-- one more worker is written
pub workers_more : (list : List PlainState) (queries : List Query) (seen : List (List ℕ)) (n : ℕ) (own before text lined now : List ℕ)
    → own ≡ get_or seen n [] → text ≡ before ++ workers_at list queries seen n
    → lined ≡ text ++ worker_line n → now ≡ lined ++ answers_at list queries own → now ≡ before ++ workers_at list queries seen (n + 1)
workers_more list queries seen n own before text lined now is so_far line more =
    more ∙ (ap (λ l. l ++ answers_at list queries own) (line ∙ ap (λ l. l ++ worker_line n) so_far)
    ∙ (append_assoc (before ++ workers_at list queries seen n) (worker_line n) (answers_at list queries own)
    ∙ (append_assoc before (workers_at list queries seen n) (worker_line n ++ answers_at list queries own)
    ∙ (ap (λ l. before ++ (workers_at list queries seen n ++ (worker_line n ++ answers_at list queries l))) is
    ∙ ap (λ m. before ++ workers_at list queries seen m) (sym (add-one n))))))

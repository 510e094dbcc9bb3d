-- What `watch` writes.
use Rattle.std.specs.Prelude.{◌≡◌, ℕ, zero, suc, ◌-◌, ◌≤◌, List, [], ◌∷◌, ◌++◌, Some, length, min, take, drop, codes, decimal, slice_get, slice_index_or}
use Rattle.identity_source.specs.State.{PlainState, opening}
use Rattle.identity_source.specs.History.{last_revision}
use Rattle.tool_script.specs.Request.{PlainRequest}
use Rattle.tool_script.specs.Reply.{svid_reply, bundle_reply}
use Rattle.tool_script.specs.Replies.{AreReplies}
use Rattle.tool_watch.specs.Asked.{updates_of, queries_of}
use Rattle.tool_watch.specs.declared.asked.Query.{Query}
use Rattle.tool_watch.specs.declared.asked.Query.TheVariants.{Svid, Bundle}

-- what a query is answered in a state
abbrev pub query_reply : Query → PlainState → List ℕ
query_reply Svid x = svid_reply x
query_reply (Bundle domain) x = bundle_reply domain x

-- the state of its revision in the list, whose revisions count from 0
abbrev pub IsStateOf : List PlainState → PlainState → Type 0
IsStateOf list x = slice_get list x.revision ≡ Some x

-- one reply to each query, each in a state of the list; revisions never fall from `least` on to `last`
abbrev pub AreAnswers : List PlainState → ℕ → List Query → ℕ → List ℕ → Type 0
AreAnswers list least [] last text = (last ≡ least) × (text ≡ [])
AreAnswers list least (q ∷ qs) last text = (x : PlainState) × ((more : List ℕ)
    × (IsStateOf list x × ((least ≤ x.revision) × (AreAnswers list x.revision qs last more × (text ≡ query_reply q x ++ more)))))

abbrev pub worker_line : ℕ → List ℕ
worker_line number = codes "worker " ++ (decimal number ++ codes "\n")

-- the line of a worker, and its answers
pub record IsWorker (list : List PlainState) (least : ℕ) (queries : List Query) (number : ℕ) (text : List ℕ) : Type 0 where
  pub last : ℕ
  pub answers : List ℕ
  pub replies : AreAnswers list least queries last answers
  pub says : text ≡ worker_line number ++ answers

-- so many workers one behind another, from worker 0 on
abbrev pub AreWorkers : List PlainState → ℕ → List Query → ℕ → List ℕ → Type 0
AreWorkers list least queries zero text = text ≡ []
AreWorkers list least queries (suc n) text = (before : List ℕ)
    × ((own : List ℕ) × (AreWorkers list least queries n before × (IsWorker list least queries n own × (text ≡ before ++ own))))

-- the replies to the updates in order, and behind them the workers, none of which answers from before the first update
pub record IsWatched (width workers : ℕ) (updates : List PlainRequest) (queries : List Query) (text : List ℕ) : Type 0 where
  pub first : List PlainState
  pub accepted : List PlainState
  pub reply : List ℕ
  pub more : List ℕ
  pub own : List ℕ
  pub begins : AreReplies width (opening 0 ∷ []) (take 1 updates) first reply
  pub goes_on : AreReplies width first (drop 1 updates) accepted more
  pub answers : AreWorkers accepted (last_revision first) queries workers own
  pub says : text ≡ (reply ++ more) ++ own

-- these updates are answered behind what was written before, and behind them stand the workers, none of which answers from before the list
pub record WorksOn (width workers : ℕ) (list : List PlainState) (updates : List PlainRequest) (queries : List Query) (before text : List ℕ) : Type 0 where
  pub accepted : List PlainState
  pub more : List ℕ
  pub own : List ℕ
  pub goes_on : AreReplies width list updates accepted more
  pub answers : AreWorkers accepted (last_revision list) queries workers own
  pub says : text ≡ (before ++ more) ++ own

-- a text that `watch` may write for these requests
abbrev pub WatchText : ℕ → ℕ → List PlainRequest → List ℕ → Type 0
WatchText width workers requests text = IsWatched width workers (updates_of requests) (queries_of requests) text

-- the state of a revision, or the list's last one where it has none
abbrev pub state_at : List PlainState → ℕ → PlainState
state_at list revision = slice_index_or list (min revision (length list - 1)) (opening 0)

-- the replies to queries in the states of these revisions
abbrev pub answers_at : List PlainState → List Query → List ℕ → List ℕ
answers_at list [] revisions = []
answers_at list (q ∷ qs) [] = []
answers_at list (q ∷ qs) (r ∷ rs) = query_reply q (state_at list r) ++ answers_at list qs rs

-- the first so many workers, each with the revisions that it saw
abbrev pub workers_at : List PlainState → List Query → List (List ℕ) → ℕ → List ℕ
workers_at list queries seen zero = []
workers_at list queries seen (suc n) = workers_at list queries seen n ++ (worker_line n ++ answers_at list queries (slice_index_or seen n []))

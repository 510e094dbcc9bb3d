-- The replies to requests, and the states that a source has had behind them.
use Rattle.std.specs.Prelude.{◌≡◌, ◌≢◌, ◌⊎◌, ℕ, List, [], ◌∷◌, ◌++◌}
use Rattle.identity_update.specs.declared.error.UpdateError.{UpdateError}
use Rattle.identity_update.specs.declared.error.UpdateError.TheVariants.{OutOfMemory}
use Rattle.identity_source.specs.State.{PlainState}
use Rattle.identity_source.specs.History.{EndsWith, last_revision}
use Rattle.identity_source.specs.Verdict.{IsNextState, RefusesNext}
use Rattle.refusal_lines.specs.Refusal.{refusal_line}
use Rattle.tool_script.specs.Request.{PlainRequest}
use Rattle.tool_script.specs.Request.PlainRequest.{Update, Svid, Bundle}
use Rattle.tool_script.specs.Reply.{accepted_reply, svid_reply, bundle_reply}

-- the list goes on by the state that the text lawfully writes
pub record Accepts (width : ℕ) (list : List PlainState) (text : List ℕ) (list' : List PlainState) (reply : List ℕ) : Type 0 where
  pub state : PlainState
  pub next : IsNextState (last_revision list) width text state
  pub goes_on : list' ≡ list ++ state ∷ []
  pub says : reply ≡ accepted_reply state.revision

-- the text breaks a rule, and the list stays
pub record Refuses (width : ℕ) (list : List PlainState) (text : List ℕ) (list' : List PlainState) (reply : List ℕ) : Type 0 where
  pub error : UpdateError
  pub rule : error ≢ OutOfMemory
  pub breaks : RefusesNext (last_revision list) width text error
  pub stays : list' ≡ list
  pub says : reply ≡ refusal_line error

-- a query is answered in the last state, and the list stays
pub record Tells (list list' : List PlainState) (reply : List ℕ) (reply_in : PlainState → List ℕ) : Type 0 where
  pub state : PlainState
  pub last : EndsWith list state
  pub stays : list' ≡ list
  pub says : reply ≡ reply_in state

-- what a request does to the list of states, and what it is answered
abbrev pub IsReply : ℕ → List PlainState → PlainRequest → List PlainState → List ℕ → Type 0
IsReply width list (Update text) list' reply = Accepts width list text list' reply ⊎ Refuses width list text list' reply
IsReply width list Svid list' reply = Tells list list' reply svid_reply
IsReply width list (Bundle name domain) list' reply = Tells list list' reply (bundle_reply domain)

-- the replies to requests one after another, from this list of states on, and the list behind them
abbrev pub AreReplies : ℕ → List PlainState → List PlainRequest → List PlainState → List ℕ → Type 0
AreReplies width list [] list' text = (list' ≡ list) × (text ≡ [])
AreReplies width list (q ∷ qs) list' text = (next : List PlainState) × ((reply : List ℕ) × ((more : List ℕ)
    × (IsReply width list q next reply × AreReplies width next qs list' more × (text ≡ reply ++ more))))

-- What applying has come to.
use Rattle.std.specs.Prelude.{◌≡◌, ℕ, List, ◌++◌}
use Rattle.identity_source.specs.State.{PlainState}
use Rattle.identity_source.specs.History.{IsHistory, first_revision}
use Rattle.tool_script.specs.Request.{PlainRequest}
use Rattle.tool_script.specs.Replies.{AreReplies}

-- a list of states whose revisions count from 0
pub record IsList (list : List PlainState) : Type 0 where
  pub history : IsHistory list
  pub first : first_revision list ≡ 0

-- a source with this list and a share of each of its states
pub record IsKept (list states : List PlainState) : Type 0 where
  pub is_list : IsList list
  pub same : states ≡ list

-- these updates were answered behind what was written before: the list went on to list', and their replies stand behind
pub record HaveReplies (width : ℕ) (list : List PlainState) (updates : List PlainRequest) (list' : List PlainState) (before now : List ℕ) : Type 0 where
  pub text : List ℕ
  pub replies : AreReplies width list updates list' text
  pub stand : now ≡ before ++ text

-- The state that a source and its reader have after one update.
use Rattle.std.proofs.Common.{◌≡◌, ◌≢◌, ℕ, ◌+◌, ◌⊎◌, inl, inr, List, [], ◌∷◌, ◌++◌, refl, sym, ap, ◌∙◌, subst}
use Rattle.identity_source.specs.History.{EndsWith, IsHistory, StartsWith, last_revision}
use Rattle.identity_source.specs.NamedList.{NamedList, appended}
use Rattle.identity_source.specs.Reader.{PlainReader, Renewed}
use Rattle.identity_source.specs.Sight.{longer}
use Rattle.identity_source.specs.State.{PlainState, opening}
use Rattle.identity_source.specs.Verdict.{IsNextState}
use Rattle.tool_commands.specs.Outcome.{Answers}
use Rattle.tool_commands.specs.Report.{report_of}
use Rattle.command_line.specs.declared.status.Status.TheVariants.{Done}

-- the receipt's list is the opening state and the next one
receipt_list : (old receipt : NamedList) (x : PlainState) → old.list ≡ opening 0 ∷ [] → receipt ≡ appended old x → receipt.list ≡ opening 0 ∷ x ∷ []
receipt_list old receipt x opened is = ap (λ r. r.list) is ∙ ap (λ (l : List PlainState). l ++ x ∷ []) opened

pub receipt_ends : (old receipt : NamedList) (x : PlainState) → receipt ≡ appended old x → EndsWith receipt.list x
receipt_ends old receipt x is = (old.list, ap (λ r. r.list) is)

pub receipt_revision : (old receipt : NamedList) (x : PlainState) → old.list ≡ opening 0 ∷ [] → receipt ≡ appended old x
    → last_revision receipt.list ≡ x.revision
receipt_revision old receipt x opened is = ap last_revision (receipt_list old receipt x opened is)

-- a reader that is told of it answers from there
pub begins_with_receipt : (old receipt : NamedList) (x : PlainState) (fresh told now : List PlainState) → old.list ≡ opening 0 ∷ [] → receipt ≡ appended old x
    → fresh ≡ old.list → told ≡ longer fresh receipt.list → StartsWith now told → StartsWith now receipt.list
begins_with_receipt old receipt x fresh told now opened is fresh_is told_is begins =
    let list : receipt.list ≡ opening 0 ∷ x ∷ [] = receipt_list old receipt x opened is in
    let first : longer fresh receipt.list ≡ longer (opening 0 ∷ []) receipt.list = ap (λ (l : List PlainState). longer l receipt.list) (fresh_is ∙ opened) in
    let second : longer (opening 0 ∷ []) receipt.list ≡ opening 0 ∷ x ∷ [] = ap (λ (l : List PlainState). longer (opening 0 ∷ []) l) list in
    subst (λ (l : List PlainState). StartsWith now l) (told_is ∙ (first ∙ (second ∙ sym list))) begins

-- a revision names one state of a list
abbrev pub OneState : Type 0
OneState = (whole seen : List PlainState) (x y : PlainState) → IsHistory whole → IsHistory seen → StartsWith whole seen → EndsWith seen x → EndsWith whole y
    → y.revision ≡ x.revision → y ≡ x

-- what the reader gives at the receipt's revision is the next state
pub seen_is : OneState → (old receipt : NamedList) (x y : PlainState) (fresh : List PlainState) {told now : PlainReader} → old.list ≡ opening 0 ∷ []
    → receipt ≡ appended old x
    → fresh ≡ old.list → told.list ≡ longer fresh receipt.list → Renewed told now × EndsWith now.list y → IsHistory receipt.list
    → y.revision ≡ last_revision receipt.list → y ≡ x
seen_is law old receipt x y fresh {told = told} {now = now} opened is fresh_is told_is renewed history same =
    law now.list receipt.list x y renewed.0.history history (begins_with_receipt old receipt x fresh told.list now.list opened is fresh_is told_is
    renewed.0.begins)
    (receipt_ends old receipt x is) renewed.1 (same ∙ receipt_revision old receipt x opened is)

-- of two states of which each is the next one where it counts, either is it
pub chosen_is : (seen latest y x : PlainState) (revision : ℕ) → ((seen.revision ≡ revision) × (y ≡ seen)) ⊎ ((seen.revision ≢ revision) × (y ≡ latest))
    → (seen.revision ≡ revision → seen ≡ x) → latest ≡ x → y ≡ x
chosen_is seen latest y x revision (inl p) seen_is latest_is = p.1 ∙ seen_is p.0
chosen_is seen latest y x revision (inr p) seen_is latest_is = p.1 ∙ latest_is

-- the report of that state is the one of the update that the text writes, as revision 1
pub is_reported : (width : ℕ) (text printed : List ℕ) (old : NamedList) (x y : PlainState) → old.list ≡ opening 0 ∷ []
    → IsNextState (last_revision old.list) width text x
    → y ≡ x → printed ≡ report_of y.revision y.update → Answers width text printed Done
is_reported width text printed old x y opened next same is =
    let next' : IsNextState 0 width text x = subst (λ (l : List PlainState). IsNextState (last_revision l) width text x) opened next in
    (x.update, next'.update, is ∙ (ap (λ (z : PlainState). report_of z.revision z.update) same ∙ ap (λ (n : ℕ). report_of n x.update) next'.revision))

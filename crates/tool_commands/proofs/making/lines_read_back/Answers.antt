use Rattle.std.proofs.Common.{◌≡◌, ◌∙◌, List, ℕ, ap, length, subst, sym}
use Rattle.base64ct.specs.declared.line_ending.LineEnding.TheVariants.{LF}
use Rattle.identity_update.specs.Parts.{UpdateParts}
use Rattle.identity_update.specs.Reading.{Writes}
use Rattle.identity_update.specs.Text.{update_text}
use Rattle.tool_commands.specs.Made.{made_update, update_lines}
use Rattle.tool_commands.proofs.Made.{if_says, lines_made}
use Rattle.tool_commands.proofs.making.lines_read_back.Goals as goal

pub returns : goal.returns
returns c =
    let bytes = c.as_bytes-bytes.result.now in
    let update = c.in_ok-update.update in
    let written : Writes 64 bytes update = subst (λ (t : List ℕ). Writes 64 t update) (sym c.as_bytes-bytes.ensures.value) c.in-Ok.ensures.reading in
    let same : c.in-Ok-read.read ≡ made_update c.args.n = c.text_has_one_reading.ensures.update 64 bytes c.in-Ok-read.read update c.in-Ok-read.ensures.value
    written ∙ c.in_ok-update.ensures in
    let size : length bytes ≡ length (update_text 64 LF (made_update c.args.n)) =
    ap length (c.as_bytes-bytes.ensures.value ∙ (c.in-Ok.ensures.text ∙ ap (λ (u : UpdateParts). update_text 64 LF u) c.in_ok-update.ensures)) in
    if_says c.lines.result (λ v. v.items) _ _ c.lines.ensures
    (ap (λ (u : UpdateParts). update_lines u (length bytes)) same
    ∙ (ap (λ (k : ℕ). update_lines (made_update c.args.n) k) size ∙ lines_made c.args.n c.requires.0 _))

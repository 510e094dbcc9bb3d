-- What a line says.
use Rattle.std.specs.Prelude.{◌≡◌, ◌≢◌, ◌<◌, ◌^◌, List, ℕ, ◌++◌, codes, decimal}
use Rattle.tool_script.specs.Request.{Names}
use Rattle.tool_script.specs.declared.line.Form.{Form}
use Rattle.tool_script.specs.declared.line.Form.TheVariants.{Svid, Bundle, Update}
use Rattle.tool_script.specs.declared.line.Line.{Line}
use Rattle.tool_script.specs.declared.line.Line.TheVariants.{End, Request, Other}

-- it is the line of a request of this form
abbrev pub Tells : List ℕ → Form → Type 0
Tells line Svid = line ≡ codes "svid"
Tells line (Bundle domain) = (name : List ℕ) × (line ≡ codes "bundle " ++ name) × Names name domain
Tells line (Update size) = (line ≡ codes "update " ++ decimal size) × (size < 2 ^ 64)

abbrev pub Says : List ℕ → Line → Type 0
Says line End = line ≡ codes "end"
Says line (Request form) = Tells line form
Says line Other = (line ≢ codes "end") × ((form : Form) → Tells line form → ⊥)

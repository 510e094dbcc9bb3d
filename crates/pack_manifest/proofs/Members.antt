-- How many members an object has.
use Rattle.std.proofs.Common.{◌≡◌, ℕ, ◌+◌, List, [], ◌∷◌, length, refl, ap, arith}
use Rattle.std.proofs.lemmas.Grind.{common_steps}
use Rattle.std.specs.Prelude.{String}
use Rattle.std.specs.declared.alloc.Global.{Global}
use Rattle.serde_json.specs.View.{members_view}
use Rattle.serde_json.specs.declared.value.Value.{Value}
use Rattle.pack_manifest.specs.Manifest.{members_count}

pub count_is_length : (es : List (String Global × Value)) → members_count (members_view es) ≡ length es
count_is_length [] = refl
count_is_length (e ∷ es) = grind (arith, common_steps, count_is_length es)

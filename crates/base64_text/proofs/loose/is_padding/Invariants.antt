use Rattle.std.proofs.Common.{◌≡◌, ◌&&◌, drop}
use Rattle.base64_text.specs.Canonical.{all_pads}
use Rattle.base64_text.proofs.loose.is_padding.Given as goal

-- what was seen and the rest give the answer
abbrev pub invariant-loop-c : goal.invariant-loop-c
invariant-loop-c l = all_pads l.text ≡ (l.good && all_pads (drop l.c-index l.text))

use Rattle.std.proofs.Common.{true, ap, ◌∙◌}
use Rattle.base64_alphabet.specs.Standard.{standard}
use Rattle.base64ct.specs.Counts.{loose_count}
use Rattle.base64_text.proofs.CountLemmas.{count_unclean}
use Rattle.base64_tests.proofs.lanes.bad_part_takes.Goals as goal

pub returns : goal.returns
returns c = λ t len u bad. count_unclean standard true t bad ∙ ap loose_count u

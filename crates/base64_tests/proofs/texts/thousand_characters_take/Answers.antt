use Rattle.std.proofs.Common.{true, ap, ◌∙◌, refl}
use Rattle.base64_alphabet.specs.Standard.{standard}
use Rattle.base64ct.specs.Counts.{loose_count}
use Rattle.base64_text.proofs.CountLemmas.{count_unclean}
use Rattle.base64_tests.proofs.texts.thousand_characters_take.Goals as goal

pub returns-clause-bad : goal.returns-clause-bad
returns-clause-bad c = λ t len u bad. count_unclean standard true t bad ∙ ap loose_count u

pub returns-clause-padded : goal.returns-clause-padded
returns-clause-padded c = λ t len u clean. rw (clean, u, len) refl

pub returns-clause-unpadded : goal.returns-clause-unpadded
returns-clause-unpadded c = λ t len clean. rw (clean, len) refl

use Rattle.serde_json.specs.View.{view}
use Rattle.bundle_document.proofs.ValueLemmas.{keys_seen}
use Rattle.bundle_document.proofs.reading.keys_in.Goals as goal

pub returns : goal.returns
returns c = keys_seen c.array_in.result (view c.args.value.now) c.array_in.ensures

use Rattle.std.proofs.Common.{◌∙◌, ap, map}
use Rattle.serde_json.specs.View.{view}
use Rattle.bundle_document.specs.Document.{keys_listed, plain_document}
use Rattle.bundle_document.proofs.ValueLemmas.{document_kept, listed}
use Rattle.bundle_document.proofs.document.BundleDocument.with_keys.Goals as goal

pub invariant_of-result : goal.invariant_of-result
invariant_of-result c =
    document_kept (view c.in_ok-key_set.key_set) (map view c.args.keys.items) c.in_ok-jwks.jwks.items c.in_ok-key_set.ensures c.requires.whole
    c.requires.jwt c.requires.named
    c.in_ok-jwks.ensures.text c.in_ok-jwks.ensures.reads

pub returns : goal.returns
returns c = ap (plain_document c.args.sequence c.args.refresh_hint c.args.x509_count c.args.ignored_count)
    (ap keys_listed c.in_ok-key_set.ensures ∙ listed (map view c.args.keys.items))

use Rattle.std.proofs.Common.{◌≡◌, ◌∙◌, Ok, ap, codes, subst}
use Rattle.serde_json.specs.View.{view}
use Rattle.serde_json.specs.Written.{compact_text}
use Rattle.bundle_document.specs.Keys.{key_set_value}
use Rattle.bundle_document.specs.Document.{Document, IsReadable, document_text, keys_listed, numbered, with_number}
use Rattle.bundle_document.specs.Reading.{document_of}
use Rattle.bundle_document.proofs.ValueLemmas.{numbered_compact, written_again}
use Rattle.bundle_document.proofs.document.BundleDocument.to_json.Goals as goal

written : (c : goal.Joined-numbered-2) → view c.in_ok-numbered.numbered
    ≡ numbered c.self.inside.sequence c.self.inside.refresh_hint (key_set_value (keys_listed (view c.self.inside.key_set)))
written c =
    c.in_ok-numbered.ensures ∙ ap (with_number (codes "spiffe_sequence") c.self.inside.sequence)
    (c.in_ok-hinted.ensures ∙ ap (with_number (codes "spiffe_refresh_hint") c.self.inside.refresh_hint) (c.in_ok-key_set.ensures.cases ∙ c.self.invariant.0))

pub returns-clause-json : goal.returns-clause-json
returns-clause-json c =
    c.in_ok-json.ensures.text ∙ ap compact_text (written c)
    ∙ numbered_compact c.self.inside.sequence c.self.inside.refresh_hint c.self.inside.x509_count c.self.inside.ignored_count
    (keys_listed (view c.self.inside.key_set)) ∙ ap document_text c.self.view_is

pub returns-clause-reads : goal.returns-clause-reads
returns-clause-reads c =
    subst (λ (x : Document). IsReadable x → document_of c.in_ok-json.json.items ≡ Ok (record x { x509_count = 0; ignored_count = 0 })) c.self.view_is
    (λ nests. written_again c.self.inside.sequence c.self.inside.refresh_hint (keys_listed (view c.self.inside.key_set)) (view c.in_ok-numbered.numbered)
    c.self.inside.jwks.items c.in_ok-json.json.items
    c.self.invariant.1 (written c) c.in_ok-json.ensures.reads nests)

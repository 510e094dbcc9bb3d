use Rattle.std.proofs.Common.{ℕ, List, map, inl, sym, ◌∙◌, arith}
use Rattle.update_document.specs.Refs.{written_entry, written_update}
use Rattle.identity_update.specs.Bundle.{plain_bundle}
use Rattle.identity_update.specs.KeptEntries.{entries_of}
use Rattle.identity_update.specs.Parts.{Bundle, Entry}
use Rattle.identity_update.specs.Verdict.{IsRefusal, verdict}
use Rattle.identity_update.specs.declared.assembly.LawfulParts.{LawfulParts}
use Rattle.identity_update.proofs.AssemblyLaws.{entries_shorter}
use Rattle.identity_update.proofs.JudgeLaws.{are_lawful_parts, judged_parts, judged_refused, purpose_map, set_has_domains}
use Rattle.identity_update.proofs.Results.{passed_on}
use Rattle.identity_update.proofs.verdict.judge.Goals as goal

pub check_entries-requires : goal.check_entries-requires
check_entries-requires c =
    let shorter = entries_shorter (written_update c.args.document) in
    let fits = c.requires.fits in
    record { fits = omega arith }

pub returns-in_err-check_members-clause-refusal : goal.returns-in_err-check_members-clause-refusal
returns-in_err-check_members-clause-refusal c =
    let w = written_update c.args.document in
    let written : List ℕ = c.in_ok-entries.entries.written.items in
    let es : List Entry = entries_of c.in_ok-entries.entries in
    let bs : List Bundle = map plain_bundle c.in_ok-bundles.bundles.parts.items in
    let domains = set_has_domains c.in_ok-bundles.bundles.set bs c.in_ok-bundles.ensures.set in
    let purpose = purpose_map written_entry c.args.document.entries.items w.reason ∙ sym (rw c.deref.ensures.value at c.in_ok-check_purpose.ensures) in
    passed_on (IsRefusal (verdict w)) _ c.in_err-check_members.field-0.0 c.from_residual-in_err-check_members.ensures.1
    (inl (judged_refused w es bs c.in_err-check_members.field-0.0 purpose c.in_ok-entries.ensures.ok
    (rw c.deref-2.ensures.value at c.in_ok-bundles.ensures.ok) (sym (rw c.deref-3.ensures.value at (c.in_err-check_members.ensures written bs domains)))))

pub returns-clause-value : goal.returns-clause-value
returns-clause-value c =
    let w = written_update c.args.document in
    let p : LawfulParts = record { entries = c.in_ok-entries.entries; bundles = c.in_ok-bundles.bundles; reason = c.in_ok-reason.reason } in
    let bs : List Bundle = map plain_bundle c.in_ok-bundles.bundles.parts.items in
    let domains = set_has_domains c.in_ok-bundles.bundles.set bs c.in_ok-bundles.ensures.set in
    let purpose = purpose_map written_entry c.args.document.entries.items w.reason ∙ sym (rw c.deref.ensures.value at c.in_ok-check_purpose.ensures) in
    judged_parts w p purpose c.in_ok-entries.ensures.ok (rw c.deref-2.ensures.value at c.in_ok-bundles.ensures.ok)
    (sym (rw c.deref-3.ensures.value at (c.in_ok-check_members.ensures c.in_ok-entries.entries.written.items bs domains))) c.in_ok-reason.ensures.ok

pub returns-clause-lawful : goal.returns-clause-lawful
returns-clause-lawful c =
    let w = written_update c.args.document in
    let p : LawfulParts = record { entries = c.in_ok-entries.entries; bundles = c.in_ok-bundles.bundles; reason = c.in_ok-reason.reason } in
    let bs : List Bundle = map plain_bundle c.in_ok-bundles.bundles.parts.items in
    let domains = set_has_domains c.in_ok-bundles.bundles.set bs c.in_ok-bundles.ensures.set in
    let purpose = purpose_map written_entry c.args.document.entries.items w.reason ∙ sym (rw c.deref.ensures.value at c.in_ok-check_purpose.ensures) in
    let is = judged_parts w p purpose c.in_ok-entries.ensures.ok (rw c.deref-2.ensures.value at c.in_ok-bundles.ensures.ok)
    (sym (rw c.deref-3.ensures.value at (c.in_ok-check_members.ensures c.in_ok-entries.entries.written.items bs domains))) c.in_ok-reason.ensures.ok in
    are_lawful_parts w p is c.requires.reason c.requires.fits c.in_ok-entries.ensures.kept c.in_ok-bundles.ensures.set

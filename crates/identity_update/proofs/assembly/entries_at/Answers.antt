use Rattle.std.proofs.Common.{◌≡◌, ℕ, ◌≤◌, ◌^◌, List, ◌++◌, length, subst, ap, ◌∙◌, length-append, arith}
use Rattle.der_core.specs.Der.{encode}
use Rattle.identity_update.proofs.AssemblyLaws.{around, behind, entries_found, list_is, sizes}
use Rattle.identity_update.proofs.assembly.entries_at.Goals as goal

pub list_of-list-requires : goal.list_of-list-requires
list_of-list-requires c =
    let s = sizes c.args.document.now c.args.written.now (behind c.args.bundles.now c.args.reason) c.requires.is in
    let small = c.requires.small in
    omega (arith, s, small)

pub unreachable-requires : goal.unreachable-requires
unreachable-requires c =
    let s = sizes c.args.document.now c.args.written.now (behind c.args.bundles.now c.args.reason) c.requires.is in
    let small = c.requires.small in
    let inner = around c.list_of-list.result c.args.written.now c.args.bundles.now c.args.reason c.list_of-list.ensures in
    let long = subst (λ (x : List ℕ). 2 ^ 32 ≤ length x) inner c.in_default.ensures.1 in
    omega (arith, s, small, long)

pub before-requires : goal.before-requires
before-requires c =
    let s = sizes c.args.document.now c.args.written.now (behind c.args.bundles.now c.args.reason) c.requires.is in
    let inner = around c.list_of-list.result c.args.written.now c.args.bundles.now c.args.reason c.list_of-list.ensures in
    let content : c.in-Ok.content ≡ length (encode 48 c.args.written.now ++ behind c.args.bundles.now c.args.reason) = c.in-Ok.ensures.0 ∙ ap length inner in
    let list : c.len_of.result ≡ length (encode 48 c.args.written.now) = c.len_of.ensures
    ∙ ap length (list_is c.list_of-list.result c.args.written.now c.list_of-list.ensures) in
    omega (arith, s, content, list, c.get.ensures)

pub returns : goal.returns
returns c =
    let s = sizes c.args.document.now c.args.written.now (behind c.args.bundles.now c.args.reason) c.requires.is in
    let inner = around c.list_of-list.result c.args.written.now c.args.bundles.now c.args.reason c.list_of-list.ensures in
    let content : c.in-Ok.content ≡ length (encode 48 c.args.written.now ++ behind c.args.bundles.now c.args.reason) = c.in-Ok.ensures.0 ∙ ap length inner in
    let list : c.len_of.result ≡ length (encode 48 c.args.written.now) = c.len_of.ensures
    ∙ ap length (list_is c.list_of-list.result c.args.written.now c.list_of-list.ensures) in
    let sum = length-append (encode 48 c.args.written.now) (behind c.args.bundles.now c.args.reason) in
    let end = c.before-2.ensures.end in
    entries_found c.args.document.now c.args.written.now (behind c.args.bundles.now c.args.reason) c.before-2.result c.requires.is
    (omega (arith, s, content, list, c.get.ensures, sum, end)) c.before-2.ensures.start

use Rattle.std.proofs.Common.{Err}
use Rattle.pack_manifest.specs.Views.{named_entry}
use Rattle.identity_update.specs.EntryParts.{plain_entry}
use Rattle.pkcs8.specs.PlainPrivateKey.{plain_private_key}
use Rattle.spki.specs.PlainPublicKey.{plain_public_key}
use Rattle.pack_update.specs.Packed.{PrivateKeyRule, PublicKeyRule, entry_of}
use Rattle.pack_update.specs.Rules.{Mapped}
use Rattle.pack_update.proofs.Steps.{held, mapped_error}
use Rattle.pack_update.proofs.entries.with_keys.Goals as goal

pub returns-in-Err-public_key : goal.returns-in-Err-public_key
returns-in-Err-public_key g c =
    let e = named_entry c.args.named.now in
    let key = plain_private_key c.in-Ok.key in
    held plain_private_key plain_entry (λ files. PrivateKeyRule files c.args.entry e.key)
    (λ files key. Mapped (entry_of c.args.id key) (PublicKeyRule files c.args.entry e.public_key key))
    c.in-Ok.key (Err c.in-Err-public_key.error) c.in-Ok.ensures
    (mapped_error plain_public_key plain_entry (entry_of c.args.id key) (λ files. PublicKeyRule files c.args.entry e.public_key key)
    c.in-Err-public_key.error c.in-Err-public_key.ensures)

-- What entries hold that break no rule of their own, as plain data.
use Rattle.spki.specs.PlainPublicKey.{plain_public_key_ref}
use Rattle.pkcs8.specs.PlainPrivateKey.{plain_private_key_ref}
use Rattle.identity_update.specs.Parts.{Entry}
use Rattle.identity_update.specs.declared.entry.CheckedEntry.{CheckedEntry}

abbrev pub checked_entry : CheckedEntry → Entry
checked_entry e = record { id = e.id; private_key = plain_private_key_ref e.private_key; public_key = plain_public_key_ref e.public_key }

use Rattle.std.proofs.Common.{refl}
use Rattle.identity_io.specs.Files.{file_at}
use Rattle.pkcs8.specs.PlainPrivateKey.{plain_private_key}
use Rattle.pack_update.proofs.FileAnswers.{private_fault, private_refused}
use Rattle.pack_update.proofs.files.read_private_key.Goals as goal

pub returns-in-Ok : goal.returns-in-Ok
returns-in-Ok g c = record {
  told = c.in-Ok.ensures.read;
  kept = c.in-Ok.ensures.kept;
  later = c.in-Ok.ensures.cause.later;
  fault = tt;
}

pub returns-in-Err : goal.returns-in-Err
returns-in-Err g c = rw c.private_refusal.ensures (record {
  told = λ files is. private_refused plain_private_key c.args.entry (file_at c.args.path.now files) c.in-Err.error (c.in-Err.ensures.read files is);
  kept = c.in-Err.ensures.kept;
  later = c.in-Err.ensures.cause.later;
  fault = λ is. c.in-Err.ensures.cause.fault (private_fault c.args.entry c.in-Err.error is);
})

use Rattle.std.proofs.Common.{refl, inl, inr}
use Rattle.identity_io.specs.Files.{file_at}
use Rattle.pack_update.proofs.FileAnswers.{whole_bytes, whole_missing, whole_too_long}
use Rattle.pack_update.proofs.files.read_whole.Goals as goal

pub returns-in-Ok : goal.returns-in-Ok
returns-in-Ok g c = record {
  told = λ files is. let h = c.in-Ok.ensures.read files is in whole_bytes c.args.missing c.args.too_long (file_at c.args.path.now files) _ h.0 h.1;
  kept = c.in-Ok.ensures.kept;
  later = c.in-Ok.ensures.cause.later;
  fault = tt;
}

pub returns-in-Err-Missing : goal.returns-in-Err-Missing
returns-in-Err-Missing g c = record {
  told = λ files is. inr (inr (whole_missing c.args.missing c.args.too_long (file_at c.args.path.now files)
      ((rw c.in-Err-Missing.field-0-is at c.in-Err-Missing.ensures.read) files is)));
  kept = c.in-Err-Missing.ensures.kept;
  later = c.in-Err-Missing.ensures.cause.later;
  fault = λ is. absurd (c.requires.missing is);
}

pub returns-in-Err-TooLong : goal.returns-in-Err-TooLong
returns-in-Err-TooLong g c = record {
  told = λ files is. inr (inr (whole_too_long c.args.missing c.args.too_long (file_at c.args.path.now files)
      ((rw c.in-Err-TooLong.field-0-is at c.in-Err-TooLong.ensures.read) files is)));
  kept = c.in-Err-TooLong.ensures.kept;
  later = c.in-Err-TooLong.ensures.cause.later;
  fault = λ is. absurd (c.requires.too_long is);
}

pub returns-in-Err-Failed : goal.returns-in-Err-Failed
returns-in-Err-Failed g c = record {
  told = λ files is. inr (inl refl);
  kept = c.in-Err-Failed.ensures.kept;
  later = c.in-Err-Failed.ensures.cause.later;
  fault = λ is. c.in-Err-Failed.ensures.cause.failed c.in-Err-Failed.field-0-is;
}

pub returns-in-Err-OutOfMemory : goal.returns-in-Err-OutOfMemory
returns-in-Err-OutOfMemory g c = record {
  told = λ files is. inl refl;
  kept = c.in-Err-OutOfMemory.ensures.kept;
  later = c.in-Err-OutOfMemory.ensures.cause.later;
  fault = λ is. cc;
}

-- Which of the documents that come in one after another is kept.
use Rattle.std.specs.Prelude.{ℕ, nat_lt, Bool, false, Option, Some, None, Result, Ok, Err, if◌then◌else◌}
use Rattle.bundle_document.specs.Document.{Document}
use Rattle.bundle_document.specs.declared.error.FeedError.{FeedError}
use Rattle.bundle_document.specs.declared.error.FeedError.TheVariants.{Older}

-- the answer to an offered sequence beside the kept one: refused where both are told and the offered one is below
abbrev pub offer_answer : Option ℕ → Option ℕ → Result (Unit {0}) FeedError
offer_answer None offered = Ok tt
offer_answer (Some kept) None = Ok tt
offer_answer (Some kept) (Some offered) = if nat_lt offered kept then Err (Older kept offered) else Ok tt

abbrev pub answer_beside : Option Document → Document → Result (Unit {0}) FeedError
answer_beside None d = Ok tt
answer_beside (Some kept) d = offer_answer kept.sequence d.sequence

abbrev pub kept_after : Option Document → Document → Result (Unit {0}) FeedError → Option Document
kept_after old d (Ok u) = Some d
kept_after old d (Err e) = old

-- What was answered, where the bytes of the source and the sink are told.
use Rattle.std.proofs.Common.{◌≡◌, ℕ, List, [], ◌⊎◌, ◌++◌, Some, None, inl, inr, arith, subst}
use Rattle.std.specs.declared.option.Option.{Option}
use Rattle.std.specs.Io.KnownBytes.{Appends, Consumes, IsAtEnd}
use Rattle.std.proofs.lemmas.Grind.{common_steps}
use Rattle.identity_io.specs.Whole.{AppendsPrefix}
use Rattle.command_line.specs.Outcome.{Streams}
use Rattle.tool_commands.specs.Outcome.{Answered, Answers, PartlyAnswered, Shows}
use Rattle.command_line.specs.declared.status.Status.{Status}
use Rattle.command_line.specs.declared.status.Status.TheVariants.{Done, Refused, Usage, SourceFailed, SinkFailed, OutOfMemory, TooLong, BadScript}

abbrev streams : Option (List ℕ) → ℕ → Option (List ℕ) → ℕ → Streams
streams left read_faults written write_faults = record { left = left; read_faults = read_faults; written = written; write_faults = write_faults }

-- what was consumed up to the end is all that there was
consumed_all : (xs ys text : List ℕ) → xs ≡ text ++ ys → ys ≡ [] → text ≡ xs
consumed_all xs ys text e none = grind (arith, common_steps)

module _ (width a b c d : ℕ) (text printed : List ℕ) (status : Status) (answers : Answers width text printed status) where
  -- the answer to a text that was read, where it was written
  answered : (left left' written written' : Option (List ℕ)) → Consumes left left' text × IsAtEnd left' → Appends written written' printed
      → Answered width (streams left a written b) (streams left' c written' d) status
  answered None left' written written' read wrote = tt
  answered (Some xs) None written written' read wrote = absurd read.0
  answered (Some xs) (Some ys) written written' read wrote =
      (read.1, (printed, subst (λ (t : List ℕ). Answers width t printed status) (consumed_all xs ys text read.0 read.1) answers, wrote))

-- an answer is a report or a refusal
one_of_both : (width : ℕ) (text printed : List ℕ) (status : Status) → Answers width text printed status
    → Answers width text printed Done ⊎ Answers width text printed Refused
one_of_both width text printed Done answers = inl answers
one_of_both width text printed Refused answers = inr answers
one_of_both width text printed Usage answers = absurd answers
one_of_both width text printed SourceFailed answers = absurd answers
one_of_both width text printed SinkFailed answers = absurd answers
one_of_both width text printed OutOfMemory answers = absurd answers
one_of_both width text printed TooLong answers = absurd answers
one_of_both width text printed BadScript answers = absurd answers

-- the answer to a text that was read, where a first part of it was written
pub partly_answered : (width a b c d : ℕ) (text printed : List ℕ) (status : Status) → Answers width text printed status
    → (left left' written written' : Option (List ℕ)) → Consumes left left' text × IsAtEnd left' → AppendsPrefix written written' printed
    → PartlyAnswered width (streams left a written b) (streams left' c written' d)
partly_answered width a b c d text printed status answers None left' written written' read wrote = tt
partly_answered width a b c d text printed status answers (Some xs) None written written' read wrote = absurd read.0
partly_answered width a b c d text printed status answers (Some xs) (Some ys) written written' read wrote = (
  printed,
  subst (λ (t : List ℕ). Answers width t printed Done ⊎ Answers width t printed Refused) (consumed_all xs ys text read.0 read.1)
      (one_of_both width text printed status answers),
  wrote,
)

-- what `show` has done where its answer was written
pub shows_answer : (width a b c d : ℕ) (text printed : List ℕ) (status : Status) → Answers width text printed status
    → (left left' written written' : Option (List ℕ)) → Consumes left left' text × IsAtEnd left' → Appends written written' printed
    → Shows width (streams left a written b) (streams left' c written' d) status
shows_answer width a b c d text printed Done answers left left' written written' read wrote =
    answered width a b c d text printed Done answers left left' written written' read wrote
shows_answer width a b c d text printed Refused answers left left' written written' read wrote =
    answered width a b c d text printed Refused answers left left' written written' read wrote
shows_answer width a b c d text printed Usage answers left left' written written' read wrote = absurd answers
shows_answer width a b c d text printed SourceFailed answers left left' written written' read wrote = absurd answers
shows_answer width a b c d text printed SinkFailed answers left left' written written' read wrote = absurd answers
shows_answer width a b c d text printed OutOfMemory answers left left' written written' read wrote = absurd answers
shows_answer width a b c d text printed TooLong answers left left' written written' read wrote = absurd answers
shows_answer width a b c d text printed BadScript answers left left' written written' read wrote = absurd answers

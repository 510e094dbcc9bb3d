-- Which refusal of an update a refusal of its text is.
use Rattle.base64_text.specs.declared.errors.Error.{Error}
use Rattle.base64_text.specs.declared.errors.Error.TheVariants as base64
use Rattle.identity_update.specs.declared.error.UpdateError.{UpdateError}
use Rattle.identity_update.specs.declared.error.UpdateError.TheVariants.{OutOfMemory, Text}

abbrev pub text_error : Error → UpdateError
text_error base64.OutOfMemory = OutOfMemory
text_error cause = Text cause

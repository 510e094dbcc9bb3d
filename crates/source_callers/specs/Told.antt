-- What a reader that was told of receipts answers.
use Rattle.std.specs.Prelude.{◌≡◌, ◌≤◌, ℕ, Some}
use Rattle.identity_source.specs.History.{StartsWith, EachBegins, last_revision}
use Rattle.identity_source.specs.NamedList.{NamedList}
use Rattle.identity_source.specs.Reader.{PlainReader}
use Rattle.identity_source.specs.declared.kept_reader.Look.TheVariants.{Looked}

-- where the last look saw, the reader's list begins with that of the receipt, with its own of before, and with each that it was told of before
pub record Heeds (a b : PlainReader) (receipt : NamedList) : Type 0 where
  pub now : b.look ≡ Some Looked → StartsWith b.list receipt.list
  pub own : b.look ≡ Some Looked → StartsWith b.list a.list
  pub before : b.look ≡ Some Looked → EachBegins b.list a.sight.olds

-- the reader gave a state of this revision: the source's last or a later one, and where the look saw, of a list that begins with the source's
pub record GivesLatest (source : NamedList) (reader : PlainReader) (revision : ℕ) : Type 0 where
  pub later : last_revision source.list ≤ revision
  pub seen : reader.look ≡ Some Looked → StartsWith reader.list source.list

-- A log as plain data: which log it is, and its entries.
use Rattle.std.specs.Prelude.{List}
use Rattle.std.specs.Coded.{Coded, coded×}
use base.Stored.{coded_list, coded_via}
use Rattle.logbook.specs.Pages.{Book, book_coded}

pub record Logged (E : Type 0) : Type 0 where
  pub book : Book
  pub entries : List E

abbrev pub logged : {E : Type 0} → Book → List E → Logged E
logged book entries = record { book = book; entries = entries }

abbrev pub logged_code : {E : Type 0} → Coded E → Coded (Logged E)
logged_code {E} code = coded_via (coded× book_coded (coded_list code)) (λ (l : Logged E). (l.book, l.entries))
    (λ x y e i. record { book = (e i).0; entries = (e i).1 })

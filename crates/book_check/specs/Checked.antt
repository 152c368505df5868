-- What a checked book holds.
use Rattle.rules.specs.declared.rule_book.Book.{Book}
use Rattle.std.specs.Prelude.{List}
use Rattle.book.specs.Lines.{lines_of}
use Rattle.book.specs.declared.line.Line.{Line}
use Rattle.book_check.specs.declared.checked.CheckedBook.{CheckedBook}

-- the book as a clause sees it
abbrev pub pages_in : CheckedBook → Book
pages_in c = c.book

-- the lines of its table
abbrev pub lines_in : CheckedBook → List Line
lines_in c = lines_of c.table

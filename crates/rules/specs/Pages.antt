-- A book that holds nothing.
use Rattle.std.specs.Prelude.{[]}
use Rattle.rules.specs.declared.rule_book.Book.{Book}

-- an empty book
abbrev pub no_pages : Book
no_pages = record { materials = []; names = []; lines = []; uses = []; parts = 0 }

-- Books that hold nothing.
use Rattle.rules.specs.declared.rule_book.Book.{Book}
use Rattle.std.proofs.Common.{◌≡◌, ℕ, List, []}
use Rattle.forms.specs.Told.{Name}
use Rattle.forms.specs.declared.rule.RuleLine.{RuleLine}
use Rattle.rules.specs.Pages.{no_pages}

pub is_empty : (ms ns us : List Name) (ls : List RuleLine) (p : ℕ) → ms ≡ [] → ns ≡ [] → ls ≡ [] → us ≡ [] → p ≡ 0
    → ◌≡◌ {A = Book} (record { materials = ms; names = ns; lines = ls; uses = us; parts = p }) no_pages
is_empty ms ns us ls p a b c d e = cc

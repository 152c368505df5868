use Rattle.std.proofs.Common.{refl}
use Rattle.rules.proofs.Empty.{is_empty}
use Rattle.rules.proofs.rule_book.Book.new.Goals as goal

pub returns : goal.returns
returns c =
    is_empty _ _ _ _ _ c.in_ok-materials.ensures c.in_ok-names.ensures c.in_ok-lines.ensures
    c.in_ok-uses.ensures refl

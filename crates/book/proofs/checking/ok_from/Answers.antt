use Rattle.std.proofs.Common.{ℕ, rules, sym, ◌∙◌}
use Rattle.std.proofs.lemmas.Iterator.{YieldsList-from_slice}
use Rattle.std.proofs.lemmas.Iterator.Consumers.{YieldsList-from_enumerate}
use Rattle.std.proofs.lemmas.Iterator.Search.{all_from_yields_List}
use Rattle.book.specs.declared.line.Line.{Line}
use Rattle.book.specs.Checks.{ok_body}
use Rattle.book.proofs.Scans.{from_enumerated}
use Rattle.book.proofs.checking.ok_from.Goals as goal

pub returns : goal.returns
returns c =
    all_from_yields_List (λ (p : ℕ × Line). ok_body p.0 p.1.body) _ _ c.all.result c.all.ensures.ran
    (YieldsList-from_enumerate (YieldsList-from_slice c.args.lines.now cc) cc) (λ x b q k. search rules)
    ∙ sym (from_enumerated 0 c.args.lines.now)

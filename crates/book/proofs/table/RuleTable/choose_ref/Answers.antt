use Rattle.std.proofs.Common.{◌≡◌, ◌-◌, length, take, drop, sym, ◌∙◌, rules, arith}
use Rattle.std.proofs.lemmas.Bool.{and_parts}
use Rattle.std.proofs.lemmas.List.{take_all, length-drop}
use Rattle.book.specs.Checks.{ok_from, last_free}
use Rattle.book.proofs.Scans.{never_closed, open_applies}
use Rattle.book.proofs.table.RuleTable.choose_ref.Goals as goal

pub unreachable-requires : goal.unreachable-requires
unreachable-requires c =
    let ls = c.args.self.now.lines in
    let r = c.args.scope.rule in
    let n : length ls ≡ 64 = search rules in
    never_closed ls (take (64 - r) (drop r ls)) r c.args.scope.cuboid n c.args.scope.known (and_parts (ok_from 0 ls) (last_free ls) c.args.self.now.checked).1
    (take_all (64 - r) (drop r ls) (omega (arith, length-drop r ls, n))) (sym c.first_open.ensures ∙ c.in_default.is)

pub returns : goal.returns
returns c =
    let ls = c.args.self.now.lines in
    let r = c.args.scope.rule in
    let n : length ls ≡ 64 = search rules in
    open_applies ls (take (64 - r) (drop r ls)) r c.in-Some.k c.args.scope.cuboid c.index-self-i.result
    (take_all (64 - r) (drop r ls) (omega (arith, length-drop r ls, n))) (sym c.first_open.ensures ∙ c.in-Some.is) c.index-self-i.is

use Rattle.std.proofs.Common.{◌≡◌, ◌+◌, Some, drop, sym, ◌∙◌, arith}
use Rattle.stack.specs.Held.{entries}
use Rattle.std.proofs.lemmas.List.{at_drop_more, at_drop_all}
use Rattle.text.specs.Findings.{unbalanced}
use Rattle.text.specs.Scans.{scanned}
use Rattle.text.proofs.Bracketing.{bracketed}
use Rattle.text.proofs.Scanned.{scan_is}
use Rattle.text.proofs.findings.find_unbalanced.Goals as goal

pub returns-in-Err : goal.returns-in-Err
returns-in-Err c =
    let e : Some c.in-Err.column ≡ unbalanced c.args.line.now =
    sym (c.in-Err.ensures.goes (drop (c.loop-i.i + 1) c.args.line.now))
    ∙ (sym (at_drop_more (scanned (c.loop-i.i + 1) (entries c.loop-i.opened)) c.args.line.now c.loop-i.i 0 (omega arith))
    ∙ (c.loop-i.invariant.1 ∙ scan_is c.args.line.now)) in
    record { value = e; plain = bracketed c.args.line.now _ e }

pub returns : goal.returns
returns c =
    let e : c.top.result ≡ unbalanced c.args.line.now =
    c.top.ensures.value
    ∙ (sym (at_drop_all (scanned (c.loop-i.i + 1) (entries c.loop-i.opened)) c.args.line.now c.loop-i.i (omega arith))
    ∙ (c.loop-i.invariant.1 ∙ scan_is c.args.line.now)) in
    record { value = e; plain = bracketed c.args.line.now _ e }

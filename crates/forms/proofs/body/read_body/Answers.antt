use Rattle.forms.proofs.Bodied.{make_body, use_body}
use Rattle.forms.proofs.body.read_body.Goals as goal

pub returns-in_ok-read_use-in-Make : goal.returns-in_ok-read_use-in-Make
returns-in_ok-read_use-in-Make c =
    rw c.in-Make.is
    (make_body c.args.room c.args.uses.now c.read_use.new.uses c.args.tokens.now c.read_use.new.tokens
    c.in_ok-read_use-in-Make.ensures)

pub returns-in_ok-read_use-in-Use : goal.returns-in_ok-read_use-in-Use
returns-in_ok-read_use-in-Use c =
    rw c.in-Use.is
    (use_body c.args.room c.args.uses.now c.read_use-in-Use.new.uses c.args.tokens.now c.read_use-in-Use.new.tokens
    c.in_ok-read_use-in-Use.ensures)

pub returns-in-Repeat : goal.returns-in-Repeat
returns-in-Repeat c = rw c.in-Repeat.is (c.read_repeat.ensures c.args.room)

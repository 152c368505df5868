use Rattle.std.proofs.Common.{sym, refl}
use Rattle.rules.proofs.Added.{no_room, not_read, rule_added, same_pages}
use Rattle.rules.proofs.reading.add_rule.Goals as goal

pub returns-then-not-has_room : goal.returns-then-not-has_room
returns-then-not-has_room c = (
  refl,
  λ w gs b s few f. no_room c.args.book.now c.args.line.bytes.now w gs b s few f (sym c.if-not-has_room.ensures),
)

pub returns-in_err-read : goal.returns-in_err-read
returns-in_err-read c =
    rw c.from_residual.ensures (
      same_pages c.args.book.now _ _ c.in_err-read.ensures.0 c.in_err-read.ensures.1,
      λ w gs b s few f. not_read c.args.book.now c.args.line.bytes.now w gs b s few f _ c.part_room-room.ensures c.in_err-read.ensures.2,
    )

pub returns : goal.returns
returns c =
    rw c.ok.ensures.value
    (rule_added _ _ c.args.book.now _ _ _ _ c.in_ok-read.read c.push.result c.in_ok-read.ensures c.push.ensures
    (sym c.if-not-has_room.ensures) c.part_count.ensures)

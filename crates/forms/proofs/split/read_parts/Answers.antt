use Rattle.std.proofs.Common.{◌∙◌, arith}
use Rattle.std.proofs.lemmas.List.{length-append}
use Rattle.text.specs.Tokens.{tokens_left}
use Rattle.forms.specs.Splits.{PartsPast}
use Rattle.forms.proofs.Splitting.{part_past, parts_on, parts_end, too_many_lem}
use Rattle.forms.proofs.split.read_parts.Goals as goal
use Rattle.forms.proofs.split.read_parts.Goals.{After-expect_more}

-- what was read once a part was added
past : (c : After-expect_more)
    → PartsPast c.args.room c.args.uses.now c.add_part.new.uses c.args.tokens.now
    (tokens_left c.read_part.new.tokens) c.add_part.new.parts
past c =
    part_past c.args.room c.loop-parts.invariant.column c.args.uses.now c.loop-parts.uses
    c.add_part.new.uses c.args.tokens.now c.loop-parts.tokens c.read_part.new.tokens
    c.loop-parts.parts c.add_part.new.parts c.in_ok-line.line c.loop-parts.invariant.past c.loop-parts.invariant.kept
    (omega arith) c.in_ok-line.ensures c.in_ok-add_part.ensures

pub returns-then-len-room : goal.returns-then-len-room
returns-then-len-room c =
    too_many_lem c.args.room c.args.uses.now c.loop-parts.uses c.args.tokens.now c.loop-parts.tokens
    c.loop-parts.parts c.loop-parts.invariant c.loop-parts.tokens (omega arith)

pub loop-parts-preserved : goal.loop-parts-preserved
loop-parts-preserved c =
    parts_on c.args.room c.args.uses.now c.add_part.new.uses c.args.tokens.now c.read_part.new.tokens
    c.expect_more.new.tokens c.add_part.new.parts c.in_ok-expect_more.field-0 (past (goal.at.loop-parts-preserved c).After-expect_more)
    (c.in_ok-line.ensures.kept ∙ c.loop-parts.invariant.kept) c.in_ok-expect_more.ensures c.in-Open.is

pub returns-in-Close : goal.returns-in-Close
returns-in-Close c =
    parts_end c.args.room c.args.uses.now c.add_part.new.uses c.args.tokens.now c.read_part.new.tokens
    c.expect_more.new.tokens c.add_part.new.parts c.in_ok-expect_more.field-0 (past (goal.at.returns-in-Close c).After-expect_more)
    (rw c.in_ok-add_part.ensures.parts (simp length-append (omega arith))) (c.in_ok-line.ensures.kept ∙ c.loop-parts.invariant.kept)
    c.in_ok-expect_more.ensures c.in-Close.is

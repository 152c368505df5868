use Rattle.std.proofs.Common.{Ok, Err, refl, rules, tests}
use Rattle.texts.proofs.sheet.drain_blocks.Goals as goal

pub returns-in_err-offer_all : goal.returns-in_err-offer_all
returns-in_err-offer_all c =
    record { last = c.offer_all.new.sink; offered = Err c.in_err-offer_all.field-0.0; offers = c.in_err-offer_all.ensures; answer = (search (rules, tests), refl) }

pub returns : goal.returns
returns c = record { last = c.offer_all.new.sink; offered = Ok tt; offers = c.in_ok-offer_all.ensures; answer = c.drain.ensures.hands }

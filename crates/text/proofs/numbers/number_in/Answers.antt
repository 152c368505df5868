use Rattle.std.proofs.Common.{◌≡◌, ◌^◌, ◌<◌, cond, nat_le, Some, None, sym, arith, rules}
use Rattle.std.specs.Option.{option_and_then}
use Rattle.text.proofs.Reading.{no_start, kept, number_is}
use Rattle.text.proofs.numbers.number_in.Goals as goal

pub returns-then-not-has_good_start : goal.returns-then-not-has_good_start
returns-then-not-has_good_start c =
    let b : c.args.high < 2 ^ 64 = omega arith in
    let p = no_start c.args.low c.args.high c.args.word.now b (sym c.if-not-has_good_start.ensures) in
    record { value = number_is _ _ _ _ b p; plain = p }

pub returns : goal.returns
returns c =
    let b : c.args.high < 2 ^ 64 = omega arith in
    let e : c.filter.result ≡ option_and_then (λ n. cond (nat_le c.args.low n) (Some n) None) c.value_of.result = search rules in
    let p = kept c.args.low c.args.high c.args.word.now b c.value_of.result c.filter.result c.value_of.ensures (sym c.if-not-has_good_start.ensures) e in
    record { value = number_is _ _ _ _ b p; plain = p }

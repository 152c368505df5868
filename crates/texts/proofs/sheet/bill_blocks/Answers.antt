use Rattle.std.proofs.Common.{◌≡◌, ℕ, List, Ok, Err, refl, rules, tests, subst, arith}
use Rattle.geometry.specs.Limits.{site}
use Rattle.sinks.specs.Meaning.{Taking, Taken, HandsOut}
use Rattle.sinks.proofs.Chains.{chain_weaker, offers_whole, blocks_told}
use Rattle.texts.specs.Bills.{bill_parts}
use Rattle.texts.proofs.Sheets.{bill_same}
use Rattle.texts.proofs.sheet.bill_blocks.Goals as goal

pub returns-in_err-offer_all : goal.returns-in_err-offer_all
returns-in_err-offer_all c =
    record {
      first = c.new-bill.result;
      last = c.offer_all.new.sink;
      offered = Err c.in_err-offer_all.field-0.0;
      begun = c.new-bill.ensures;
      offers = c.in_err-offer_all.ensures;
      answer = (search (rules, tests), refl);
    }

pub returns : goal.returns
returns c =
    let s = c.new-bill.result in
    let t = c.offer_all.new.sink in
    let bs = c.args.blocks.now in
    let chain = offers_whole site bill_parts (λ _ _ _. Unit {0}) (λ u v. v ≡ u) s t bs c.in_ok-offer_all.ensures in
    let told = blocks_told site bill_parts s t bs (chain_weaker (Taking site bill_parts (λ _ _ _. Unit {0})) (Taken site bill_parts) (λ u b v r. r.0) s t bs chain) in
    let empty = c.new-bill.ensures in
    let P : List ℕ → Type 0 = λ text. HandsOut text c.args.out.now c.text.new.out c.text.result in
    record {
      first = s;
      last = t;
      offered = Ok tt;
      begun = empty;
      offers = c.in_ok-offer_all.ensures;
      answer = subst P (bill_same _ _ _ _ (λ m. omega (arith, told.count m, empty.count m)) (λ m. omega (arith, told.volume m, empty.volume m))) c.text.ensures;
    }

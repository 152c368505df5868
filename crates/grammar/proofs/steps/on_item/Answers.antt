use Rattle.std.proofs.Common.{◌≡◌, codes, refl, rules, arith}
use Rattle.std.proofs.lemmas.Slice.Eq.{text_from_reads}
use Rattle.grammar.proofs.steps.on_item.Goals as goal

pub returns-in-repeat : goal.returns-in-repeat
returns-in-repeat c =
    let e : c.args.w.now ≡ codes "repeat" = text_from_reads _ _ (omega arith) (search rules) in
    rw e refl

use Rattle.std.proofs.Common.{◌≡◌, codes, refl, rules, arith}
use Rattle.std.proofs.lemmas.Slice.Eq.{text_from_reads}
use Rattle.grammar.proofs.steps.on_head.Goals as goal

pub returns-in-Rules-material : goal.returns-in-Rules-material
returns-in-Rules-material c =
    let e : c.args.w.now ≡ codes "material" = text_from_reads _ _ (omega arith) (search rules) in
    rw (c.in-Rules-material.is-0, e) refl

use Rattle.std.proofs.Common.{arith}
use Rattle.sinks.specs.Tallied.{count_of, volume_held}
use Rattle.texts.specs.Lines.{up_to}
use Rattle.texts.specs.Bills.{material_line, sum_line, bill_text}
use Rattle.texts.proofs.Sheets.{length_bill}
use Rattle.texts.proofs.bill.TalliesText.put.Goals as goal

pub put_materials-requires : goal.put_materials-requires
put_materials-requires g c =
    let t = c.args.self.now in
    g.W.Out.laws.shorter c.args.out.now (up_to (material_line (count_of t) (volume_held t)) 16) (bill_text (count_of t) (volume_held t))
    (omega (arith, length_bill (count_of t) (volume_held t))) c.requires

pub put_sum-requires : goal.put_sum-requires
put_sum-requires g c =
    let t = c.args.self.now in
    g.W.Out.laws.rest c.args.out.now c.put_materials.new.out (up_to (material_line (count_of t) (volume_held t)) 16) (sum_line (count_of t) (volume_held t)) (bill_text (count_of t) (volume_held t))
    (omega (arith, length_bill (count_of t) (volume_held t))) c.requires c.put_materials.ensures

pub returns : goal.returns
unfolding bill_text
returns g c =
    let t = c.args.self.now in
    g.W.Out.laws.joined c.args.out.now c.put_materials.new.out c.put_sum.new.out (up_to (material_line (count_of t) (volume_held t)) 16) (sum_line (count_of t) (volume_held t))
    c.put_materials.ensures c.put_sum.ensures

use Rattle.std.proofs.Common.{ltb, replicate, sym, ap, ◌∙◌}
use Rattle.std.proofs.lemmas.Bool.{cond-false}
use Rattle.rows.specs.Rows.{split_row, tiles, most_tiles, tile_size}
use Rattle.rows.proofs.Lawfuls.{told_lawful}
use Rattle.rows.proofs.Tiled.{tiles_sound}
use Rattle.rows.proofs.repeat.repeat.Goals as goal

pub returns : goal.returns
returns c =
    let n = tiles c.args.extent.0 c.args.tile.length.0 in
    let few = ap (ltb most_tiles) (sym c.tile_count-n.ensures.0) ∙ sym c.if-too_many.ensures in
    let row = c.tile_row.ensures ∙ ap (λ m. split_row c.args.extent.0 (replicate m tile_size)) c.tile_count-n.ensures.0 in
    record {
      row = row ∙ sym (cond-false _ _ _ few);
      laws = told_lawful c.args.extent.0 (replicate n tile_size) c.tile_row.result (tiles_sound n) row;
    }

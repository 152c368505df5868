use Rattle.std.proofs.Common.{◌≡◌, Result, subst}
use Rattle.sinks.specs.declared.offers.Refused.{Refused}
use Rattle.sinks.specs.Laws.{Offers}
use Rattle.geometry.specs.Limits.{site}
use Rattle.sinks.specs.Meaning.{Taking}
use Rattle.sinks.proofs.Chains.{chain_weaker, offers_whole}
use Rattle.texts.specs.Objs.{obj_text, obj_parts, Drawn, blocks_text}
use Rattle.texts.proofs.Joins.{same_text, text_of}
use Rattle.texts.proofs.sheet.draw_blocks.Goals as goal

pub returns : goal.returns
returns c =
    let s = c.new-drawing.result in
    let d = c.drain_blocks.ensures in
    let bs = c.args.blocks.now in
    let begun = c.new-drawing.ensures in
    record {
      first = s;
      last = d.last;
      offered = d.offered;
      begun = (begun.empty, begun.none, begun.out.0);
      offers = d.offers;
      answer = same_text d.offered (obj_text d.last) (blocks_text 0 bs) c.args.out.now c.drain_blocks.new.out c.drain_blocks.result
          (λ none. text_of s d.last bs begun.none begun.empty
          (chain_weaker (Taking site obj_parts Drawn) Drawn (λ u b v r. r.1) s d.last bs (offers_whole site obj_parts Drawn (λ u v. v ≡ u) s d.last bs (subst (λ (o : Result (Unit {0}) Refused). Offers site obj_parts Drawn (λ u v. v ≡ u) s d.last bs o) none d.offers))))
          d.answer;
    }

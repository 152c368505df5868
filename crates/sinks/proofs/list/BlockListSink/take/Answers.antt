use Rattle.std.proofs.Common.{◌≡◌, ◌+◌, ◌<◌, length, take, drop, set, sym, refl, ap, ◌∙◌, arith, rules}
use Rattle.std.proofs.lemmas.List.{take_more_set, drop-set-lt}
use Rattle.geometry.specs.Sums.{sum_of}
use Rattle.geometry.specs.Boxes.{shared_with}
use Rattle.sinks.proofs.Blocks.{sum_of_set}
use Rattle.sinks.proofs.list.BlockListSink.take.Goals as goal

pub returns : goal.returns
returns c =
    let s = c.args.self.now in
    let xs = s.slots.now in
    let n = s.len in
    let b = c.args.block in
    let h : n < length xs = search rules in
    let e : c.put.new.slots ≡ set xs n b = search rules in
    let told = c.in_ok-receive.ensures in
    let noted = told.after in
    record {
      takes = record {
        judged = (told.judged.0, told.judged.1, sym c.has_room-room.ensures ∙ told.judged.2);
        after = record {
          count = noted.count;
          volume = noted.volume;
          cell = λ d. ap (λ ys. sum_of (λ x. shared_with 1 d x.cuboid) (take (n + 1) ys)) e ∙ sum_of_set _ xs n b h;
        };
      };
      state = record {
        blocks = ap (take (n + 1)) e ∙ take_more_set xs n b h;
        beyond = ap (drop (n + 1)) e ∙ drop-set-lt (n + 1) xs n b (omega arith);
        lender = refl;
      };
    }

use Rattle.std.proofs.Common.{◌≡◌, ℕ, ◌-◌, ◌≤◌, leb, ◌++◌, length, take, sym, refl, ap, ◌∙◌, arith}
use Rattle.sinks.specs.Tallied.{drawn_of}
use Rattle.sinks.proofs.Materials.{drawn_more}
use Rattle.sinks.proofs.Blocks.{front_min}
use Rattle.texts.specs.Drawings.{block_text}
use Rattle.texts.proofs.SiteCells.{site_grown}
use Rattle.texts.proofs.Writes.{wrote_is, wrote_text, wrote_beyond}
use Rattle.texts.proofs.drawing.ObjTextSink.take.Goals as goal

same_test : (a b x y : ℕ) → a ≡ x → b ≡ y → leb a b ≡ leb x y
same_test a b x y p q = cc

pub returns : goal.returns
returns c =
    let s = c.args.self.now in
    let xs = s.out.now in
    let b = c.args.block in
    let d = drawn_of s.tallies in
    let told = c.in_ok-receive.ensures in
    let at = c.min-at.result in
    let low : at ≤ length xs = omega (arith, c.min-at.ensures) in
    let lines = ap (λ n. block_text n b) c.drawn-drawn.ensures.value in
    let w = wrote_is lines c.write_at-self.ensures in
    let front : take at xs ≡ take s.used xs = ap (λ n. take n xs) c.min-at.ensures ∙ front_min s.used xs in
    let room : c.fits-room.result ≡ leb (length (block_text d b)) (length xs - s.used) =
    c.fits-room.ensures ∙ same_test _ _ _ _ (ap length lines) (omega (arith, c.min-at.ensures)) in
    record {
      takes = record {
        judged = (told.judged.0, told.judged.1, sym room ∙ told.judged.2);
        after = record {
          count = told.after.count;
          volume = told.after.volume;
          cell = site_grown s.tallies c.receive.new.self b told.after told.judged.0;
        };
      };
      state = record {
        text = wrote_text low w ∙ ap (λ t. t ++ block_text d b) front;
        drawn = drawn_more s.tallies c.receive.new.self b told.after told.judged.0;
        beyond = wrote_beyond low w;
        lender = refl;
      };
    }

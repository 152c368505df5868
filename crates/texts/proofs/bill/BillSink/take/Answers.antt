use Rattle.texts.proofs.SiteCells.{site_grown}
use Rattle.texts.proofs.bill.BillSink.take.Goals as goal

pub returns : goal.returns
returns c =
    let told = c.in_ok-receive.ensures in
    record {
      takes = record {
        judged = told.judged;
        after = record {
          count = told.after.count;
          volume = told.after.volume;
          cell = site_grown c.args.self.now.tallies c.receive.new.self c.args.block told.after told.judged.0;
        };
      };
      state = tt;
    }

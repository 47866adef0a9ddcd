-- What may be asked of `make`, and what the list of the made texts is asked of.
use Rattle.std.specs.Prelude.{◌≢◌, ◌≤◌, false, [], ◌∷◌, AllPairs, Some, None, codes}
use Rattle.front_end.specs.declared.format.Format.TheVariants.{Verilog}
use Rattle.requests.specs.Asked.{FindAsked, MakeAsked}
use Rattle.find_cmd.specs.Asked.{IsListing}

-- the list of the made design and trace: the design is in Verilog, the top is `made`, the clock is `clk`, the trace is read by itself, it goes on from no session, and no
-- waves and no checkpoints are written
abbrev pub finding_of : MakeAsked → FindAsked
finding_of asked = record {
  sources = record {
    texts = record {
      design = asked.design;
      format = Verilog;
      top = codes "made";
      traces = asked.trace ∷ [];
      scope = None;
      zero_inputs = false;
    };
    clock = Some (codes "clk");
  };
  listing = asked.listing;
  resume = None;
  waves = None;
  checkpoints = None;
}

-- what may be asked; the four texts that are written have names of their own
pub record IsAsked (asked : MakeAsked) : Type 0 where
  pub number : asked.number ≤ 9999
  pub listing : IsListing asked.listing
  pub apart : AllPairs (λ one other. one ≢ other) (asked.listing.log ∷ asked.listing.report ∷ asked.design ∷ asked.trace ∷ [])

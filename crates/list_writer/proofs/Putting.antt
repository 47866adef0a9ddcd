-- What is left where there is no memory for the text of a write.
use Rattle.std.proofs.Common.{ℕ, List, [], ◌∷◌, Option, refl, sym, arith}
use Rattle.std.proofs.lemmas.List.{append-nil}
use Rattle.write_order.specs.Writes.{AreBegun, Write, on_shelf, on_sink}

pub nothing-put : (write : Write) (written : List ℕ → Option (List ℕ)) (printed : List ℕ)
    → AreBegun (write ∷ []) (on_shelf written written printed)
nothing-put write written printed = record {
  count = 0;
  within = omega (arith);
  done = record { texts = λ name. refl; printed = sym (append-nil printed) };
}

pub nothing-printed : (write : Write) (written : List ℕ → Option (List ℕ)) (printed : List ℕ)
    → AreBegun (write ∷ []) (on_sink written printed printed)
nothing-printed write written printed = nothing-put write written printed

pub ruleset put_rules = (nothing-put, nothing-printed)

use Rattle.std.proofs.Common.{◌≡◌, ◌∙◌, Bool, true, false, is_some, not, ◌&&◌, ap, sym}
use Rattle.loc_base.proofs.ShelfBools.{not-not}
use Rattle.loc_base.specs.NameTable.{number_of, has_number}
use Rattle.aiger_rules.proofs.NamingSteps.{stays-same}
use Rattle.aiger_rules.proofs.DoubleSteps.{met-shared, met-own}
use Rattle.aiger_rules.proofs.naming.is_met_again.Goals as goal

pub returns-then-is_none : goal.returns-then-is_none
returns-then-is_none c =
    let own : has_number c.args.shared.now c.args.name.now ≡ false = ap is_some (sym c.find.ensures) ∙ c.is_none.ensures ∙ ap not c.if-is_none.true in
    record {
      again = sym (ap (λ (b : Bool). b && has_number c.args.met.now c.args.name.now) own);
      met = λ other. met-own (has_number c.args.shared.now) (has_number c.args.met.now) c.args.name.now other own;
    }

pub returns : goal.returns
returns c =
    let known : has_number c.args.shared.now c.args.name.now ≡ true = ap is_some (sym c.find.ensures) ∙ c.is_none.ensures ∙ ap not c.if-is_none.false in
    record {
      again = ap not c.in_ok-added.ensures.fresh ∙ not-not (has_number c.args.met.now c.args.name.now)
          ∙ sym (ap (λ (b : Bool). b && has_number c.args.met.now c.args.name.now) known);
      met = λ other.
          met-shared (has_number c.args.shared.now) (number_of c.args.met.now) (number_of c.add.new.self) c.args.name.now c.in_ok-added.added known
          c.in_ok-added.ensures.fresh c.in_ok-added.ensures.added (stays-same c.args.met.now c.add.new.self c.in_ok-added.added c.in_ok-added.ensures.stays) other;
    }
